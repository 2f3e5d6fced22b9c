use Rattle.abi_sound.specs.Places.{places_of}
use Rattle.cxx_overrider.proofs.MarkLemmas.{one_more}
use Rattle.abi_slots.proofs.RowParts.{rows_more}
use Rattle.abi_slots.proofs.class_rows.rows_of_each.Goals as goal

pub loop-number-preserved : goal.loop-number-preserved
loop-number-preserved g c =
    let l = places_of c.args.site.now.h.now (g.L.SoundLayout.rows c.args.site.now.layout.now) in
    record {
      size = one_more c.loop-number.rows.items c.push.new.self.items c.in_ok-row.row c.loop-number.number c.loop-number.invariant.size c.in_ok-push.ensures.items;
      rows_are = rows_more c.args.site.now.h.now l c.args.site.now.numbering.now.rows.items c.loop-number.rows.items c.push.new.self.items c.in_ok-row.row (record { 0 = c.loop-number.number }) c.loop-number.invariant.rows_are c.loop-number.invariant.size c.in_ok-row.ensures c.in_ok-push.ensures.items;
    }
