use Rattle.std.proofs.Common.{◌∙◌, ◌+◌, List, subst, arith}
use Rattle.foundation.proofs.Members.{Has, has_from_contains}
use Rattle.text_bytes.specs.declared.rows.LeafRow.{LeafRow}
use Rattle.text_bytes.proofs.RowPlaces.{row_near}
use Rattle.text_bytes.proofs.dump.raw_items.Goals as goal

pub push_rows-requires : goal.push_rows-requires
push_rows-requires g c = λ row has.
    let h = c.args.h.now in
    let rows = g.L.SoundLayout.rows c.args.layout.now in
    let sound = g.met.L.SoundLayout.sound c.args.layout.now h c.requires.layout in
    row_near h rows c.keeps.ensures sound (c.args.c.0 + 1) c.args.c row c.requires.known
    (subst (λ (items : List LeafRow). Has items row) (c.as_slice.ensures.value ∙ c.in_ok-rows.ensures (c.args.c.0 + 1) (omega arith)) (has_from_contains c.as_slice.result.now row has))
