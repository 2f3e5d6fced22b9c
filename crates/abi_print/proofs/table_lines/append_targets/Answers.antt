use Rattle.std.proofs.Common.{ap, ◌+◌}
use Rattle.abi_sound.specs.Places.{places_of}
use Rattle.abi_print.proofs.TextLemmas.{targets_more}
use Rattle.abi_print.proofs.table_lines.append_targets.Goals as goal

pub loop-word-preserved : goal.loop-word-preserved
loop-word-preserved g c =
    let place = (places_of c.args.w.now.h.now (g.L.SoundLayout.rows c.args.w.now.layout.now)).place in
    let group = c.in_ok-group-2.group in
    let told = c.in_ok-group-2.ensures in
    record {
      lines = targets_more c.args.w.now.h.now place c.args.groups.now c.args.words.now c.loop-word.word-index c.word-item.result c.loop-word.number group.number group.name.items c.loop-word.text.items c.append_target_line.new.text.items _ c.loop-word-test.true c.word-item.is c.loop-word.invariant.lines c.in_ok-append_target_line.ensures told.number told.name;
      counted = ap (λ n. n + 1) c.loop-word.invariant.counted;
      known = told.number;
      named = told.name;
    }
