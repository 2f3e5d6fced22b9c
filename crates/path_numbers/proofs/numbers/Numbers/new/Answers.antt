use Rattle.std.proofs.Common.{◌∙◌, ap, length, ◌+◌}
use Rattle.foundation.proofs.Places.{length_pushed}
use Rattle.path_numbers.proofs.Counting.{are_small}
use Rattle.path_numbers.proofs.Rows.{rows_more}
use Rattle.path_numbers.proofs.numbers.Numbers.new.Goals as goal

pub row_of-requires-clause-small : goal.row_of-requires-clause-small
row_of-requires-clause-small c = are_small c.args.h.now c.keeps.ensures c.requires.limits

pub loop-number-preserved : goal.loop-number-preserved
loop-number-preserved c = record {
  size = ap length c.in_ok-push.ensures.items ∙ length_pushed c.loop-number.rows.items c.in_ok-row.row ∙ ap (λ n. n + 1) c.loop-number.invariant.size;
  rows = rows_more c.args.h.now c.loop-number.rows.items c.push.new.self.items (record { 0 = c.loop-number.number }) c.in_ok-row.row c.loop-number.invariant.rows c.loop-number.invariant.size c.in_ok-row.ensures c.in_ok-push.ensures.items;
}
