use Rattle.cxx_overrider.proofs.MarkLemmas.{mark_rows_more, one_more}
use Rattle.cxx_overrider.proofs.virtuals.virtual_rows.Goals as goal

pub loop-number-preserved : goal.loop-number-preserved
loop-number-preserved c = record {
  size = one_more _ _ _ _ c.loop-number.invariant.size c.in_ok-push.ensures.items;
  marks = mark_rows_more _ _ _ _ _ _ _ _ c.requires c.loop-number.invariant.marks c.loop-number.invariant.size c.in_ok-row.ensures c.in_ok-push.ensures.items;
}
