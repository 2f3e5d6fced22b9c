use Rattle.cxx_overrider.proofs.MarkLemmas.{marks_more}
use Rattle.cxx_overrider.proofs.within.part_row.Goals as goal

pub loop-n-preserved : goal.loop-n-preserved
loop-n-preserved c = marks_more _ _ _ _ _ _ _ c.loop-n.invariant c.part_answer.ensures c.in_ok-put_mark.ensures
