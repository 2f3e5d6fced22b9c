use Rattle.cxx_overrider.proofs.CovarianceLemmas.{first_mismatch, first_incomplete, first_ambiguous, fine_return}
use Rattle.cxx_overrider.proofs.covariance.return_fault.Goals as goal

pub returns-then-faults : goal.returns-then-faults
returns-then-faults c = first_mismatch c.args.h.now c.keeps.ensures c.args.f c.all_faults-faults.result c.all_faults-faults.ensures c.if-faults.true

pub returns-then-faults-2 : goal.returns-then-faults-2
returns-then-faults-2 c = first_incomplete c.args.h.now c.keeps.ensures c.args.f c.all_faults-faults.result c.all_faults-faults.ensures c.if-faults.false c.if-faults-2.true

pub returns-then-faults-3 : goal.returns-then-faults-3
returns-then-faults-3 c = first_ambiguous c.args.h.now c.keeps.ensures c.args.f c.all_faults-faults.result c.all_faults-faults.ensures c.if-faults.false c.if-faults-2.false c.if-faults-3.true

pub returns : goal.returns
returns c = fine_return c.args.h.now c.keeps.ensures c.args.f c.all_faults-faults.result c.all_faults-faults.ensures c.if-faults.false c.if-faults-2.false c.if-faults-3.false
