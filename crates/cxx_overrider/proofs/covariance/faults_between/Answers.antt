use Rattle.cxx_overrider.proofs.CovarianceLemmas.{covariant_faults, other_faults}
use Rattle.cxx_overrider.proofs.covariance.faults_between.Goals as goal

pub returns-in-Some : goal.returns-in-Some
returns-in-Some c = covariant_faults c.args.h.now c.args.c c.args.t.now c.args.u.now c.in-Some.pair.derived c.in-Some.pair.base c.is_ambiguous_base.result c.in-Some.ensures c.is_ambiguous_base.ensures

pub returns-in-None : goal.returns-in-None
returns-in-None c = other_faults c.args.h.now c.args.c c.args.t.now c.args.u.now c.is_same_return.result c.in-None.ensures c.is_same_return.ensures
