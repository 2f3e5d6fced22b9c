use Rattle.std.proofs.Common.{arith}
use Rattle.cxx_overrider.specs.invariants.Settling.{Holds}
use Rattle.std.proofs.lemmas.Option.{slice_get_within}
use Rattle.cxx_overrider.proofs.SettlingLemmas.{next_all}
use Rattle.cxx_overrider.proofs.settling.not_held.Goals as goal

pub loop-x-preserved : goal.loop-x-preserved
loop-x-preserved c = next_all (λ z. Holds c.args.h.now c.args.best z) c.args.xs.now c.loop-x.x-index _ c.loop-x-test.true c.loop-x.invariant (c.holds.ensures.0 c.if-not-holds.false)

pub returns : goal.returns
returns c = λ x ix. let lt = slice_get_within c.args.xs.now ix.number x ix.listed in let end = c.loop-x-test.false in c.loop-x.invariant ix.number x (omega arith) ix.listed
