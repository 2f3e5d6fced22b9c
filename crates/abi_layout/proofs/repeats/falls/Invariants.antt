use Rattle.abi_layout.proofs.rules.RepeatLemmas.{AreFalling}
use Rattle.abi_layout.proofs.repeats.falls.Given as goal

-- the classes so far fall, and the bound is that of the last one
abbrev pub invariant-loop-part : goal.invariant-loop-part
invariant-loop-part l = AreFalling l.parts l.part-index l.bound
