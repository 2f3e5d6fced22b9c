use Rattle.abi_layout.proofs.rules.RepeatLemmas.{AreSingle}
use Rattle.abi_layout.proofs.repeats.has_repeat.Given as goal

-- none of the parts so far stands twice
abbrev pub invariant-loop-part : goal.invariant-loop-part
invariant-loop-part l = AreSingle l.parts l.part-index l.table
