use Rattle.std.proofs.Common.{drop}
use Rattle.abi_layout.specs.invariants.Alignments.{IsPlacing}
use Rattle.abi_layout.proofs.rules.PlacingLemmas.{Completes, HasBits}
use Rattle.abi_layout.proofs.placing.place_all.Given as goal

-- the components so far are placed
abbrev pub invariant-loop-component : goal.invariant-loop-component
invariant-loop-component l = record {
  completes : Completes l.fn.placing.stage l.components l.places l.placing.stage (drop l.component-index l.components);
  bits : HasBits l.fn.placing.stage l.components l.places l.bits l.placing.stage (drop l.component-index l.components);
  placing : IsPlacing l.placing;
}
