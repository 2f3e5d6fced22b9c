use Rattle.std.proofs.Common.{take}
use Rattle.std.specs.List.{flat_map}
use Rattle.path_model.specs.Uses.{argument_uses}
use Rattle.path_tables.specs.Asked.{AreAnswers}
use Rattle.path_refusals.specs.invariants.Pieces.{SightRefuses}
use Rattle.path_refusals.proofs.operands.arguments.Given as goal

-- the rule is that of the arguments so far
abbrev pub invariant-loop-a : goal.invariant-loop-a
invariant-loop-a l = record {
  answers : AreAnswers l.moment.world.h.now l.answers;
  so_far : SightRefuses l.moment.world.h.now l.moment.heap.now l.scene (λ s. flat_map (argument_uses s) (take l.a-index l.list)) l.first;
}
