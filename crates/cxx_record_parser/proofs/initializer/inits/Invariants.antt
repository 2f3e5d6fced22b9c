use Rattle.std.proofs.Common.{◌≤◌, [], ◌∷◌, length}
use Rattle.cxx_grammar.specs.Table.{ConstructorEnd, InitsEnd}
use Rattle.cxx_grammar.specs.Event.{State}
use Rattle.cxx_grammar.specs.invariants.Run.{TasksLead}
use Rattle.cxx_record_parser.proofs.Series.{InitsSoFar}
use Rattle.cxx_record_parser.proofs.initializer.inits.Given as goal

abbrev pub invariant-loop-items : goal.invariant-loop-items
invariant-loop-items l = record {
  shorter : length l.left ≤ length l.fn.rest;
  reads : InitsSoFar l.text l.fn.rest l.left l.items;
  follows : (s : State) → TasksLead s (ConstructorEnd ∷ []) l.fn.rest s (InitsEnd ∷ []) l.left;
}

abbrev pub decreases-loop-items : goal.decreases-loop-items
decreases-loop-items l = length l.left
