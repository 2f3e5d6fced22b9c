use Rattle.std.proofs.Common.{◌≤◌, [], ◌∷◌, length}
use Rattle.cxx_grammar.specs.Table.{ArgumentsEnd, MoreArgumentsEnd}
use Rattle.cxx_grammar.specs.Event.{State}
use Rattle.cxx_grammar.specs.invariants.Run.{TasksLead}
use Rattle.cxx_body_parser.proofs.Lists.{ArgumentsSoFar}
use Rattle.cxx_body_parser.proofs.place.arguments.Given as goal

abbrev pub invariant-loop-items : goal.invariant-loop-items
invariant-loop-items l = record {
  shorter : length l.left ≤ length l.fn.rest;
  reads : ArgumentsSoFar l.text.bytes.now l.fn.rest l.left l.items;
  follows : (s : State) → TasksLead s (ArgumentsEnd ∷ []) l.fn.rest s (MoreArgumentsEnd ∷ []) l.left;
}

abbrev pub decreases-loop-items : goal.decreases-loop-items
decreases-loop-items l = length l.left
