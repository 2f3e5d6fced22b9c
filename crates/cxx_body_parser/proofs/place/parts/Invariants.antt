use Rattle.std.proofs.Common.{◌≤◌, [], ◌∷◌, length}
use Rattle.cxx_grammar.specs.Table.{Use, Named, Tail}
use Rattle.cxx_grammar.specs.Event.{State}
use Rattle.cxx_grammar.specs.invariants.Run.{TasksLead}
use Rattle.cxx_body_parser.proofs.Lists.{PartsSoFar}
use Rattle.cxx_body_parser.proofs.place.parts.Given as goal

abbrev pub invariant-loop-items : goal.invariant-loop-items
invariant-loop-items l = record {
  shorter : length l.left ≤ length l.fn.rest;
  reads : PartsSoFar l.text.bytes.now l.name l.fn.rest l.left l.items;
  follows : (s : State) (u : Use) → TasksLead s (Named u ∷ []) l.fn.rest s (Tail u ∷ []) l.left;
}

abbrev pub decreases-loop-items : goal.decreases-loop-items
decreases-loop-items l = length l.left
