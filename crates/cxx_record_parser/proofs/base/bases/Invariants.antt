use Rattle.std.proofs.Common.{◌≤◌, [], ◌∷◌, length}
use Rattle.cxx_grammar.specs.Table.{ABase, BasesEnd}
use Rattle.cxx_grammar.specs.Event.{State}
use Rattle.cxx_grammar.specs.invariants.Run.{TasksLead}
use Rattle.cxx_record_parser.proofs.Series.{BasesSoFar}
use Rattle.cxx_record_parser.proofs.base.bases.Given as goal

abbrev pub invariant-loop-items : goal.invariant-loop-items
invariant-loop-items l = record {
  shorter : length l.left ≤ length l.fn.rest;
  reads : BasesSoFar l.text l.by_default l.fn.colon l.fn.rest l.left l.items;
  follows : (s : State) → TasksLead s (ABase ∷ BasesEnd ∷ []) l.fn.rest s (BasesEnd ∷ []) l.left;
}

abbrev pub decreases-loop-items : goal.decreases-loop-items
decreases-loop-items l = length l.left
