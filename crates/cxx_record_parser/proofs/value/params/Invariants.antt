use Rattle.std.proofs.Common.{◌≤◌, [], ◌∷◌, length}
use Rattle.cxx_grammar.specs.Table.{ParamsEnd, MoreParamsEnd}
use Rattle.cxx_grammar.specs.Event.{State}
use Rattle.cxx_grammar.specs.invariants.Run.{TasksLead}
use Rattle.cxx_record_parser.proofs.Series.{ParamsSoFar}
use Rattle.cxx_record_parser.proofs.value.params.Given as goal

abbrev pub invariant-loop-items : goal.invariant-loop-items
invariant-loop-items l = record {
  shorter : length l.left ≤ length l.fn.rest;
  reads : ParamsSoFar l.text l.fn.rest l.left l.items;
  follows : (s : State) → TasksLead s (ParamsEnd ∷ []) l.fn.rest s (MoreParamsEnd ∷ []) l.left;
}

abbrev pub decreases-loop-items : goal.decreases-loop-items
decreases-loop-items l = length l.left
