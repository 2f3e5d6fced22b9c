use Rattle.std.proofs.Common.{◌≤◌, false, List, [], ◌∷◌, length, is_some}
use Rattle.cxx_grammar.specs.Table.{ItemsEnd}
use Rattle.cxx_grammar.specs.invariants.Run.{TasksLead}
use Rattle.cxx_syntax.specs.declared.part.Item.{Item}
use Rattle.cxx_syntax.specs.Sources.{AreItemsOf}
use Rattle.cxx_record_parser.specs.invariants.Readers.{outside}
use Rattle.cxx_record_parser.proofs.Series.{ItemsSoFar}
use Rattle.cxx_decl_parser.proofs.source.items.Given as goal

abbrev pub invariant-loop-source : goal.invariant-loop-source
invariant-loop-source l = record {
  shorter : length l.left ≤ length l.fn.rest;
  reads : (done : List Item) × ItemsSoFar l.text.bytes.now l.fn.rest l.left done × AreItemsOf l.source done;
  follows : TasksLead (outside false) (ItemsEnd ∷ []) l.fn.rest (outside (is_some l.source.main)) (ItemsEnd ∷ []) l.left;
}

abbrev pub decreases-loop-source : goal.decreases-loop-source
decreases-loop-source l = length l.left
