use Rattle.std.proofs.Common.{◌+◌, ◌≤◌, Bool, List, [], ◌∷◌, length}
use Rattle.cxx_grammar.specs.Table.{PartsEnd}
use Rattle.cxx_grammar.specs.invariants.Run.{TasksLead}
use Rattle.cxx_syntax.specs.declared.part.ClassPart.{ClassPart}
use Rattle.cxx_record_parser.specs.invariants.Readers.{outside, IsDraft}
use Rattle.cxx_record_parser.proofs.Series.{PartsSoFar}
use Rattle.cxx_decl_parser.proofs.class_part.parts.Given as goal

abbrev pub invariant-loop-draft : goal.invariant-loop-draft
invariant-loop-draft l = record {
  shorter : length l.left ≤ length l.fn.rest;
  reads : (done : List ClassPart) × PartsSoFar l.text.bytes.now l.by_default l.fn.rest l.is_public l.left done × IsDraft l.text.bytes.now l.class done l.draft × (length done + length l.left ≤ length l.fn.rest);
  follows : (m : Bool) → TasksLead (outside m) (PartsEnd ∷ []) l.fn.rest (outside m) (PartsEnd ∷ []) l.left;
}

abbrev pub decreases-loop-draft : goal.decreases-loop-draft
decreases-loop-draft l = length l.left
