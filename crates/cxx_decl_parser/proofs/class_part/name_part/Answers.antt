use Rattle.std.proofs.Common.{rules, refl, ◌∷◌, []}
use Rattle.cxx_grammar.specs.Table.{AName, FieldEnd, AfterType}
use Rattle.cxx_grammar.proofs.Steps.{same_error}
use Rattle.cxx_syntax.specs.Statements.{a_class_pointer}
use Rattle.cxx_syntax.specs.Parts as parts
use Rattle.cxx_record_parser.specs.invariants.Readers.{outside}
use Rattle.cxx_record_parser.proofs.Turns as turns
use Rattle.cxx_decl_parser.proofs.class_part.name_part.Goals as goal

pub returns-then-is_same-clause-reads : goal.returns-then-is_same-clause-reads
returns-then-is_same-clause-reads c = c.in_ok-part.ensures.reads _ (record { rest = _; front = refl }) (a_class_pointer (record { front = refl; name = c.requires }) (record { front = c.in_ok-sign.ensures.ok; sort = search rules }) c.in_ok-class.ensures.ok)

pub returns-clause-reads : goal.returns-clause-reads
returns-clause-reads c = c.in_ok-part-2.ensures.reads _ _ (record { rest = _; front = refl }) (parts.an_object_field (record { front = refl; name = c.requires }) c.in_ok-class-2.ensures.ok) c.in_ok-word.ensures.reads

pub returns-in_err-word-clause-follows : goal.returns-in_err-word-clause-follows
returns-in_err-word-clause-follows c = λ m. same_error (λ x. x.1.now) (outside m) (outside m) (AfterType ∷ []) (AName ∷ FieldEnd ∷ []) ([]) c.args.rest.now c.args.rest.now _ c.in_err-word.field-0.0 (search rules) (λ k. turns.object_field _ _ _ (outside m) k c.in_ok-sign.ensures.ok (search rules)) (λ n k. c.in_err-word.ensures.follows (outside m) n (FieldEnd ∷ k))
