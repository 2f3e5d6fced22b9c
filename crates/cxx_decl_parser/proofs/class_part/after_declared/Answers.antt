use Rattle.std.proofs.Common.{rules, ◌∷◌, []}
use Rattle.cxx_grammar.specs.Table.{FieldEnd, AfterDeclared}
use Rattle.cxx_grammar.proofs.Steps.{same_error}
use Rattle.cxx_syntax.specs.Parts as parts
use Rattle.cxx_record_parser.specs.invariants.Readers.{outside}
use Rattle.cxx_record_parser.proofs.Turns as turns
use Rattle.cxx_decl_parser.proofs.class_part.after_declared.Goals as goal

pub returns-then-is_same-clause-reads : goal.returns-then-is_same-clause-reads
returns-then-is_same-clause-reads c = λ ts a f v n. c.in_ok-part.ensures.reads _ ts (record { type = ts; behind = a; open_at = _; open_sign = _; is_virtual = parts.not_virtual; first = f; returns = parts.a_value_return v; name = n; sign = record { front = c.in_ok-sign.ensures.ok; sort = search rules } })

pub returns-clause-reads : goal.returns-clause-reads
returns-clause-reads c = λ ts a f v n. c.in_ok-part-2.ensures.reads ts a f (parts.a_value_field v) n

pub returns-in_err-part-2-clause-follows : goal.returns-in_err-part-2-clause-follows
returns-in_err-part-2-clause-follows c = λ m. same_error (λ x. x.1.now) (outside m) (outside m) (AfterDeclared ∷ []) (FieldEnd ∷ []) ([]) c.args.rest.now c.args.rest.now _ c.in_err-part-2.field-0.0 (search rules) (λ k. turns.field_ends _ _ _ (outside m) k c.in_ok-sign.ensures.ok (search rules)) (c.in_err-part-2.ensures.follows (outside m))
