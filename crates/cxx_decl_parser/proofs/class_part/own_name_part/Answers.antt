use Rattle.std.proofs.Common.{rules, ◌∷◌, []}
use Rattle.cxx_grammar.specs.Table.{AfterType, AfterOwnName}
use Rattle.cxx_grammar.proofs.Steps.{same_error}
use Rattle.cxx_record_parser.specs.invariants.Readers.{outside}
use Rattle.cxx_record_parser.proofs.Turns as turns
use Rattle.cxx_decl_parser.proofs.class_part.own_name_part.Goals as goal

pub returns-then-is_same-clause-reads : goal.returns-then-is_same-clause-reads
returns-then-is_same-clause-reads c = rw c.in_ok-sign.ensures.ok (c.in_ok-part.ensures.reads _)

pub returns-in_err-part-2-clause-follows : goal.returns-in_err-part-2-clause-follows
returns-in_err-part-2-clause-follows c = λ m. same_error (λ x. x.1.now) (outside m) (outside m) (AfterOwnName ∷ []) (AfterType ∷ []) ([]) c.args.rest.now c.args.rest.now _ c.in_err-part-2.field-0.0 (search rules) (λ k. turns.no_constructor _ _ _ (outside m) k c.in_ok-sign.ensures.ok (search rules)) (c.in_err-part-2.ensures.follows m)
