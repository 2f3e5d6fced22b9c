use Rattle.std.proofs.Common.{rules, ◌∷◌, []}
use Rattle.cxx_grammar.specs.declared.sort.Sort.TheVariants.{Colon, Semicolon}
use Rattle.cxx_grammar.specs.Table.{Only, ANumber, AfterDeclared, AfterScalar}
use Rattle.cxx_grammar.proofs.Steps.{same_error}
use Rattle.cxx_syntax.specs.Statements.{a_scalar}
use Rattle.cxx_record_parser.specs.invariants.Readers.{outside}
use Rattle.cxx_record_parser.proofs.Turns as turns
use Rattle.cxx_decl_parser.proofs.class_part.after_scalar.Goals as goal

pub returns-in_err-part-clause-follows : goal.returns-in_err-part-clause-follows
returns-in_err-part-clause-follows c = λ m. same_error (λ x. x.1.now) (outside m) (outside m) (AfterScalar ∷ []) (Only Colon ∷ ANumber ∷ Only Semicolon ∷ []) ([]) c.args.rest.now c.args.rest.now _ c.in_err-part.field-0.0 (search rules) (λ k. turns.width_begins _ _ _ (outside m) k c.in_ok-sign.ensures.ok (search rules)) (c.in_err-part.ensures.follows (outside m))

pub returns-in_err-part-2-clause-follows : goal.returns-in_err-part-2-clause-follows
returns-in_err-part-2-clause-follows c = λ m. same_error (λ x. x.1.now) (outside m) (outside m) (AfterScalar ∷ []) (AfterDeclared ∷ []) ([]) c.args.rest.now c.args.rest.now _ c.in_err-part-2.field-0.0 (search rules) (λ k. turns.no_width _ _ _ (outside m) k c.in_ok-sign.ensures.ok (search rules)) (c.in_err-part-2.ensures.follows m)

pub returns-clause-reads : goal.returns-clause-reads
returns-clause-reads c = λ ts a f v n. c.in_ok-part-2.ensures.reads ts a f (a_scalar v) n
