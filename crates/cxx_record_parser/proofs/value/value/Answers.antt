use Rattle.std.proofs.Common.{rules, refl, sym, ap, ◌∷◌, ◌++◌, [], ◌∙◌}
use Rattle.cxx_grammar.specs.Table.{AName, scalar_rest}
use Rattle.cxx_grammar.specs.invariants.Run.{run}
use Rattle.cxx_grammar.proofs.Steps.{same_error}
use Rattle.cxx_syntax.specs.Statements.{a_scalar, a_class_pointer}
use Rattle.cxx_record_parser.specs.invariants.Readers.{value_rest}
use Rattle.cxx_record_parser.proofs.Turns as turns
use Rattle.cxx_record_parser.proofs.value.value.Goals as goal

pub returns-then-is_name-clause-reads : goal.returns-then-is_name-clause-reads
returns-then-is_name-clause-reads c = a_class_pointer (record { front = refl; name = search rules }) c.in_ok-_star.ensures.reads c.in_ok-class.ensures.ok

pub returns-in_err-number-clause-follows : goal.returns-in_err-number-clause-follows
returns-in_err-number-clause-follows c = λ s. same_error (λ x. x.1.now) s s (value_rest c.args.first.sort) (scalar_rest c.args.first.sort) (AName ∷ []) c.args.rest.now c.args.rest.now _ c.in_err-number.field-0.0 (search rules) (λ k. ap (λ ms. run c.args.rest.now s (ms ++ k)) (turns.scalar_leaves c.args.first.sort (sym c.is_name.ensures ∙ c.if-is_name.false))) (c.in_err-number.ensures.follows s)

pub returns-clause-reads : goal.returns-clause-reads
returns-clause-reads c = a_scalar c.in_ok-number.ensures.reads
