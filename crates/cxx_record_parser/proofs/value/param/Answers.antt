use Rattle.std.proofs.Common.{rules, refl, ◌∷◌, [], ◌∙◌}
use Rattle.cxx_grammar.specs.Table.{AName, AParam}
use Rattle.cxx_grammar.proofs.Steps.{same_error}
use Rattle.cxx_syntax.specs.Parts as parts
use Rattle.cxx_record_parser.specs.invariants.Readers.{value_rest}
use Rattle.cxx_record_parser.proofs.Turns as turns
use Rattle.cxx_record_parser.proofs.value.param.Goals as goal

pub returns-in_err-ty-clause-follows : goal.returns-in_err-ty-clause-follows
returns-in_err-ty-clause-follows c = λ s. same_error (λ x. x.1.now) s s (AParam ∷ []) (value_rest c.in_ok-first.first.sort) ([]) c.args.rest.now c.in_ok-first.after.now _ c.in_err-ty.field-0.0 (search rules) (λ k. turns.param_begins _ _ _ s k c.in_ok-first.ensures.ok (search rules)) (c.in_err-ty.ensures.follows s)

pub returns-in_err-word-clause-follows : goal.returns-in_err-word-clause-follows
returns-in_err-word-clause-follows c = λ s. same_error (λ x. x.1.now) s s (AParam ∷ []) (AName ∷ []) ([]) c.args.rest.now c.in_ok-ty.after.now _ c.in_err-word.field-0.0 (search rules) (λ k. turns.param_begins _ _ _ s k c.in_ok-first.ensures.ok (search rules) ∙ c.in_ok-ty.ensures.follows s k) (c.in_err-word.ensures.follows s)

pub returns-clause-reads : goal.returns-clause-reads
returns-clause-reads c = parts.a_param {v = c.in_ok-ty.ty} (record { rest = _; front = c.in_ok-first.ensures.ok }) (rw c.in_ok-first.ensures.ok c.in_ok-ty.ensures.reads) c.in_ok-word.ensures.reads (rw c.in_ok-name.ensures.ok refl)
