use Rattle.std.proofs.Common.{rules, refl, ◌∷◌, [], ◌∙◌}
use Rattle.cxx_syntax.specs.Statements.{a_scalar}
use Rattle.cxx_grammar.specs.Table.{InitEnd, AName, scalar_rest}
use Rattle.std.proofs.Common.{◌++◌, append_assoc}
use Rattle.cxx_grammar.proofs.Steps.{same_error}
use Rattle.cxx_body_parser.proofs.statement.scalar_declaration.Goals as goal

pub returns-in_err-number-clause-follows : goal.returns-in_err-number-clause-follows
returns-in_err-number-clause-follows c = λ s. same_error (λ x. x.1.now) s s (scalar_rest c.args.first.sort ++ (InitEnd ∷ [])) (scalar_rest c.args.first.sort ++ (InitEnd ∷ [])) [] c.args.rest.now c.args.rest.now _ c.in_err-number.field-0.0 (search rules) (λ k. refl) (λ n k. rw append_assoc (c.in_err-number.ensures.follows s n (InitEnd ∷ k)))

pub returns-in_err-statement-clause-follows : goal.returns-in_err-statement-clause-follows
returns-in_err-statement-clause-follows c = λ s. same_error (λ x. x.1.now) s s (scalar_rest c.args.first.sort ++ (InitEnd ∷ [])) (AName ∷ InitEnd ∷ []) [] c.args.rest.now c.in_ok-number.rest.now _ c.in_err-statement.field-0.0 (search rules) (λ k. rw append_assoc (c.in_ok-number.ensures.follows s (InitEnd ∷ k))) (c.in_err-statement.ensures.follows s)

pub returns-clause-reads : goal.returns-clause-reads
returns-clause-reads c = c.in_ok-statement.ensures.reads _ (record { rest = _; front = refl }) (a_scalar c.in_ok-number.ensures.reads)

pub returns-clause-follows : goal.returns-clause-follows
returns-clause-follows c = λ s k. rw append_assoc (c.in_ok-number.ensures.follows s (InitEnd ∷ k)) ∙ c.in_ok-statement.ensures.follows s k
