use Rattle.std.proofs.Common.{rules, sym, ◌∙◌, ◌∷◌, []}
use Rattle.cxx_grammar.specs.Table.{AnOperand, AConstant}
use Rattle.cxx_grammar.proofs.Tails.{constant_operand}
use Rattle.cxx_grammar.proofs.Steps.{same_error}
use Rattle.cxx_syntax.proofs.operand.operand.Goals as goal

pub returns-in_err-value-clause-follows : goal.returns-in_err-value-clause-follows
returns-in_err-value-clause-follows c = λ s. same_error (λ x. x.1.now) s s (AnOperand ∷ []) (AConstant ∷ []) [] c.args.rest.now c.args.rest.now _ c.in_err-value.field-0.0 (search rules) (λ k. constant_operand _ _ _ s k c.in_ok-first.ensures.ok (sym c.is_pointer.ensures ∙ c.if-is_pointer.false)) (c.in_err-value.ensures.follows s)
