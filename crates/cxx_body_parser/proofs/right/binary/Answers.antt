use Rattle.std.proofs.Common.{rules, sym, ◌∷◌, [], ◌∙◌}
use Rattle.cxx_grammar.specs.declared.sort.Sort.TheVariants.{Semicolon}
use Rattle.cxx_grammar.specs.Table.{Only, AnOperand, AfterOperand}
use Rattle.cxx_grammar.proofs.Tails.{operator}
use Rattle.cxx_grammar.proofs.Steps.{same_error}
use Rattle.cxx_syntax.specs.Operands.{an_operand, a_binary}
use Rattle.cxx_body_parser.proofs.right.binary.Goals as goal

pub returns-in-None-clause-reads : goal.returns-in-None-clause-reads
returns-in-None-clause-reads c = λ ts v. an_operand v

pub returns-in_err-value-in-Some-clause-follows : goal.returns-in_err-value-in-Some-clause-follows
returns-in_err-value-in-Some-clause-follows c = λ s. same_error (λ x. x.1.now) s s (AfterOperand ∷ []) (AnOperand ∷ Only Semicolon ∷ []) (Only Semicolon ∷ []) c.args.rest.now c.in_ok-sign.after.now _ c.in_err-value-in-Some.field-0.0 (search rules) (λ k. operator _ _ _ s k c.in_ok-sign.ensures.ok c.in-Some.ensures.some) (λ n k. c.in_err-value-in-Some.ensures.follows s n (Only Semicolon ∷ k))

pub returns-in_ok-value-in-Some-clause-reads : goal.returns-in_ok-value-in-Some-clause-reads
returns-in_ok-value-in-Some-clause-reads c = λ ts v. a_binary v (record { front = c.in_ok-sign.ensures.ok; operator = sym c.in-Some.ensures.value }) c.in_ok-value-in-Some.ensures.reads

pub returns-in_ok-value-in-Some-clause-follows : goal.returns-in_ok-value-in-Some-clause-follows
returns-in_ok-value-in-Some-clause-follows c = λ s k. operator _ _ _ s k c.in_ok-sign.ensures.ok c.in-Some.ensures.some ∙ c.in_ok-value-in-Some.ensures.follows s (Only Semicolon ∷ k)
