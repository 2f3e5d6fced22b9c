use Rattle.std.proofs.Common.{rules, sym, ◌∷◌, [], ◌∙◌}
use Rattle.cxx_syntax.specs.Statements.{no_result, a_result}
use Rattle.cxx_grammar.specs.declared.sort.Sort.TheVariants.{Semicolon}
use Rattle.cxx_grammar.specs.Table.{Only, ResultEnd, AnOperand}
use Rattle.cxx_grammar.proofs.Tails as tails
use Rattle.cxx_grammar.proofs.Tails.{result_begins}
use Rattle.cxx_grammar.proofs.Steps.{same_error}
use Rattle.cxx_body_parser.proofs.statement.result_of.Goals as goal

pub returns-then-is_same-clause-reads : goal.returns-then-is_same-clause-reads
returns-then-is_same-clause-reads c = no_result

pub returns-then-is_same-clause-follows : goal.returns-then-is_same-clause-follows
returns-then-is_same-clause-follows c = λ s k. tails.no_result _ _ _ s k c.in_ok-first.ensures.ok (c.is_same.ensures.equal c.if-is_same.true)

pub returns-in_err-value-clause-follows : goal.returns-in_err-value-clause-follows
returns-in_err-value-clause-follows c = λ s. same_error (λ x. x.1.now) s s (ResultEnd ∷ []) (AnOperand ∷ Only Semicolon ∷ []) (Only Semicolon ∷ []) c.args.rest.now c.args.rest.now _ c.in_err-value.field-0.0 (search rules) (λ k. result_begins _ _ _ s k c.in_ok-first.ensures.ok (sym c.is_same.ensures.same ∙ c.if-is_same.false)) (λ n k. c.in_err-value.ensures.follows s n (Only Semicolon ∷ k))

pub returns-clause-reads : goal.returns-clause-reads
returns-clause-reads c = a_result c.in_ok-value.ensures.reads

pub returns-clause-follows : goal.returns-clause-follows
returns-clause-follows c = λ s k. result_begins _ _ _ s k c.in_ok-first.ensures.ok (sym c.is_same.ensures.same ∙ c.if-is_same.false) ∙ c.in_ok-value.ensures.follows s (Only Semicolon ∷ k)
