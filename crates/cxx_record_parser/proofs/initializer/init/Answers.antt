use Rattle.std.proofs.Common.{rules, ap, ◌∷◌, []}
use Rattle.cxx_grammar.specs.declared.sort.Sort.TheVariants.{OpenParen, CloseParen}
use Rattle.cxx_grammar.specs.Table.{Only, AName, AConstant, AnInit}
use Rattle.cxx_grammar.proofs.Steps.{same_error}
use Rattle.cxx_syntax.specs.Parts as parts
use Rattle.cxx_record_parser.proofs.Turns as turns
use Rattle.cxx_record_parser.proofs.initializer.init.Goals as goal

pub returns-in_err-word-clause-follows : goal.returns-in_err-word-clause-follows
returns-in_err-word-clause-follows c = λ s. same_error (λ x. x.1.now) s s (AnInit ∷ []) (AName ∷ Only OpenParen ∷ AConstant ∷ Only CloseParen ∷ []) [] c.args.rest.now c.args.rest.now _ c.in_err-word.field-0.0 (search rules) (λ k. turns.an_init c.args.rest.now s k) (λ n k. c.in_err-word.ensures.follows s n (Only OpenParen ∷ AConstant ∷ Only CloseParen ∷ k))

pub returns-clause-reads : goal.returns-clause-reads
returns-clause-reads c = parts.a_member_init c.in_ok-word.ensures.reads c.in_ok-_open.ensures.reads c.in_ok-value.ensures.reads c.in_ok-_close.ensures.reads (ap (λ n. record { name = n; value = c.in_ok-value.value }) c.in_ok-name.ensures.ok)
