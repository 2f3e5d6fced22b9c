use Rattle.std.proofs.Common.{rules, refl, ◌∷◌, [], ◌∙◌}
use Rattle.cxx_syntax.specs.Statements.{an_init, no_init}
use Rattle.cxx_grammar.specs.declared.sort.Sort.TheVariants.{Semicolon, Assign}
use Rattle.cxx_grammar.specs.Table.{Only, InitEnd, RightEnd}
use Rattle.cxx_grammar.proofs.Steps.{same_error, takes}
use Rattle.cxx_body_parser.proofs.statement.init.Goals as goal

pub returns-in_err-value-clause-follows : goal.returns-in_err-value-clause-follows
returns-in_err-value-clause-follows c = λ s. same_error (λ x. x.1.now) s s (InitEnd ∷ []) (RightEnd ∷ []) (Only Semicolon ∷ []) c.args.rest.now c.in_ok-sign.after.now _ c.in_err-value.field-0.0 (search rules) (λ k. takes _ InitEnd Assign (RightEnd ∷ []) _ _ s k c.in_ok-sign.ensures.ok (search rules) refl refl) (c.in_err-value.ensures.follows s)

pub returns-then-is_same-clause-reads : goal.returns-then-is_same-clause-reads
returns-then-is_same-clause-reads c = an_init (record { front = c.in_ok-sign.ensures.ok; sort = search rules }) c.in_ok-value.ensures.reads

pub returns-then-is_same-clause-follows : goal.returns-then-is_same-clause-follows
returns-then-is_same-clause-follows c = λ s k. takes _ InitEnd Assign (RightEnd ∷ []) _ _ s k c.in_ok-sign.ensures.ok (search rules) refl refl ∙ c.in_ok-value.ensures.follows s k

pub returns-clause-reads : goal.returns-clause-reads
returns-clause-reads c = no_init
