use Rattle.std.proofs.Common.{rules, refl, ◌∷◌, [], ◌∙◌}
use Rattle.cxx_grammar.specs.declared.sort.Sort.TheVariants.{Semicolon}
use Rattle.cxx_grammar.specs.Table.{Only, AName, Member, Written, end_tasks}
use Rattle.cxx_grammar.proofs.Steps.{same_error}
use Rattle.cxx_body_parser.proofs.statement.pointer_statement.Goals as goal

pub returns-in_err-written-in-Place-clause-follows : goal.returns-in_err-written-in-Place-clause-follows
returns-in_err-written-in-Place-clause-follows c = λ s. same_error (λ x. x.1.now) s s (AName ∷ Member Written ∷ []) (end_tasks Written) [] c.args.rest.now c.in_ok-read.rest.now _ c.in_err-written-in-Place.field-0.0 (search rules) (λ k. rw c.in-Place.is at (c.in_ok-read.ensures.follows s Written k)) (c.in_err-written-in-Place.ensures.follows s)

pub returns-in_ok-written-in-Place-clause-reads : goal.returns-in_ok-written-in-Place-clause-reads
returns-in_ok-written-in-Place-clause-reads c = c.in_ok-written-in-Place.ensures.reads _ (record { rest = _; front = refl }) (rw c.in-Place.is at (c.in_ok-read.ensures.reads (c.args.front.sign ∷ c.args.rest.now) c.args.front.sign (record { front = refl; sort = c.requires.sign })))

pub returns-in_ok-written-in-Place-clause-follows : goal.returns-in_ok-written-in-Place-clause-follows
returns-in_ok-written-in-Place-clause-follows c = λ s k. (rw c.in-Place.is at (c.in_ok-read.ensures.follows s Written k)) ∙ c.in_ok-written-in-Place.ensures.follows s k

pub returns-in_err-called-in-Call-clause-follows : goal.returns-in_err-called-in-Call-clause-follows
returns-in_err-called-in-Call-clause-follows c = λ s. same_error (λ x. x.1.now) s s (AName ∷ Member Written ∷ []) (Only Semicolon ∷ []) [] c.args.rest.now c.in_ok-read.rest.now _ c.in_err-called-in-Call.field-0.0 (search rules) (λ k. rw c.in-Call.is at (c.in_ok-read.ensures.follows s Written k)) (c.in_err-called-in-Call.ensures.follows s)

pub returns-in_ok-called-in-Call-clause-reads : goal.returns-in_ok-called-in-Call-clause-reads
returns-in_ok-called-in-Call-clause-reads c = c.in_ok-called-in-Call.ensures.reads _ _ (record { rest = _; front = refl }) (rw c.in-Call.is at (c.in_ok-read.ensures.reads (c.args.front.sign ∷ c.args.rest.now) c.args.front.sign (record { front = refl; sort = c.requires.sign })))

pub returns-in_ok-called-in-Call-clause-follows : goal.returns-in_ok-called-in-Call-clause-follows
returns-in_ok-called-in-Call-clause-follows c = λ s k. (rw c.in-Call.is at (c.in_ok-read.ensures.follows s Written k)) ∙ c.in_ok-called-in-Call.ensures.follows s k
