use Rattle.std.proofs.Common.{rules, refl, ◌∷◌, []}
use Rattle.cxx_grammar.specs.declared.sort.Sort.TheVariants.{Star, Assign, Arrow}
use Rattle.cxx_grammar.specs.Table.{AfterName, AName, InitEnd, RightEnd, Member, Written}
use Rattle.cxx_grammar.proofs.Steps.{same_answer, takes}
use Rattle.cxx_body_parser.proofs.statement.name_statement.Goals as goal

pub returns-in-Star-clause-reads : goal.returns-in-Star-clause-reads
returns-in-Star-clause-reads c = rw c.in_ok-sign.ensures.ok c.pointer_declaration.ensures.reads

pub returns-in-Star-clause-follows : goal.returns-in-Star-clause-follows
returns-in-Star-clause-follows c = λ s. same_answer (λ x. x.1.now) s s (AfterName ∷ []) (AName ∷ InitEnd ∷ []) [] c.args.rest.now c.in_ok-sign.after.now _ (λ k. takes _ AfterName Star (AName ∷ InitEnd ∷ []) _ _ s k c.in_ok-sign.ensures.ok (search rules) refl refl) (c.pointer_declaration.ensures.follows s)

pub returns-in-Assign-clause-reads : goal.returns-in-Assign-clause-reads
returns-in-Assign-clause-reads c = rw c.in_ok-sign.ensures.ok c.assignment.ensures.reads

pub returns-in-Assign-clause-follows : goal.returns-in-Assign-clause-follows
returns-in-Assign-clause-follows c = λ s. same_answer (λ x. x.1.now) s s (AfterName ∷ []) (RightEnd ∷ []) [] c.args.rest.now c.in_ok-sign.after.now _ (λ k. takes _ AfterName Assign (RightEnd ∷ []) _ _ s k c.in_ok-sign.ensures.ok (search rules) refl refl) (c.assignment.ensures.follows s)

pub returns-in-Arrow-clause-reads : goal.returns-in-Arrow-clause-reads
returns-in-Arrow-clause-reads c = rw c.in_ok-sign.ensures.ok c.pointer_statement.ensures.reads

pub returns-in-Arrow-clause-follows : goal.returns-in-Arrow-clause-follows
returns-in-Arrow-clause-follows c = λ s. same_answer (λ x. x.1.now) s s (AfterName ∷ []) (AName ∷ Member Written ∷ []) [] c.args.rest.now c.in_ok-sign.after.now _ (λ k. takes _ AfterName Arrow (AName ∷ Member Written ∷ []) _ _ s k c.in_ok-sign.ensures.ok (search rules) refl refl) (c.pointer_statement.ensures.follows s)
