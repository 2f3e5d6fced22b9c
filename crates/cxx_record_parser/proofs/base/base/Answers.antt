use Rattle.std.proofs.Common.{rules, refl, ◌∷◌, []}
use Rattle.cxx_grammar.specs.declared.sort.Sort.TheVariants.{Virtual}
use Rattle.cxx_grammar.specs.Table.{AName, BaseAfterVirtual, BaseAfterAccess, ABase}
use Rattle.cxx_grammar.proofs.Steps.{same_error, same_answer, takes}
use Rattle.cxx_syntax.specs.Parts as parts
use Rattle.cxx_record_parser.proofs.Turns as turns
use Rattle.cxx_record_parser.proofs.base.base.Goals as goal

pub returns-then-is_same-clause-follows : goal.returns-then-is_same-clause-follows
returns-then-is_same-clause-follows c = λ s. same_answer (λ x. x.1.now) s s (ABase ∷ []) (BaseAfterVirtual ∷ []) [] c.args.rest.now c.in_ok-first.after.now _ (λ k. takes _ ABase Virtual (BaseAfterVirtual ∷ []) _ _ s k c.in_ok-first.ensures.ok (search rules) refl refl) (c.base_after_virtual.ensures.follows s)

pub returns-in-Some-clause-follows : goal.returns-in-Some-clause-follows
returns-in-Some-clause-follows c = λ s. same_answer (λ x. x.1.now) s s (ABase ∷ []) (BaseAfterAccess ∷ []) [] c.args.rest.now c.in_ok-first.after.now _ (λ k. turns.access_base c.in-Some.is_public _ _ _ s k c.in_ok-first.ensures.ok (search rules)) (c.base_after_access.ensures.follows s)

pub returns-in_err-name-clause-follows : goal.returns-in_err-name-clause-follows
returns-in_err-name-clause-follows c = λ s. same_error (λ x. x.1.now) s s (ABase ∷ []) (AName ∷ []) ([]) c.args.rest.now c.args.rest.now _ c.in_err-name.field-0.0 (search rules) (λ k. turns.name_base _ _ _ s k c.in_ok-first.ensures.ok (search rules, search rules)) (c.in_err-name.ensures.follows s)

pub returns-clause-reads : goal.returns-clause-reads
returns-clause-reads c = parts.a_base c.in_ok-name.ensures.reads c.in_ok-base.ensures.ok
