use Rattle.std.proofs.Common.{rules, refl, ◌∷◌, ◌++◌, [], ◌∙◌, append_assoc}
use Rattle.cxx_grammar.specs.Table.{AName, AfterScalar, scalar_rest}
use Rattle.cxx_grammar.proofs.Steps.{same_error}
use Rattle.cxx_record_parser.specs.invariants.Readers.{outside}
use Rattle.cxx_decl_parser.proofs.class_part.scalar_part.Goals as goal

pub returns-in_err-ty-clause-follows : goal.returns-in_err-ty-clause-follows
returns-in_err-ty-clause-follows c = λ m. same_error (λ x. x.1.now) (outside m) (outside m) (scalar_rest c.args.front.first.sort ++ (AfterScalar ∷ [])) (scalar_rest c.args.front.first.sort ++ (AfterScalar ∷ [])) ([]) c.args.rest.now c.args.rest.now _ c.in_err-ty.field-0.0 (search rules) (λ k. refl) (λ n k. rw append_assoc (c.in_err-ty.ensures.follows (outside m) n (AfterScalar ∷ k)))

pub returns-in_err-word-clause-follows : goal.returns-in_err-word-clause-follows
returns-in_err-word-clause-follows c = λ m. same_error (λ x. x.1.now) (outside m) (outside m) (scalar_rest c.args.front.first.sort ++ (AfterScalar ∷ [])) (AName ∷ AfterScalar ∷ []) ([]) c.args.rest.now c.in_ok-ty.rest.now _ c.in_err-word.field-0.0 (search rules) (λ k. rw append_assoc (c.in_ok-ty.ensures.follows (outside m) (AfterScalar ∷ k))) (λ n k. c.in_err-word.ensures.follows (outside m) n (AfterScalar ∷ k))

pub returns-in_err-part-clause-follows : goal.returns-in_err-part-clause-follows
returns-in_err-part-clause-follows c = λ m. same_error (λ x. x.1.now) (outside m) (outside m) (scalar_rest c.args.front.first.sort ++ (AfterScalar ∷ [])) (AfterScalar ∷ []) ([]) c.args.rest.now c.in_ok-word.rest.now _ c.in_err-part.field-0.0 (search rules) (λ k. rw append_assoc (c.in_ok-ty.ensures.follows (outside m) (AfterScalar ∷ k)) ∙ c.in_ok-word.ensures.follows (outside m) (AfterScalar ∷ k)) (c.in_err-part.ensures.follows m)

pub returns-clause-reads : goal.returns-clause-reads
returns-clause-reads c = c.in_ok-part.ensures.reads _ _ (record { rest = _; front = refl }) c.in_ok-ty.ensures.reads c.in_ok-word.ensures.reads

pub returns-clause-follows : goal.returns-clause-follows
returns-clause-follows c = λ m k. rw append_assoc (c.in_ok-ty.ensures.follows (outside m) (AfterScalar ∷ k)) ∙ (c.in_ok-word.ensures.follows (outside m) (AfterScalar ∷ k) ∙ c.in_ok-part.ensures.follows m k)
