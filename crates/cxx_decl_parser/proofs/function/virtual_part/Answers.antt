use Rattle.std.proofs.Common.{rules, refl, sym, ap, ◌∷◌, ◌++◌, [], ◌∙◌, append_assoc}
use Rattle.cxx_grammar.specs.declared.sort.Sort.TheVariants.{OpenParen}
use Rattle.cxx_grammar.specs.Table.{Only, AName, ParamsEnd, AfterVirtual, VirtualEnd}
use Rattle.cxx_grammar.specs.invariants.Run.{run}
use Rattle.cxx_grammar.proofs.Steps.{same_error}
use Rattle.cxx_syntax.specs.Parts as parts
use Rattle.cxx_record_parser.specs.invariants.Readers.{outside, value_rest}
use Rattle.cxx_record_parser.proofs.Turns as turns
use Rattle.cxx_decl_parser.proofs.function.virtual_part.Goals as goal

pub returns-then-is_same-clause-reads : goal.returns-then-is_same-clause-reads
returns-then-is_same-clause-reads c = λ is_public. c.in_ok-part.ensures.reads is_public _ (rw (← c.in_ok-word.ensures.ok) (parts.a_virtual (record { front = refl; sort = c.requires })))

pub returns-then-is_same-2-clause-reads : goal.returns-then-is_same-2-clause-reads
returns-then-is_same-2-clause-reads c = λ is_public. c.in_ok-part-2.ensures.reads is_public _ _ (parts.a_virtual (record { front = refl; sort = c.requires })) (record { rest = _; front = c.in_ok-word.ensures.ok }) (parts.a_void_return (record { front = c.in_ok-word.ensures.ok; sort = search rules }))

pub returns-clause-reads : goal.returns-clause-reads
returns-clause-reads c = λ is_public. c.in_ok-part-3.ensures.reads is_public _ _ (parts.a_virtual (record { front = refl; sort = c.requires })) (record { rest = _; front = c.in_ok-word.ensures.ok }) (parts.a_value_return (rw c.in_ok-word.ensures.ok c.in_ok-ty.ensures.reads))

pub returns-in_err-ty-clause-follows : goal.returns-in_err-ty-clause-follows
returns-in_err-ty-clause-follows c = λ m. same_error (λ x. x.1.now) (outside m) (outside m) (AfterVirtual ∷ []) (value_rest c.in_ok-word.word.sort ++ (Only OpenParen ∷ ParamsEnd ∷ VirtualEnd ∷ [])) ([]) c.args.rest.now c.in_ok-word.after.now _ c.in_err-ty.field-0.0 (search rules) (λ k. turns.virtual_value _ _ _ (outside m) k c.in_ok-word.ensures.ok (search rules) ∙ ap (run c.in_ok-word.after.now (outside m)) (sym (append_assoc (value_rest c.in_ok-word.word.sort) (Only OpenParen ∷ ParamsEnd ∷ VirtualEnd ∷ []) k))) (λ n k. rw append_assoc (c.in_err-ty.ensures.follows (outside m) n (Only OpenParen ∷ ParamsEnd ∷ VirtualEnd ∷ k)))

pub returns-in_err-part-3-clause-follows : goal.returns-in_err-part-3-clause-follows
returns-in_err-part-3-clause-follows c = λ m. same_error (λ x. x.1.now) (outside m) (outside m) (AfterVirtual ∷ []) (AName ∷ Only OpenParen ∷ ParamsEnd ∷ VirtualEnd ∷ []) ([]) c.args.rest.now c.in_ok-ty.after.now _ c.in_err-part-3.field-0.0 (search rules) (λ k. turns.virtual_value _ _ _ (outside m) k c.in_ok-word.ensures.ok (search rules) ∙ c.in_ok-ty.ensures.follows (outside m) (Only OpenParen ∷ ParamsEnd ∷ VirtualEnd ∷ k)) (c.in_err-part-3.ensures.follows m)
