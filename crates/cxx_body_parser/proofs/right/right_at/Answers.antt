use Rattle.std.proofs.Common.{rules, refl, ◌∷◌, []}
use Rattle.cxx_grammar.specs.declared.sort.Sort.TheVariants.{Semicolon, StaticCast, DynamicCast, Less, Star, Greater, OpenParen, CloseParen}
use Rattle.cxx_grammar.specs.Table.{Only, RightEnd, AfterPointer, AfterOperand, AConstant, AName, APointer}
use Rattle.cxx_grammar.proofs.Tails.{pointer_right, constant_right_at}
use Rattle.cxx_grammar.proofs.Steps.{same_answer, takes}
use Rattle.cxx_body_parser.proofs.right.right_at.Goals as goal

pub returns-in-Name-clause-follows : goal.returns-in-Name-clause-follows
returns-in-Name-clause-follows c = λ s. same_answer (λ x. x.1.now) s s (RightEnd ∷ []) (AfterPointer ∷ []) (Only Semicolon ∷ []) (c.args.first ∷ c.args.rest.now) c.args.rest.now _ (λ k. pointer_right c.args.first c.args.rest.now s k (search rules)) (c.pointer_right.ensures.follows s)

pub returns-in-Number-clause-follows : goal.returns-in-Number-clause-follows
returns-in-Number-clause-follows c = λ s. same_answer (λ x. x.1.now) s s (RightEnd ∷ []) (AConstant ∷ AfterOperand ∷ []) (Only Semicolon ∷ []) (c.args.first ∷ c.args.rest.now) (c.args.first ∷ c.args.rest.now) _ (λ k. constant_right_at c.args.first c.args.rest.now s k (search rules)) (c.constant_right.ensures.follows s)

pub returns-in-StaticCast-clause-follows : goal.returns-in-StaticCast-clause-follows
returns-in-StaticCast-clause-follows c = λ s. same_answer (λ x. x.1.now) s s (RightEnd ∷ []) (Only Less ∷ AName ∷ Only Star ∷ Only Greater ∷ Only OpenParen ∷ APointer ∷ Only CloseParen ∷ Only Semicolon ∷ []) (Only Semicolon ∷ []) (c.args.first ∷ c.args.rest.now) c.args.rest.now _ (λ k. takes _ RightEnd StaticCast _ c.args.first c.args.rest.now s k refl (search rules) refl refl) (c.cast_right.ensures.follows s)

pub returns-in-DynamicCast-clause-follows : goal.returns-in-DynamicCast-clause-follows
returns-in-DynamicCast-clause-follows c = λ s. same_answer (λ x. x.1.now) s s (RightEnd ∷ []) (Only Less ∷ AName ∷ Only Star ∷ Only Greater ∷ Only OpenParen ∷ APointer ∷ Only CloseParen ∷ Only Semicolon ∷ []) (Only Semicolon ∷ []) (c.args.first ∷ c.args.rest.now) c.args.rest.now _ (λ k. takes _ RightEnd DynamicCast _ c.args.first c.args.rest.now s k refl (search rules) refl refl) (c.cast_right-in-DynamicCast.ensures.follows s)
