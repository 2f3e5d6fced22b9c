use Rattle.std.proofs.Common.{◌≡◌, Some, None, refl}
use Rattle.cxx_hierarchy.specs.Classes.{Classes}
use Rattle.path_rules.specs.declared.Undefined.TheVariants.{NullUse, Unset as UnsetUse}
use Rattle.path_model.specs.Values.{Unset, Number, Null, Objects}
use Rattle.path_model.specs.Uses.{arrow}
use Rattle.path_model.specs.Rules.{refused}
use Rattle.std.specs.Prelude.{ℤ}
use Rattle.path_refusals.proofs.Reading.{unset_case, null_case, number_case, pointer_case}
use Rattle.path_refusals.proofs.pointers.arrow.Goals as goal

of_unset : (h : Classes) (s : Objects) → Some UnsetUse ≡ refused h s (arrow Unset)
unfolding refused
of_unset h s = refl

of_number : (h : Classes) (s : Objects) (z : ℤ) → None ≡ refused h s (arrow (Number z))
unfolding refused
of_number h s z = refl

of_null : (h : Classes) (s : Objects) → Some NullUse ≡ refused h s (arrow Null)
unfolding refused
of_null h s = refl

pub returns-in-Unset : goal.returns-in-Unset
returns-in-Unset c = λ h s x stands m. unset_case h s.classes (λ x. Some UnsetUse ≡ refused h s (arrow x)) (of_unset h s) c.args.v c.in-Unset.is x m

pub returns-in-Number : goal.returns-in-Number
returns-in-Number c = λ h s x stands m. number_case h s.classes (λ x. None ≡ refused h s (arrow x)) (of_number h s) c.args.v c.in-Number.field-0 c.in-Number.is x m

pub returns-in-Null : goal.returns-in-Null
returns-in-Null c = λ h s x stands m. null_case h s.classes (λ x. Some NullUse ≡ refused h s (arrow x)) (of_null h s) c.args.v c.in-Null.is x m

pub returns-in-Pointer : goal.returns-in-Pointer
returns-in-Pointer c = λ h s x stands m. pointer_case h s.classes (λ x. c.closed_or_unready.result ≡ refused h s (arrow x)) c.in-Pointer.n (λ p q. c.closed_or_unready.ensures.arrow h s p stands q) c.args.v c.in-Pointer.is x m
