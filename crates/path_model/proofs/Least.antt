-- A refusal is the least rule that some use breaks.
use Rattle.std.proofs.Common.{arith, ◌≡◌, ℕ, zero, suc, ◌<◌, Bool, true, false, Option, Some, None, List, [], ◌∷◌, refl, ap, subst, sym, ◌∙◌}
use Rattle.cxx_hierarchy.specs.Classes.{Classes}
use Rattle.foundation.proofs.Truth.{split}
use Rattle.std.specs.Prelude.{if◌then◌else◌, slice_get}
use Rattle.path_rules.specs.Rules.{undefined_no}
use Rattle.path_rules.specs.declared.Undefined.{Undefined}
use Rattle.path_rules.specs.declared.Undefined.TheVariants.{NullUse, Dangling, NotReady, OutsideView, Unset as UnsetUse, PureCall, BadDowncast, NonVirtualDelete, NotHeapObject, NotComplete, MissingReturn, Overflow}
use Rattle.path_model.specs.Values.{Objects}
use Rattle.path_model.specs.Uses.{StatementUse}
use Rattle.cxx_overrider.specs.declared.FunctionId.{FunctionId}
use Rattle.cxx_overrider.specs.Functions.{return_of}
use Rattle.path_model.specs.Rules.{closes, closing_refusal, returns_value, rules, is_broken, refused, IsLeast}
use Rattle.path_model.proofs.Ranks.{first_place, rank, refused_rank}
use Rattle.path_model.proofs.Sorted.{Outcome, none, broken, outcome}

-- before the first place the test fails, and there it holds
before : (f : Undefined → Bool) (rs : List Undefined) (n : ℕ) (r : Undefined) → n < first_place f rs → slice_get rs n ≡ Some r → f r ≡ false
unfolding first_place
before f [] n r less e = absurd (cc)
before f (x ∷ rest) zero r less e = split (f x) (λ b. f x ≡ b → 0 < (if b then 0 else suc (first_place f rest)) → f r ≡ false) (λ _ _ l. absurd (omega (arith, l))) (λ _ g _. let same : x ≡ r = cc in ap f (sym same) ∙ g) refl less
before f (x ∷ rest) (suc n) r less e = split (f x) (λ b. suc n < (if b then 0 else suc (first_place f rest)) → f r ≡ false) (λ _ l. absurd (omega (arith, l))) (λ _ l. before f rest n r (omega (arith, l)) e) less

there : (f : Undefined → Bool) (rs : List Undefined) (r : Undefined) → slice_get rs (first_place f rs) ≡ Some r → f r ≡ true
unfolding first_place
there f [] r e = absurd (cc)
there f (x ∷ rest) r e = split (f x) (λ b. f x ≡ b → slice_get (x ∷ rest) (if b then 0 else suc (first_place f rest)) ≡ Some r → f r ≡ true) (λ _ g h. let same : x ≡ r = cc in ap f (sym same) ∙ g) (λ _ g h. there f rest r h) refl e

-- where a rule stands among the rules: the rules are numbered from 1
record Stands (r : Undefined) : Type 0 where
  place : ℕ
  number : undefined_no r ≡ suc place
  listed : slice_get rules place ≡ Some r
  below : place < 12

standing : (r : Undefined) → Stands r
standing NullUse = record { place = 0; number = refl; listed = refl; below = omega arith }
standing Dangling = record { place = 1; number = refl; listed = refl; below = omega arith }
standing NotReady = record { place = 2; number = refl; listed = refl; below = omega arith }
standing OutsideView = record { place = 3; number = refl; listed = refl; below = omega arith }
standing UnsetUse = record { place = 4; number = refl; listed = refl; below = omega arith }
standing PureCall = record { place = 5; number = refl; listed = refl; below = omega arith }
standing BadDowncast = record { place = 6; number = refl; listed = refl; below = omega arith }
standing NonVirtualDelete = record { place = 7; number = refl; listed = refl; below = omega arith }
standing NotHeapObject = record { place = 8; number = refl; listed = refl; below = omega arith }
standing NotComplete = record { place = 9; number = refl; listed = refl; below = omega arith }
standing MissingReturn = record { place = 10; number = refl; listed = refl; below = omega arith }
standing Overflow = record { place = 11; number = refl; listed = refl; below = omega arith }

abbrev pub number_in : ℕ → Option Undefined → ℕ
number_in n None = suc n
number_in n (Some r) = undefined_no r

-- the rule at a place has its number
pub number_at : (n : ℕ) → number_in n (slice_get rules n) ≡ suc n
number_at zero = refl
number_at (suc zero) = refl
number_at (suc (suc zero)) = refl
number_at (suc (suc (suc zero))) = refl
number_at (suc (suc (suc (suc zero)))) = refl
number_at (suc (suc (suc (suc (suc zero))))) = refl
number_at (suc (suc (suc (suc (suc (suc zero)))))) = refl
number_at (suc (suc (suc (suc (suc (suc (suc zero))))))) = refl
number_at (suc (suc (suc (suc (suc (suc (suc (suc zero)))))))) = refl
number_at (suc (suc (suc (suc (suc (suc (suc (suc (suc zero))))))))) = refl
number_at (suc (suc (suc (suc (suc (suc (suc (suc (suc (suc zero)))))))))) = refl
number_at (suc (suc (suc (suc (suc (suc (suc (suc (suc (suc (suc zero))))))))))) = refl
number_at (suc (suc (suc (suc (suc (suc (suc (suc (suc (suc (suc (suc n)))))))))))) = refl

-- the refusal: some use breaks it, and no use breaks a rule of a smaller number
pub refused_least : (h : Classes) (s : Objects) (us : List StatementUse) → IsLeast (is_broken h s us) (refused h s us)
unfolding rank
refused_least h s us = cases (outcome h s us)
  where
    f : Undefined → Bool
    f = is_broken h s us

    cases : Outcome h s us → IsLeast (is_broken h s us) (refused h s us)
    cases (none e full) = subst (λ (o : Option Undefined). IsLeast (is_broken h s us) o) (sym e)
        (λ r. let stand = standing r in let l = stand.below in let n : first_place f rules ≡ 12 = full in before f rules stand.place r (omega (arith, l, n)) stand.listed)
    cases (broken r e less) =
        let at : slice_get rules (first_place f rules) ≡ Some r = sym (refused_rank h s us) ∙ e in
        let n : undefined_no r ≡ suc (first_place f rules) = ap (λ o. number_in (first_place f rules) o) (sym at) ∙ number_at (first_place f rules) in
        subst (λ (o : Option Undefined). IsLeast (is_broken h s us) o) (sym e)
        (there f rules r at, λ r' l. let stand = standing r' in let m = stand.number in before f rules stand.place r' (omega (arith, l, n, m)) stand.listed)

closes_is : (h : Classes) (s : Objects) (b : Bool) → refused h s (closes b) ≡ (if b then Some MissingReturn else None)
unfolding refused
closes_is h s true = refl
closes_is h s false = refl

pub closing_is : (h : Classes) (s : Objects) (g : FunctionId) → closing_refusal h s g ≡ (if returns_value (return_of h g) then Some MissingReturn else None)
closing_is h s g = closes_is h s (returns_value (return_of h g))
