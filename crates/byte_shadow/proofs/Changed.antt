-- What a function that was changed at one pair gives, there and elsewhere.
use Rattle.std.proofs.Common.{◌≡◌, ℕ, Bool, true, false, refl, sym, subst, arith}
use Rattle.std.specs.Prelude.{nat_eq, ◌&&◌, if◌then◌else◌}
use Rattle.std.proofs.lemmas.Bool.Decides.{nat_tests}
use Rattle.byte_shadow.specs.Shadows.{put_at}

pub same_pair : (a c : ℕ) → (nat_eq a a && nat_eq c c) ≡ true
same_pair a c = grind (arith, nat_tests)

pub one_pair : (at class a c : ℕ) → (nat_eq at a && nat_eq class c) ≡ true → (at ≡ a) × (class ≡ c)
one_pair at class a c e = (grind (arith, nat_tests), grind (arith, nat_tests))

-- at the pair itself
pub put_at-same : {X : Type 0} (f : ℕ → ℕ → X) (at class : ℕ) (x : X) → put_at f at class x at class ≡ x
put_at-same {X} f at class x = let P : Bool → Type 0 = λ b. (if b then x else f at class) ≡ x in let e : true ≡ (nat_eq at at && nat_eq class class) = sym (same_pair at class) in subst P e refl

-- at another pair
pub put_at-other : {X : Type 0} (f : ℕ → ℕ → X) (at class : ℕ) (x : X) (a c : ℕ) → ((at ≡ a) × (class ≡ c) → ⊥) → put_at f at class x a c ≡ f a c
put_at-other {X} f at class x a c other = by_test (nat_eq at a && nat_eq class c) refl
  where
    by_test : (b : Bool) → (nat_eq at a && nat_eq class c) ≡ b → (if b then x else f a c) ≡ f a c
    by_test true e = absurd (other (one_pair at class a c e))
    by_test false e = refl
