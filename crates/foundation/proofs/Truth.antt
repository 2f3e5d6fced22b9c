-- Truth values: cases with their equation, and tests that decide a fact.
use Rattle.std.proofs.Common.{◌≡◌, Bool, true, false, refl, sym, ◌∙◌}
use Rattle.std.specs.Prelude.{IsTrue, ◌↔◌, ◌||◌}

-- a test by its two answers, with the equation
pub split : (b : Bool) (P : Bool → Type 0) → (b ≡ true → P true) → (b ≡ false → P false) → P b
split true P on off = on refl
split false P on off = off refl

-- a test is not both
pub not_both : {b : Bool} → b ≡ true → b ≡ false → ⊥
not_both t f = let e : true ≡ false = sym t ∙ f in cc

-- a test that cannot succeed fails
pub is_false : (b : Bool) → (b ≡ true → ⊥) → b ≡ false
is_false true h = absurd (h refl)
is_false false h = refl

pub or_left : (a b : Bool) → a ≡ true → (a || b) ≡ true
or_left true b e = refl
or_left false b e = cc

pub or_right : (a b : Bool) → b ≡ true → (a || b) ≡ true
or_right true b e = refl
or_right false b e = e

pub or_parts : (a b : Bool) → (a || b) ≡ false → (a ≡ false) × (b ≡ false)
or_parts true b e = cc
or_parts false b e = (refl, e)

-- the answer of a test of what is not so, and of what is so
pub never : {A : Type 0} → (A → ⊥) → (IsTrue false → A) × (A → IsTrue false)
never f = (λ t. let e : false ≡ true = t in cc, λ a. absurd (f a))

pub always : {A : Type 0} → A → (IsTrue true → A) × (A → IsTrue true)
always a = (λ t. a, λ x. refl)

-- two tests of one fact are one
pub same_test : {P : Type 0} (a b : Bool) → (IsTrue a ↔ P) → (IsTrue b ↔ P) → a ≡ b
same_test true true f g = refl
same_test false false f g = refl
same_test true false f g = let e : false ≡ true = g.1 (f.0 refl) in sym e
same_test false true f g = f.1 (g.0 refl)
