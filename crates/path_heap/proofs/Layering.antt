-- A value that goes to the layers behind a code comes back.
use Rattle.std.proofs.Common.{◌≡◌, ℕ, false, ap, ◌∙◌}
use Rattle.std.specs.Prelude.{Option, None, nat_eq, if◌then◌else◌}
use Rattle.std.proofs.lemmas.Bool.{eqb-true}
use Rattle.foundation.proofs.Truth.{split, is_false}
use Rattle.path_heap.specs.declared.state.Value.{Value}
use Rattle.path_heap.specs.invariants.LeafCodes.{held}

-- one code of f is another in g
abbrev pub IsCodeSet : (f g : ℕ → ℕ) (n code : ℕ) → Type 0
IsCodeSet f g n code = (m : ℕ) → g m ≡ (if nat_eq m n then code else f m)

both : (a b : Option Value) (x y : Value) → a ≡ b → x ≡ y → held a x ≡ held b y
both a b x y e d = ap (λ t. held t x) e ∙ ap (λ t. held b t) d

-- other leaves have what they had
pub others_held : (v : ℕ → Option Value) (f g : ℕ → ℕ) (r q : ℕ → Value) (n code : ℕ) → IsCodeSet f g n code → ((m : ℕ) → (m ≡ n → ⊥) → q m ≡ r m) → (m : ℕ) → (m ≡ n → ⊥) → held (v (g m)) (q m) ≡ held (v (f m)) (r m)
others_held v f g r q n code set rest m differ =
    let other : nat_eq m n ≡ false = is_false (nat_eq m n) (λ e. differ (eqb-true m n e)) in
    both (v (g m)) (v (f m)) (q m) (r m) (ap v (set m ∙ ap (λ b. if b then code else f m) other)) (rest m differ)

-- the leaf has the value that the layers behind have
pub next_held : (v : ℕ → Option Value) (f g : ℕ → ℕ) (r q : ℕ → Value) (n code : ℕ) (x : Value) → v code ≡ None → IsCodeSet f g n code → ((m : ℕ) → q m ≡ (if nat_eq m n then x else r m)) → (m : ℕ) → held (v (g m)) (q m) ≡ (if nat_eq m n then x else held (v (f m)) (r m))
next_held v f g r q n code x none_there set rest m = split (nat_eq m n) (λ b. held (v (g m)) (q m) ≡ (if b then x else held (v (f m)) (r m)))
    (λ e. both (v (g m)) None (q m) x (ap v (set m ∙ ap (λ b. if b then code else f m) e) ∙ none_there) (rest m ∙ ap (λ b. if b then x else r m) e))
    (λ e. both (v (g m)) (v (f m)) (q m) (r m) (ap v (set m ∙ ap (λ b. if b then code else f m) e)) (rest m ∙ ap (λ b. if b then x else r m) e))
