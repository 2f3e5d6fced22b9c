-- What holds of each base of a list, by a walk over it.
use Rattle.std.proofs.Common.{◌≡◌, ℕ, ◌+◌, ◌<◌, ◌≤◌, false, List, length, get_or, subst, sym, ◌∙◌, arith}
use Rattle.std.specs.List.{Contains}
use Rattle.std.proofs.Common.{◌⊎◌, inl, inr}
use Rattle.std.proofs.lemmas.Bool.{cases_order}
use Rattle.foundation.proofs.Places.{any_default}
use Rattle.cxx_hierarchy.specs.declared.records.ClassId.{ClassId}
use Rattle.cxx_hierarchy.specs.declared.records.Base.{Base}

abbrev pub no_base : Base ClassId
no_base = record { class = record { 0 = 0 }; is_virtual = false; is_public = false; at = 0 }

abbrev pub nth : List (Base ClassId) → ℕ → Base ClassId
nth xs i = get_or xs i no_base

pub nth_listed : (xs : List (Base ClassId)) (i : ℕ) → i < length xs → Contains xs (nth xs i)
nth_listed xs i lt = (i, lt, any_default xs i (nth xs i) no_base lt)

pub nth_in : (xs ys : List (Base ClassId)) (i : ℕ) → xs ≡ ys → i < length xs → Contains ys (nth xs i)
nth_in xs ys i e lt = subst (λ zs. Contains zs (nth xs i)) e (nth_listed xs i lt)

-- P holds of each base before the i-th
pub record EachNth (P : Base ClassId → Type 0) (xs : List (Base ClassId)) (i : ℕ) : Type 0 where
  pub each : (k : ℕ) → k < i → P (nth xs k)

pub none_yet : (P : Base ClassId → Type 0) (xs : List (Base ClassId)) → EachNth P xs 0
none_yet P xs = record { each = λ k lt. absurd (omega arith) }

pub one_more : (P : Base ClassId → Type 0) (xs : List (Base ClassId)) (i : ℕ) → EachNth P xs i → P (nth xs i) → EachNth P xs (i + 1)
one_more P xs i before here = record { each = λ k lt. by_order k lt (cases_order k i) }
  where
    by_order : (k : ℕ) → k < i + 1 → (k ≡ i) ⊎ ((k < i) ⊎ (i < k)) → P (nth xs k)
    by_order k lt (inl e) = subst (λ j. P (nth xs j)) (sym e) here
    by_order k lt (inr (inl l)) = before.each k l
    by_order k lt (inr (inr g)) = absurd (omega arith)

pub all_nth : (P : Base ClassId → Type 0) (xs ys : List (Base ClassId)) (i : ℕ) → xs ≡ ys → length xs ≤ i → EachNth P xs i → (x : Base ClassId) → Contains ys x → P x
all_nth P xs ys i e le before x has = at (subst (λ zs. Contains zs x) (sym e) has)
  where
    at : Contains xs x → P x
    at (k, lt, same) = subst P (any_default xs k no_base x lt ∙ same) (before.each k (omega arith))
