-- Lists of faults, and where a check of them stops.
use Rattle.std.proofs.Common.{◌≡◌, ℕ, zero, suc, ◌+◌, ◌<◌, ◌≤◌, Bool, true, false, List, [], ◌∷◌, ◌++◌, length, get_or, take, drop, refl, sym, ◌∙◌, ap, subst, inl, inr, add-one, drop-cons, append_assoc, append-nil}
use Rattle.std.proofs.Math.Seq.{take-suc}
use Rattle.std.proofs.Math.ListN.{drop_of_length-le}
use Rattle.std.specs.Prelude.{Some, slice_get}
use Rattle.cxx_hierarchy.specs.declared.stop.Stop.{Stop}
use Rattle.cxx_hierarchy.specs.ClassPass.{StopsAt, in_turn, fault_if}

pub stops_left : (xs ys : List Stop) (e : Stop) → StopsAt xs e → StopsAt (xs ++ ys) e
stops_left [] ys e (inl h) = inl h
stops_left [] ys e (inr h) = inr (absurd (cc))
stops_left (x ∷ xs) ys e h = h

pub none_left : (xs ys : List Stop) → xs ++ ys ≡ [] → xs ≡ []
none_left [] ys h = refl
none_left (x ∷ xs) ys h = absurd (cc)

pub none_right : (xs ys : List Stop) → xs ++ ys ≡ [] → ys ≡ []
none_right [] ys h = h
none_right (x ∷ xs) ys h = absurd (cc)

pub not_faulty : (b : Bool) (stop : Stop) → fault_if b stop ≡ [] → b ≡ false
not_faulty true stop h = absurd (cc)
not_faulty false stop h = refl

-- what is left to check has all the faults: none was met before place i
pub record NoneBefore {X : Type 0} (faults : List X → X → List Stop) (xs : List X) (i : ℕ) : Type 0 where
  pub left : in_turn faults [] xs ≡ in_turn faults (take i xs) (drop i xs)

in_turn_next : {X : Type 0} (faults : List X → X → List Stop) (xs : List X) (i : ℕ) (d : X) → i < length xs →
    in_turn faults (take i xs) (drop i xs) ≡ faults (take i xs) (get_or xs i d) ++ in_turn faults (take (i + 1) xs) (drop (i + 1) xs)
in_turn_next faults xs i d h = rw (add-one, drop-cons xs i d, take-suc xs i d h) refl

in_turn_at : {X : Type 0} (faults : List X → X → List Stop) (xs : List X) (i : ℕ) (x : X) → i < length xs → x ≡ get_or xs i x →
    in_turn faults (take i xs) (drop i xs) ≡ faults (take i xs) x ++ in_turn faults (take (i + 1) xs) (drop (i + 1) xs)
in_turn_at {X} faults xs i x h e =
    subst (λ (y : X). in_turn faults (take i xs) (drop i xs) ≡ faults (take i xs) y ++ in_turn faults (take (i + 1) xs) (drop (i + 1) xs)) (sym e) (in_turn_next faults xs i x h)

pub none_more : {X : Type 0} (faults : List X → X → List Stop) (xs : List X) (i : ℕ) (x : X) →
    NoneBefore faults xs i → i < length xs → x ≡ get_or xs i x → faults (take i xs) x ≡ [] → NoneBefore faults xs (i + 1)
none_more faults xs i x before h e none =
    record { left = before.left ∙ in_turn_at faults xs i x h e ∙ ap (λ (ys : List Stop). ys ++ in_turn faults (take (i + 1) xs) (drop (i + 1) xs)) none }

none_after : {X : Type 0} (faults : List X → X → List Stop) (before xs : List X) (i : ℕ) (x : X) → in_turn faults before xs ≡ [] → slice_get xs i ≡ Some x → faults (before ++ take i xs) x ≡ []
none_after faults before [] i x = λ none h. absurd (cc)
none_after {X} faults before (y ∷ ys) zero x = λ none h.
    let e : y ≡ x = cc in
    subst (λ (zs : List X). faults zs x ≡ []) (sym (append-nil before)) (subst (λ (z : X). faults before z ≡ []) e (none_left _ _ none))
none_after {X} faults before (y ∷ ys) (suc i) x = λ none h.
    subst (λ (zs : List X). faults zs x ≡ []) (append_assoc before (y ∷ []) (take i ys)) (none_after faults (before ++ y ∷ []) ys i x (none_right (faults before y) _ none) h)

-- where a list has no fault, no item of it has one
pub none_at : {X : Type 0} (faults : List X → X → List Stop) (xs : List X) (i : ℕ) (x : X) → in_turn faults [] xs ≡ [] → slice_get xs i ≡ Some x → faults (take i xs) x ≡ []
none_at faults xs i x = none_after faults [] xs i x
