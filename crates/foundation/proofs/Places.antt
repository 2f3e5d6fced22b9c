-- The items of lists by their places, and lists that grow at their end.
use Rattle.std.proofs.Common.{◌≡◌, ℕ, zero, suc, ◌+◌, ◌<◌, ◌⊎◌, inl, inr, ⊎_elim, Some, List, [], ◌∷◌, ◌++◌, length, get_or, refl, ap, subst, arith, None, ◌≤◌, map, set, take, sym, ◌∙◌}
use Rattle.std.specs.List.{slice_get, Contains, AllByRecursion}
use Rattle.std.proofs.lemmas.Option.{slice_get_read}
use Rattle.std.proofs.lemmas.List.{take_more}

-- a place below the length has an item
pub get_within : {X : Type 0} (xs : List X) (i : ℕ) → i < length xs → (x : X) × (slice_get xs i ≡ Some x)
get_within [] i lt = absurd (omega arith)
get_within (x ∷ xs) zero lt = (x, refl)
get_within (x ∷ xs) (suc i) lt = get_within xs i (omega arith)

-- what an index reads, as an item that is there
pub get_read : {X : Type 0} (xs : List X) (i : ℕ) (x : X) → i < length xs → x ≡ get_or xs i x → slice_get xs i ≡ Some x
get_read xs i x lt is = slice_get_read xs (length xs) i x refl lt is

-- a number at which no item stands is behind all
pub get_none : {X : Type 0} (xs : List X) (i : ℕ) → slice_get xs i ≡ None → length xs ≤ i
get_none [] i e = omega arith
get_none (x ∷ xs) zero e = cc
get_none (x ∷ xs) (suc i) e = let le = get_none xs i e in omega arith

-- an item of the front keeps its place
pub get_front : {X : Type 0} (xs ys : List X) (i : ℕ) (x : X) → slice_get xs i ≡ Some x → slice_get (xs ++ ys) i ≡ Some x
get_front [] ys i x e = cc
get_front (y ∷ xs) ys zero x e = e
get_front (y ∷ xs) ys (suc i) x e = get_front xs ys i x e

-- a place below the length is as it was before more was put behind
pub get_kept : {X : Type 0} (xs ys : List X) (i : ℕ) → i < length xs → slice_get (xs ++ ys) i ≡ slice_get xs i
get_kept [] ys i lt = absurd (omega arith)
get_kept (x ∷ xs) ys zero lt = refl
get_kept (x ∷ xs) ys (suc i) lt = get_kept xs ys i (omega arith)

-- a place below the length is as it was before a push
pub get_before : {X : Type 0} (xs : List X) (x : X) (i : ℕ) → i < length xs → slice_get (xs ++ x ∷ []) i ≡ slice_get xs i
get_before [] x i lt = absurd (omega arith)
get_before (y ∷ xs) x zero lt = refl
get_before (y ∷ xs) x (suc i) lt = get_before xs x i (omega arith)

-- the item that was pushed
pub get_last : {X : Type 0} (xs : List X) (x : X) → slice_get (xs ++ x ∷ []) (length xs) ≡ Some x
get_last [] x = refl
get_last (y ∷ xs) x = get_last xs x

-- the item between two lists
pub get_behind : {X : Type 0} (front : List X) (x : X) (rest : List X) → slice_get (front ++ x ∷ rest) (length front) ≡ Some x
get_behind [] x rest = refl
get_behind (y ∷ front) x rest = get_behind front x rest

-- an item of a list after a push was there, or is the one pushed
pub get_pushed : {X : Type 0} (xs : List X) (y : X) (i : ℕ) (x : X) → slice_get (xs ++ y ∷ []) i ≡ Some x → (slice_get xs i ≡ Some x) ⊎ ((i ≡ length xs) × (x ≡ y))
get_pushed [] y zero x e = inr (refl, let f : x ≡ y = cc in f)
get_pushed [] y (suc i) x e = cc
get_pushed (z ∷ xs) y zero x e = inl e
get_pushed (z ∷ xs) y (suc i) x e = ⊎_elim (λ a. inl a) (λ b. inr (ap suc b.0, b.1)) (get_pushed xs y i x e)

-- an item of a list that a function gives
pub get_mapped : {X Y : Type 0} (f : X → Y) (xs : List X) (i : ℕ) (y : Y) → slice_get (map f xs) i ≡ Some y → (x : X) × (slice_get xs i ≡ Some x) × (f x ≡ y)
get_mapped f [] i y e = cc
get_mapped f (x ∷ xs) zero y e = (x, refl, (let g : f x ≡ y = cc in g))
get_mapped f (x ∷ xs) (suc i) y e = get_mapped f xs i y e

-- items of a list in which one was set
pub get_set : {X : Type 0} (xs : List X) (i : ℕ) (x : X) → i < length xs → slice_get (set xs i x) i ≡ Some x
get_set [] i x lt = absurd (omega arith)
get_set (y ∷ xs) zero x lt = refl
get_set (y ∷ xs) (suc i) x lt = get_set xs i x (omega arith)

pub get_set_other : {X : Type 0} (xs : List X) (i j : ℕ) (x : X) → (j ≡ i → ⊥) → slice_get (set xs i x) j ≡ slice_get xs j
get_set_other [] i j x apart = refl
get_set_other (y ∷ xs) zero zero x apart = absurd (apart refl)
get_set_other (y ∷ xs) zero (suc j) x apart = refl
get_set_other (y ∷ xs) (suc i) zero x apart = refl
get_set_other (y ∷ xs) (suc i) (suc j) x apart = get_set_other xs i j x (λ e. apart (ap suc e))

pub length_pushed : {X : Type 0} (xs : List X) (x : X) → length (xs ++ x ∷ []) ≡ length xs + 1
length_pushed [] x = refl
length_pushed (y ∷ xs) x = let r = length_pushed xs x in omega arith

-- the first items up to one more
pub take_next : {X : Type 0} (xs : List X) (i : ℕ) (x : X) → i < length xs → x ≡ get_or xs i x → take (i + 1) xs ≡ take i xs ++ x ∷ []
take_next xs i x lt is = take_more xs i x lt ∙ ap (λ y. take i xs ++ y ∷ []) (sym is)

-- within a list a default does not matter
pub any_default : {X : Type 0} (xs : List X) (i : ℕ) (d e : X) → i < length xs → get_or xs i d ≡ get_or xs i e
any_default [] i d e lt = absurd (omega arith)
any_default (x ∷ xs) zero d e lt = refl
any_default (x ∷ xs) (suc i) d e lt = any_default xs i d e (omega arith)

-- a list has its first item, and those of its rest
pub contains_first : {X : Type 0} (x : X) (xs : List X) → Contains (x ∷ xs) x
contains_first x xs = (zero, omega arith, refl)

pub contains_later : {X : Type 0} (y : X) (xs : List X) (x : X) → Contains xs x → Contains (y ∷ xs) x
contains_later y xs x h = let lt = h.1 in (suc h.0, omega arith, h.2)

pub contains_at : {X : Type 0} (xs : List X) (i : ℕ) (x : X) → slice_get xs i ≡ Some x → Contains xs x
contains_at [] i x e = cc
contains_at (y ∷ xs) zero x e = (zero, omega arith, let f : y ≡ x = cc in f)
contains_at (y ∷ xs) (suc i) x e = contains_later y xs x (contains_at xs i x e)

pub place_of : {X : Type 0} (xs : List X) (x : X) → Contains xs x → (i : ℕ) × (slice_get xs i ≡ Some x)
place_of [] x (k, lt, e) = absurd (omega arith)
place_of (y ∷ xs) x (zero, lt, e) = (zero, ap (λ z. Some z) e)
place_of (y ∷ xs) x (suc k, lt, e) = let r = place_of xs x (k, omega arith, e) in (suc r.0, r.1)

-- what holds of each item holds of the one at a place
pub each_at : {X : Type 0} (P : X → Type 0) (xs : List X) (i : ℕ) (x : X) → AllByRecursion P xs → slice_get xs i ≡ Some x → P x
each_at P [] i x all e = cc
each_at P (y ∷ xs) zero x all e = let same : y ≡ x = cc in subst P same all.0
each_at P (y ∷ xs) (suc i) x all e = each_at P xs i x all.1 e
