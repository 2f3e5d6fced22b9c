-- Which elements a list has, and lists in which none stands twice.
use Rattle.std.proofs.Common.{◌≡◌, ℕ, zero, suc, ◌⊎◌, inl, inr, ⊎_elim, Some, List, [], ◌∷◌, ◌++◌, map, refl, ap, subst, sym, ◌∙◌, arith, length}
use Rattle.std.specs.List.{slice_get, Contains, flat_map}

-- x is an element
abbrev pub Has : {X : Type 0} → List X → X → Type 0
Has [] x = ⊥
Has (y ∷ ys) x = (y ≡ x) ⊎ Has ys x

-- no element stands twice
abbrev pub EachOnce : {X : Type 0} → List X → Type 0
EachOnce [] = Unit {0}
EachOnce (x ∷ xs) = (Has xs x → ⊥) × EachOnce xs

-- no element of the one list is one of the other
pub record AreApart {X : Type 0} (xs ys : List X) : Type 0 where
  pub none : (x : X) → Has xs x → Has ys x → ⊥

-- lists that are pairwise apart
abbrev pub EachApart : {X Y : Type 0} → (X → List Y) → List X → Type 0
EachApart f [] = Unit {0}
EachApart {X} f (x ∷ xs) = ((y : X) → Has xs y → AreApart (f x) (f y)) × EachApart f xs

-- by place, and as std says it
pub has_at : {X : Type 0} (xs : List X) (i : ℕ) (x : X) → slice_get xs i ≡ Some x → Has xs x
has_at [] i x e = cc
has_at (y ∷ xs) zero x e = inl (let same : y ≡ x = cc in same)
has_at (y ∷ xs) (suc i) x e = inr (has_at xs i x e)

pub index_of : {X : Type 0} (xs : List X) (x : X) → Has xs x → (i : ℕ) × (slice_get xs i ≡ Some x)
index_of [] x h = absurd h
index_of (y ∷ xs) x h = ⊎_elim (λ e. (zero, ap (λ z. Some z) e)) (λ k. let r = index_of xs x k in (suc r.0, r.1)) h

pub contains_from_has : {X : Type 0} (xs : List X) (x : X) → Has xs x → Contains xs x
contains_from_has [] x h = absurd h
contains_from_has (y ∷ xs) x h = ⊎_elim (λ e. (zero, omega arith, e)) (λ k. let r = contains_from_has xs x k in let lt = r.1 in (suc r.0, omega arith, r.2)) h

pub has_from_contains : {X : Type 0} (xs : List X) (x : X) → Contains xs x → Has xs x
has_from_contains [] x (k, lt, e) = absurd (omega arith)
has_from_contains (y ∷ xs) x (zero, lt, e) = inl e
has_from_contains (y ∷ xs) x (suc k, lt, e) = inr (has_from_contains xs x (k, omega arith, e))

-- nothing stands in a list of which nothing can be
pub none_in : {X : Type 0} (xs : List X) → ((x : X) → Has xs x → ⊥) → xs ≡ []
none_in [] never = refl
none_in (x ∷ xs) never = absurd (never x (inl refl))

-- the item of a list of one
pub first_of : {X : Type 0} (xs : List X) → length xs ≡ 1 → (x : X) × Has xs x
first_of [] e = absurd (omega arith)
first_of (x ∷ xs) e = (x, inl refl)

-- of a list behind another
pub has_left : {X : Type 0} (xs ys : List X) (x : X) → Has xs x → Has (xs ++ ys) x
has_left [] ys x h = absurd h
has_left (y ∷ xs) ys x h = ⊎_elim (λ e. inl e) (λ k. inr (has_left xs ys x k)) h

pub has_right : {X : Type 0} (xs ys : List X) (x : X) → Has ys x → Has (xs ++ ys) x
has_right [] ys x h = h
has_right (y ∷ xs) ys x h = inr (has_right xs ys x h)

pub has_cases : {X : Type 0} (xs ys : List X) (x : X) → Has (xs ++ ys) x → Has xs x ⊎ Has ys x
has_cases [] ys x h = inr h
has_cases (y ∷ xs) ys x h = ⊎_elim (λ e. inl (inl e)) (λ k. ⊎_elim (λ a. inl (inr a)) (λ b. inr b) (has_cases xs ys x k)) h

-- of a list that a function gives
pub has_map : {X Y : Type 0} (f : X → Y) (xs : List X) (x : X) → Has xs x → Has (map f xs) (f x)
has_map f [] x h = absurd h
has_map f (y ∷ xs) x h = ⊎_elim (λ e. inl (ap f e)) (λ k. inr (has_map f xs x k)) h

pub from_map : {X Y : Type 0} (f : X → Y) (xs : List X) (y : Y) → Has (map f xs) y → (x : X) × Has xs x × (f x ≡ y)
from_map f [] y h = absurd h
from_map f (x ∷ xs) y h = ⊎_elim (λ e. (x, inl refl, e)) (λ r. let t = from_map f xs y r in (t.0, inr t.1, t.2)) h

pub map_same : {X Y : Type 0} (f g : X → Y) (xs : List X) → ((x : X) → Has xs x → f x ≡ g x) → map f xs ≡ map g xs
map_same f g [] e = refl
map_same f g (x ∷ xs) e = ap (λ y. y ∷ map f xs) (e x (inl refl)) ∙ ap (λ ys. g x ∷ ys) (map_same f g xs (λ y h. e y (inr h)))

pub has_flat_map : {X Y : Type 0} (f : X → List Y) (xs : List X) (x : X) (y : Y) → Has xs x → Has (f x) y → Has (flat_map f xs) y
has_flat_map f [] x y h k = absurd h
has_flat_map f (z ∷ xs) x y h k = ⊎_elim (λ e. has_left (f z) (flat_map f xs) y (rw e k)) (λ t. has_right (f z) (flat_map f xs) y (has_flat_map f xs x y t k)) h

pub from_flat_map : {X Y : Type 0} (f : X → List Y) (xs : List X) (y : Y) → Has (flat_map f xs) y → (x : X) × Has xs x × Has (f x) y
from_flat_map f [] y h = absurd h
from_flat_map f (z ∷ xs) y h = ⊎_elim (λ a. (z, inl refl, a)) (λ b. let r = from_flat_map f xs y b in (r.0, inr r.1, r.2)) (has_cases (f z) (flat_map f xs) y h)

pub flat_map_same : {X Y : Type 0} (f g : X → List Y) (xs : List X) → ((x : X) → Has xs x → f x ≡ g x) → flat_map f xs ≡ flat_map g xs
flat_map_same f g [] e = refl
flat_map_same f g (x ∷ xs) e = ap (λ t. t ++ flat_map f xs) (e x (inl refl)) ∙ ap (λ t. g x ++ t) (flat_map_same f g xs (λ y h. e y (inr h)))

-- none twice
pub once_append : {X : Type 0} (xs ys : List X) → EachOnce xs → EachOnce ys → AreApart xs ys → EachOnce (xs ++ ys)
once_append [] ys a b apart = b
once_append (x ∷ xs) ys a b apart = (λ h. ⊎_elim (λ k. a.0 k) (λ k. apart.none x (inl refl) k) (has_cases xs ys x h), once_append xs ys a.1 b (record { none = λ z h k. apart.none z (inr h) k }))

pub once_flat_map : {X Y : Type 0} (f : X → List Y) (xs : List X) → ((x : X) → Has xs x → EachOnce (f x)) → EachApart f xs → EachOnce (flat_map f xs)
once_flat_map f [] each apart = tt
once_flat_map f (x ∷ xs) each apart = once_append (f x) (flat_map f xs) (each x (inl refl)) (once_flat_map f xs (λ y h. each y (inr h)) apart.1)
    (record { none = λ z h k. let r = from_flat_map f xs z k in (apart.0 r.0 r.1).none z h r.2 })

pub once_by_place : {X : Type 0} (xs : List X) → EachOnce xs → (i j : ℕ) (x : X) → slice_get xs i ≡ Some x → slice_get xs j ≡ Some x → i ≡ j
once_by_place [] once i j x e f = cc
once_by_place (y ∷ xs) once zero zero x e f = refl
once_by_place (y ∷ xs) once zero (suc j) x e f = absurd (once.0 (let same : y ≡ x = cc in subst (λ z. Has xs z) (sym same) (has_at xs j x f)))
once_by_place (y ∷ xs) once (suc i) zero x e f = absurd (once.0 (let same : y ≡ x = cc in subst (λ z. Has xs z) (sym same) (has_at xs i x e)))
once_by_place (y ∷ xs) once (suc i) (suc j) x e f = let r = once_by_place xs once.1 i j x e f in omega arith
