-- Lists that go along with others, item by item.
use Rattle.std.proofs.Common.{◌≡◌, ℕ, zero, suc, ◌+◌, ◌<◌, ◌≤◌, Some, List, [], ◌∷◌, ◌++◌, map, take, length, get_or, refl, ap, subst, sym, ◌∙◌, arith, append_assoc}
use Rattle.std.specs.Prelude.{slice_get}
use Rattle.std.proofs.lemmas.List.{append-nil, map-append, take_more, take_all}
use Rattle.abi_slots.specs.Groups.{GoAlong}
use Rattle.abi_slots.proofs.Lists.{Item, item_first, item_later}
use Rattle.abi_vtt.proofs.WordSteps.{along_more}
use Rattle.abi_tables.specs.invariants.Growing.{GrowsByEach}

pub along_none : {A : Type 0} {B : Type 0} (R : A → B → Type 0) → GoAlong R [] []
along_none R = record { size = refl; each = λ i a b e f. cc }

pub along_empty : {A : Type 0} {B : Type 0} (R : A → B → Type 0) (ys : List B) → ys ≡ [] → GoAlong R [] ys
along_empty R ys e = subst (λ zs. GoAlong R [] zs) (sym e) (along_none R)

-- one item more at the front
along_first : {A : Type 0} {B : Type 0} (R : A → B → Type 0) (x : A) (y : B) (xs : List A) (ys : List B) → R x y → GoAlong R xs ys → GoAlong R (x ∷ xs) (y ∷ ys)
along_first {A} {B} R x y xs ys holds go = record { size = (let s = go.size in omega arith); each = each }
  where
    each : (i : ℕ) (a : A) (b : B) → slice_get (x ∷ xs) i ≡ Some a → slice_get (y ∷ ys) i ≡ Some b → R a b
    each zero a b e f = let one : x ≡ a = cc in let other : y ≡ b = cc in subst (λ p. R p b) one (subst (λ q. R x q) other holds)
    each (suc i) a b e f = go.each i a b e f

-- if each item of a list has something related, a list goes along
pub some_along : {A : Type 0} {B : Type 0} (R : A → B → Type 0) (xs : List A) → ((x : A) → Item xs x → (y : B) × R x y) → (ys : List B) × GoAlong R xs ys
some_along R [] each = ([], along_none R)
some_along R (x ∷ xs) each =
    let one = each x (item_first x xs) in
    let rest = some_along R xs (λ a i. each a (item_later x xs a i)) in
    (one.0 ∷ rest.0, along_first R x one.0 xs rest.0 one.1 rest.1)

-- and if each item has one thing related, one list goes along
pub one_along : {A : Type 0} {B : Type 0} (R : A → B → Type 0) (xs : List A) (ys zs : List B) → ((x : A) → Item xs x → (b c : B) → R x b → R x c → b ≡ c) → GoAlong R xs ys → GoAlong R xs zs → ys ≡ zs
one_along R [] [] [] one a b = refl
one_along R [] [] (z ∷ zs) one a b = absurd (let e = b.size in omega arith)
one_along R [] (y ∷ ys) zs one a b = absurd (let e = a.size in omega arith)
one_along R (x ∷ xs) [] zs one a b = absurd (let e = a.size in omega arith)
one_along R (x ∷ xs) (y ∷ ys) [] one a b = absurd (let e = b.size in omega arith)
one_along R (x ∷ xs) (y ∷ ys) (z ∷ zs) one a b =
    ap (λ w. w ∷ ys) (one x (item_first x xs) y z (a.each 0 x y refl refl) (b.each 0 x z refl refl)) ∙ ap (λ ws. z ∷ ws) (one_along R xs ys zs (λ u i. one u (item_later x xs u i))
    (record { size = (let e = a.size in omega arith); each = λ i p q e f. a.each (suc i) p q e f })
    (record { size = (let e = b.size in omega arith); each = λ i p q e f. b.each (suc i) p q e f }))

-- growing

pub grows_none : {A : Type 0} {B : Type 0} (R : A → B → Type 0) (old : List B) → GrowsByEach R [] old old
grows_none R old = record { along = λ before go. subst (λ xs. GoAlong R xs old) (sym (append-nil before)) go }

grows_one : {A : Type 0} {B : Type 0} (R : A → B → Type 0) (more : List A) (a : A) (b : B) (old now new : List B) → R a b → new ≡ now ++ b ∷ [] → GrowsByEach R more old now → GrowsByEach R (more ++ a ∷ []) old new
grows_one R more a b old now new holds e grows = record {
  along = λ before go. subst (λ ws. GoAlong R (before ++ (more ++ a ∷ [])) ws) (sym e) (subst (λ xs. GoAlong R xs (now ++ b ∷ [])) (append_assoc before more (a ∷ [])) (along_more R (before ++ more) now a b (grows.along before go) holds));
}

-- what is for the items of a list, so far and one item more
pub grows_more : {S : Type 0} {A : Type 0} {B : Type 0} (R : A → B → Type 0) (f : S → A) (list : List S) (i : ℕ) (s : S) (b : B) (old now new : List B) → i < length list → s ≡ get_or list i s → R (f s) b → new ≡ now ++ b ∷ [] → GrowsByEach R (map f (take i list)) old now → GrowsByEach R (map f (take (i + 1) list)) old new
grows_more R f list i s b old now new lt is holds pushed grows =
    let front : map f (take (i + 1) list) ≡ map f (take i list) ++ f s ∷ [] = ap (map f) (take_more list i s lt) ∙ map-append f (take i list) (get_or list i s ∷ []) ∙ ap (λ x. map f (take i list) ++ f x ∷ []) (sym is) in
    subst (λ xs. GrowsByEach R xs old new) (sym front) (grows_one R (map f (take i list)) (f s) b old now new holds pushed grows)

pub grows_all : {S : Type 0} {A : Type 0} {B : Type 0} (R : A → B → Type 0) (f : S → A) (list : List S) (i : ℕ) (old new : List B) → length list ≤ i → GrowsByEach R (map f (take i list)) old new → GrowsByEach R (map f list) old new
grows_all R f list i old new le grows = subst (λ xs. GrowsByEach R (map f xs) old new) (take_all i list le) grows
