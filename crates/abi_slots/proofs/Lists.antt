-- Lists: what stands where, and what a list keeps of the one with which it begins.
use Rattle.std.proofs.Common.{◌≡◌, ℕ, zero, suc, ◌+◌, ◌⊎◌, inl, inr, ⊎_elim, Bool, true, false, Some, None, List, [], ◌∷◌, ◌++◌, map, length, refl, ap, subst, sym, ◌∙◌, arith}
use Rattle.std.specs.Prelude.{◌||◌, if◌then◌else◌, slice_get}
use Rattle.std.specs.List.{list_any, find, filter, flat_map}
use Rattle.std.proofs.lemmas.List.Folds.{list_any-append}
use Rattle.abi_slots.specs.Listing.{first_position}
use Rattle.foundation.proofs.Places.{get_front}
use Rattle.foundation.proofs.Truth.{split}

-- the longer list begins with the shorter one
pub record Keeps {A : Type 0} (xs ys : List A) : Type 0 where
  pub stays : (i : ℕ) (x : A) → slice_get xs i ≡ Some x → slice_get ys i ≡ Some x

pub keeps_itself : {A : Type 0} (xs : List A) → Keeps xs xs
keeps_itself xs = record { stays = λ i x e. e }

pub keeps_through : {A : Type 0} (xs ys zs : List A) → Keeps xs ys → Keeps ys zs → Keeps xs zs
keeps_through xs ys zs a b = record { stays = λ i x e. b.stays i x (a.stays i x e) }

pub keeps_front : {A : Type 0} (xs ys : List A) → Keeps xs (xs ++ ys)
keeps_front xs ys = record { stays = λ i x e. get_front xs ys i x e }

-- x stands in a list
pub record Item {A : Type 0} (xs : List A) (x : A) : Type 0 where
  pub index : ℕ
  pub there : slice_get xs index ≡ Some x

pub item_first : {A : Type 0} (x : A) (xs : List A) → Item (x ∷ xs) x
item_first x xs = record { index = 0; there = refl }

pub item_later : {A : Type 0} (y : A) (xs : List A) (x : A) → Item xs x → Item (y ∷ xs) x
item_later y xs x i = record { index = suc i.index; there = i.there }

pub item_left : {A : Type 0} (xs ys : List A) (x : A) → Item xs x → Item (xs ++ ys) x
item_left xs ys x i = record { index = i.index; there = get_front xs ys i.index x i.there }

pub item_right : {A : Type 0} (xs ys : List A) (x : A) → Item ys x → Item (xs ++ ys) x
item_right [] ys x i = i
item_right (z ∷ xs) ys x i = item_later z (xs ++ ys) x (item_right xs ys x i)

-- what holds of the first holds, or the item stands behind it
pub item_split : {A : Type 0} (z : A) (xs : List A) (x : A) → Item (z ∷ xs) x → (z ≡ x) ⊎ Item xs x
item_split {A} z xs x i = by_index i.index i.there
  where
    by_index : (j : ℕ) → slice_get (z ∷ xs) j ≡ Some x → (z ≡ x) ⊎ Item xs x
    by_index zero e = inl (let f : z ≡ x = cc in f)
    by_index (suc j) e = inr (record { index = j; there = e })

pub item_cases : {A : Type 0} (xs ys : List A) (x : A) → Item (xs ++ ys) x → Item xs x ⊎ Item ys x
item_cases [] ys x i = inr i
item_cases (z ∷ xs) ys x i = ⊎_elim (λ e. inl (record { index = 0; there = ap (λ a. Some a) e })) (λ j. ⊎_elim (λ a. inl (item_later z xs x a)) (λ b. inr b) (item_cases xs ys x j)) (item_split z (xs ++ ys) x i)

pub item_none : {A : Type 0} (x : A) → Item [] x → ⊥
item_none x i = let e = i.there in cc

pub item_map : {A : Type 0} {B : Type 0} (f : A → B) (xs : List A) (x : A) → Item xs x → Item (map f xs) (f x)
item_map f [] x i = absurd (item_none x i)
item_map f (z ∷ xs) x i = ⊎_elim (λ e. record { index = 0; there = ap (λ a. Some (f a)) e }) (λ j. item_later (f z) (map f xs) (f x) (item_map f xs x j)) (item_split z xs x i)

pub from_map : {A : Type 0} {B : Type 0} (f : A → B) (xs : List A) (y : B) → Item (map f xs) y → (x : A) × Item xs x × (f x ≡ y)
from_map f [] y i = absurd (item_none y i)
from_map f (z ∷ xs) y i = ⊎_elim (λ e. (z, item_first z xs, e)) (λ j. let r = from_map f xs y j in (r.0, item_later z xs r.0 r.1, r.2)) (item_split (f z) (map f xs) y i)

pub item_flat : {A : Type 0} {B : Type 0} (f : A → List B) (xs : List A) (x : A) (y : B) → Item xs x → Item (f x) y → Item (flat_map f xs) y
item_flat f [] x y i j = absurd (item_none x i)
item_flat f (z ∷ xs) x y i j = ⊎_elim (λ e. item_left (f z) (flat_map f xs) y (subst (λ a. Item (f a) y) (sym e) j)) (λ k. item_right (f z) (flat_map f xs) y (item_flat f xs x y k j)) (item_split z xs x i)

pub from_flat : {A : Type 0} {B : Type 0} (f : A → List B) (xs : List A) (y : B) → Item (flat_map f xs) y → (x : A) × Item xs x × Item (f x) y
from_flat f [] y i = absurd (item_none y i)
from_flat f (z ∷ xs) y i = ⊎_elim (λ a. (z, item_first z xs, a)) (λ b. let r = from_flat f xs y b in (r.0, item_later z xs r.0 r.1, r.2)) (item_cases (f z) (flat_map f xs) y i)

pub item_filter : {A : Type 0} (p : A → Bool) (xs : List A) (x : A) → Item xs x → p x ≡ true → Item (filter p xs) x
item_filter p [] x i e = absurd (item_none x i)
item_filter p (z ∷ xs) x i e = ⊎_elim
    (λ same. let f : p z ≡ true = ap p same ∙ e in subst (λ (b : Bool). Item (if b then z ∷ filter p xs else filter p xs) x) (sym f) (record { index = 0; there = ap (λ a. Some a) same }))
    (λ j. let rest = item_filter p xs x j e in split (p z) (λ b. Item (if b then z ∷ filter p xs else filter p xs) x) (λ t. item_later z (filter p xs) x rest) (λ t. rest))
    (item_split z xs x i)

pub from_filter : {A : Type 0} (p : A → Bool) (xs : List A) (x : A) → Item (filter p xs) x → Item xs x × (p x ≡ true)
from_filter p [] x i = absurd (item_none x i)
from_filter p (z ∷ xs) x i = split (p z) (λ b. Item (if b then z ∷ filter p xs else filter p xs) x → Item (z ∷ xs) x × (p x ≡ true))
    (λ t j. ⊎_elim (λ e. (record { index = 0; there = ap (λ a. Some a) e }, ap p (sym e) ∙ t)) (λ k. let r = from_filter p xs x k in (item_later z xs x r.0, r.1)) (item_split z (filter p xs) x j))
    (λ t j. let r = from_filter p xs x j in (item_later z xs x r.0, r.1)) i

-- tests of lists

pub or_left : (a b : Bool) → a ≡ true → (a || b) ≡ true
or_left a b e = rw e refl

pub or_right : (a b : Bool) → b ≡ true → (a || b) ≡ true
or_right true b e = refl
or_right false b e = e

pub any_item : {A : Type 0} (p : A → Bool) (xs : List A) (x : A) → Item xs x → p x ≡ true → list_any p xs ≡ true
any_item p [] x i e = absurd (item_none x i)
any_item p (z ∷ xs) x i e = ⊎_elim (λ same. or_left (p z) (list_any p xs) (ap p same ∙ e)) (λ j. or_right (p z) (list_any p xs) (any_item p xs x j e)) (item_split z xs x i)

pub item_any : {A : Type 0} (p : A → Bool) (xs : List A) → list_any p xs ≡ true → (x : A) × Item xs x × (p x ≡ true)
item_any p [] e = cc
item_any p (z ∷ xs) e = split (p z) (λ b. p z ≡ b → (b || list_any p xs) ≡ true → (x : _) × Item (z ∷ xs) x × (p x ≡ true))
    (λ t same f. (z, item_first z xs, same))
    (λ t same f. let r = item_any p xs f in (r.0, item_later z xs r.0 r.1, r.2)) refl e

pub any_right : {A : Type 0} (p : A → Bool) (xs ys : List A) → list_any p ys ≡ true → list_any p (xs ++ ys) ≡ true
any_right p xs ys e = list_any-append p xs ys ∙ or_right (list_any p xs) (list_any p ys) e

pub any_left : {A : Type 0} (p : A → Bool) (xs ys : List A) → list_any p xs ≡ true → list_any p (xs ++ ys) ≡ true
any_left p xs ys e = list_any-append p xs ys ∙ or_left (list_any p xs) (list_any p ys) e

-- the first item that passes stands at its place
pub record StandsAt {A : Type 0} (p : A → Bool) (xs : List A) : Type 0 where
  pub item : A
  pub passes : p item ≡ true
  pub there : slice_get xs (first_position p xs) ≡ Some item

pub at_place : {A : Type 0} (p : A → Bool) (xs : List A) → list_any p xs ≡ true → StandsAt p xs
at_place p [] e = cc
at_place p (z ∷ xs) e = split (p z) (λ b. p z ≡ b → (b || list_any p xs) ≡ true → StandsAt p (z ∷ xs))
    (λ t same f. record { item = z; passes = same; there = rw same refl })
    (λ t same f. let r = at_place p xs f in record { item = r.item; passes = r.passes; there = rw same r.there }) refl e

-- the first that is found passes the test
pub found_passes : {A : Type 0} (p : A → Bool) (xs : List A) (x : A) → find p xs ≡ Some x → Item xs x × (p x ≡ true)
found_passes p [] x e = cc
found_passes p (z ∷ xs) x e = split (p z) (λ b. p z ≡ b → (if b then Some z else find p xs) ≡ Some x → Item (z ∷ xs) x × (p x ≡ true))
    (λ t same f. let g : z ≡ x = cc in (record { index = 0; there = ap (λ a. Some a) g }, ap p (sym g) ∙ same))
    (λ t same f. let r = found_passes p xs x f in (item_later z xs x r.0, r.1)) refl e

pub found_some : {A : Type 0} (p : A → Bool) (xs : List A) → list_any p xs ≡ true → (x : A) × (find p xs ≡ Some x)
found_some p [] e = cc
found_some p (z ∷ xs) e = split (p z) (λ b. (b || list_any p xs) ≡ true → (x : _) × ((if b then Some z else find p xs) ≡ Some x))
    (λ t f. (z, refl))
    (λ t f. found_some p xs f) e

pub found_none : {A : Type 0} (p : A → Bool) (xs : List A) → list_any p xs ≡ false → find p xs ≡ None
found_none p [] e = refl
found_none p (z ∷ xs) e = split (p z) (λ b. (b || list_any p xs) ≡ false → (if b then Some z else find p xs) ≡ None)
    (λ t f. cc)
    (λ t f. found_none p xs f) e

pub none_found : {A : Type 0} (p : A → Bool) (xs : List A) → find p xs ≡ None → list_any p xs ≡ false
none_found p [] e = refl
none_found p (z ∷ xs) e = split (p z) (λ b. (if b then Some z else find p xs) ≡ None → (b || list_any p xs) ≡ false)
    (λ t f. cc)
    (λ t f. none_found p xs f) e

pub not_item : {A : Type 0} (p : A → Bool) (xs : List A) (x : A) → list_any p xs ≡ false → Item xs x → p x ≡ false
not_item p xs x e i = split (p x) (λ b. p x ≡ b → b ≡ false) (λ t same. absurd (let f = any_item p xs x i same in cc)) (λ t same. refl) refl

-- lists that agree in what they are made of

pub flat_same : {A : Type 0} {B : Type 0} (f g : A → List B) (xs : List A) → ((x : A) → Item xs x → f x ≡ g x) → flat_map f xs ≡ flat_map g xs
flat_same f g [] e = refl
flat_same f g (z ∷ xs) e = ap (λ a. a ++ flat_map f xs) (e z (item_first z xs)) ∙ ap (λ a. g z ++ a) (flat_same f g xs (λ x i. e x (item_later z xs x i)))

-- the last of a reversed list comes first

pub get_past : {A : Type 0} (xs ys : List A) (i : ℕ) (x : A) → slice_get ys i ≡ Some x → slice_get (xs ++ ys) (length xs + i) ≡ Some x
get_past [] ys i x e = let f : 0 + i ≡ i = omega arith in rw f e
get_past (z ∷ xs) ys i x e = let f : length (z ∷ xs) + i ≡ suc (length xs + i) = omega arith in rw f (get_past xs ys i x e)
