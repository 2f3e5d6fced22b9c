-- Items of lists by their places.
use Rattle.std.proofs.Common.{◌≡◌, ℕ, zero, suc, ◌+◌, ◌<◌, Bool, true, false, cond, nat_lt, List, [], ◌∷◌, length, take, map, refl, sym, ◌∙◌, ap, subst, arith}
use Rattle.std.specs.Prelude.{Option, Some, None, is_some, slice_get, unwrap_or, Contains, count_by, filter, ◌||◌}
use Rattle.std.specs.List.{position_from, list_any, filter_map}
use Rattle.std.specs.Str.{bytes_eq}
use Rattle.std.proofs.lemmas.Slice.Eq.{bytes_eq-Decides}
use Rattle.std.proofs.lemmas.Option.{slice_get-get_or}
use Rattle.std.proofs.lemmas.List.Sums.{length-filter}
use Rattle.std.proofs.lemmas.Map.Keys.{any_passes_from_place}
use Rattle.std.proofs.lemmas.Bool.Decides.{nat_tests}
use Rattle.cxx_hierarchy.specs.NameTables.{Text, place_in, is_in}
use Rattle.cxx_hierarchy.proofs.Places.{split, place_among, place_nowhere, same_bytes}

-- an item of a list whose items were mapped
pub record IsMapped {X Y : Type 0} (f : X → Y) (xs : List X) (k : ℕ) (y : Y) : Type 0 where
  pub item : X
  pub listed : slice_get xs k ≡ Some item
  pub same : y ≡ f item

pub mapped : {X Y : Type 0} (f : X → Y) (xs : List X) (k : ℕ) (y : Y) → slice_get (map f xs) k ≡ Some y → IsMapped f xs k y
mapped f [] k y = λ h. absurd (cc)
mapped f (x ∷ xs) zero y = λ h. record { item = x; listed = refl; same = cc }
mapped f (x ∷ xs) (suc k) y = λ h. let r = mapped f xs k y h in record { item = r.item; listed = r.listed; same = r.same }

pub get_map : {X Y : Type 0} (f : X → Y) (xs : List X) (k : ℕ) (x : X) → slice_get xs k ≡ Some x → slice_get (map f xs) k ≡ Some (f x)
get_map f [] k x = λ h. absurd (cc)
get_map f (y ∷ xs) zero x = λ h. let e : y ≡ x = cc in ap (λ z. Some (f z)) e
get_map f (y ∷ xs) (suc k) x = λ h. get_map f xs k x h

pub get_take : {X : Type 0} (xs : List X) (i k : ℕ) (x : X) → i < k → slice_get xs i ≡ Some x → slice_get (take k xs) i ≡ Some x
get_take [] i k x = λ l h. absurd (cc)
get_take (y ∷ xs) i zero x = λ l h. absurd (omega arith)
get_take (y ∷ xs) zero (suc k) x = λ l h. h
get_take (y ∷ xs) (suc i) (suc k) x = λ l h. get_take xs i k x (omega arith) h

-- an item with its place
pub record IsPlaced {X : Type 0} (xs : List X) (x : X) : Type 0 where
  pub place : ℕ
  pub listed : slice_get xs place ≡ Some x

pub placed : {X : Type 0} (xs : List X) (x : X) → Contains xs x → IsPlaced xs x
placed xs x h = record { place = h.0; listed = slice_get-get_or xs h.0 x h.1 ∙ ap Some h.2 }

pub same_itself : (name : Text) → bytes_eq name name ≡ true
same_itself name = (bytes_eq-Decides name name).1 refl

pub is_in_any : (t : Text → Bool) (i : ℕ) (names : List Text) → is_some (position_from t i names) ≡ list_any t names
is_in_any t i [] = refl
is_in_any t i (name ∷ names) =
    split (t name) (λ b. is_some (cond b (Some i) (position_from t (i + 1) names)) ≡ (b || list_any t names))
    (λ h. refl)
    (λ h. is_in_any t (i + 1) names)

pub is_in_at : (names : List Text) (i : ℕ) (name other : Text) → slice_get names i ≡ Some name → name ≡ other → is_in names other ≡ true
is_in_at names i name other h e =
    is_in_any (bytes_eq other) 0 names ∙ any_passes_from_place (bytes_eq other) names i name h (subst (λ (n : Text). bytes_eq other n ≡ true) (sym e) (same_itself other))

-- the first place of a name that is among the first k names
pub place_below : (names : List Text) (name : Text) (k : ℕ) → is_in (take k names) name ≡ true → unwrap_or (place_in names name) 0 < k
place_below names name k h = at (place_in names name) refl
  where
    at : (o : Option ℕ) → place_in names name ≡ o → unwrap_or o 0 < k
    at None e = absurd (let n : is_some (position_from (bytes_eq name) 0 (take k names)) ≡ false = ap is_some (place_nowhere (bytes_eq name) 0 names k e) in cc)
    at (Some n) e =
        let l : nat_lt n (0 + k) ≡ true = place_among (bytes_eq name) 0 names n k e ∙ h in
        grind (arith, nat_tests)

-- a name stands at its place, counted from i
record StandsAt (names : List Text) (name : Text) (i n : ℕ) : Type 0 where
  place : ℕ
  number : n ≡ i + place
  listed : slice_get names place ≡ Some name

stands : (names : List Text) (name : Text) (i n : ℕ) → position_from (bytes_eq name) i names ≡ Some n → StandsAt names name i n
stands [] name i n = λ h. absurd (cc)
stands (x ∷ xs) name i n =
    split (bytes_eq name x) (λ b. cond b (Some i) (position_from (bytes_eq name) (i + 1) xs) ≡ Some n → StandsAt (x ∷ xs) name i n)
    (λ e h. let same : i ≡ n = cc in record { place = zero; number = omega arith; listed = ap Some (sym (same_bytes name x e)) })
    (λ e h. let r = stands xs name (i + 1) n h in record { place = suc r.place; number = let k : n ≡ i + 1 + r.place = r.number in omega arith; listed = r.listed })

pub place_listed : (names : List Text) (name : Text) (n : ℕ) → place_in names name ≡ Some n → slice_get names n ≡ Some name
place_listed names name n h =
    let r = stands names name 0 n h in
    let e : n ≡ r.place = let k : n ≡ 0 + r.place = r.number in omega arith in
    ap (slice_get names) e ∙ r.listed

-- one item at least that passes has a place
pub record Passes {X : Type 0} (p : X → Bool) (xs : List X) : Type 0 where
  pub place : ℕ
  pub item : X
  pub listed : slice_get xs place ≡ Some item
  pub passes : p item ≡ true

filtered : {X : Type 0} (p : X → Bool) (xs : List X) → 0 < length (filter p xs) → Passes p xs
filtered p [] = λ h. absurd (omega arith)
filtered {X} p (x ∷ xs) =
    split (p x) (λ b. 0 < length (cond b (x ∷ filter p xs) (filter p xs)) → Passes p (x ∷ xs))
    (λ e h. record { place = zero; item = x; listed = refl; passes = e })
    (λ e h. let r = filtered p xs h in record { place = suc r.place; item = r.item; listed = r.listed; passes = r.passes })

pub counted : {X : Type 0} (p : X → Bool) (xs : List X) → count_by p xs ≡ 1 → Passes p xs
counted p xs h = filtered p xs (let e : length (filter p xs) ≡ 1 = length-filter p xs ∙ h in omega arith)

-- a name that an item gives is among those of the list
pub given_name : {X : Type 0} (f : X → Option Text) (xs : List X) (k : ℕ) (x : X) (name : Text) → slice_get xs k ≡ Some x → f x ≡ Some name → IsPlaced (filter_map f xs) name
given_name f [] k x name = λ h e. absurd (cc)
given_name f (y ∷ xs) zero x name = λ h e. let g : f y ≡ Some name = ap f (let q : y ≡ x = cc in q) ∙ e in record { place = zero; listed = rw g refl }
given_name f (y ∷ xs) (suc k) x name = λ h e. after (f y) (given_name f xs k x name h e) refl
  where
    after : (o : Option Text) → IsPlaced (filter_map f xs) name → f y ≡ o → IsPlaced (filter_map f (y ∷ xs)) name
    after None r g = record { place = r.place; listed = rw g r.listed }
    after (Some n) r g = record { place = suc r.place; listed = rw g r.listed }
