-- What begins at each bit in turn, of two lists that go along with each other.
use Rattle.std.proofs.Common.{◌≡◌, ◌∙◌, ℕ, Bool, true, false, cond, List, [], ◌∷◌, ◌++◌, map, refl, ap, subst, sym}
use Rattle.std.specs.Prelude.{filter}
use Rattle.std.specs.List.{AllZip, flat_map}
use Rattle.std.proofs.lemmas.List.{map-append}
use Rattle.std.proofs.lemmas.List.Concat.{flat_map-append}
use Rattle.std.proofs.lemmas.List.Elements.{filter-append}
use Rattle.foundation.proofs.Zips.{zip_append}

-- for each of these bits what begins there
abbrev pub in_turn : {A : Type 0} → (ℕ → A → Bool) → List ℕ → List A → List A
in_turn p bits xs = flat_map (λ bit. filter (p bit) xs) bits

map_chosen : {A B : Type 0} (f : A → B) (b : Bool) (x : A) (xs : List A) → cond b (f x ∷ map f xs) (map f xs) ≡ map f (cond b (x ∷ xs) xs)
map_chosen f true x xs = refl
map_chosen f false x xs = refl

-- a test of what a map gives
filter_of_map : {A B : Type 0} (f : A → B) (p : B → Bool) (q : A → Bool) (xs : List A) → ((x : A) → p (f x) ≡ q x) → filter p (map f xs) ≡ map f (filter q xs)
filter_of_map f p q [] same = refl
filter_of_map {A} {B} f p q (x ∷ xs) same =
    ap (λ (b : Bool). cond b (f x ∷ filter p (map f xs)) (filter p (map f xs))) (same x)
    ∙ (ap (λ (ys : List B). cond (q x) (f x ∷ ys) ys) (filter_of_map f p q xs same)
    ∙ map_chosen f (q x) x (filter q xs))

-- a map that keeps the bit at which each begins
pub turn_of_map : {A B : Type 0} (f : A → B) (p : ℕ → B → Bool) (q : ℕ → A → Bool) (bits : List ℕ) (xs : List A) → ((bit : ℕ) (x : A) → p bit (f x) ≡ q bit x) → in_turn p bits (map f xs) ≡ map f (in_turn q bits xs)
turn_of_map f p q [] xs same = refl
turn_of_map {A} {B} f p q (bit ∷ bits) xs same =
    ap (λ (ys : List B). ys ++ in_turn p bits (map f xs)) (filter_of_map f (p bit) (q bit) xs (same bit))
    ∙ (ap (λ (ys : List B). map f (filter (q bit) xs) ++ ys) (turn_of_map f p q bits xs same)
    ∙ sym (map-append f (filter (q bit) xs) (in_turn q bits xs)))

zip_chosen : {A B : Type 0} (R : A → B → Type 0) (b : Bool) (x : A) (xs : List A) (y : B) (ys : List B) → R x y → AllZip R xs ys → AllZip R (cond b (x ∷ xs) xs) (cond b (y ∷ ys) ys)
zip_chosen R true x xs y ys r z = (r, z)
zip_chosen R false x xs y ys r z = z

zip_filter : {A B : Type 0} (R : A → B → Type 0) (p : A → Bool) (q : B → Bool) (xs : List A) (ys : List B) → ((x : A) (y : B) → R x y → p x ≡ q y) → AllZip R xs ys → AllZip R (filter p xs) (filter q ys)
zip_filter R p q [] [] same z = tt
zip_filter R p q [] (y ∷ ys) same z = absurd z
zip_filter R p q (x ∷ xs) [] same z = absurd z
zip_filter R p q (x ∷ xs) (y ∷ ys) same z =
    subst (λ (b : Bool). AllZip R (cond b (x ∷ filter p xs) (filter p xs)) (cond (q y) (y ∷ filter q ys) (filter q ys))) (sym (same x y z.0))
    (zip_chosen R (q y) x (filter p xs) y (filter q ys) z.0 (zip_filter R p q xs ys same z.1))

-- two lists of which each pair begins at one bit
pub zip_turn : {A B : Type 0} (R : A → B → Type 0) (p : ℕ → A → Bool) (q : ℕ → B → Bool) (bits : List ℕ) (xs : List A) (ys : List B) → ((bit : ℕ) (x : A) (y : B) → R x y → p bit x ≡ q bit y) → AllZip R xs ys → AllZip R (in_turn p bits xs) (in_turn q bits ys)
zip_turn R p q [] xs ys same z = tt
zip_turn R p q (bit ∷ bits) xs ys same z = zip_append R (filter (p bit) xs) (in_turn p bits xs) (filter (q bit) ys) (in_turn q bits ys) (zip_filter R (p bit) (q bit) xs ys (same bit) z) (zip_turn R p q bits xs ys same z)

-- values of which the items of one kind have none, and those of the other kind one each
module _ {A B C V : Type 0} (values : C → List V) (f : A → C) (g : B → C) (v : B → V) (none : (a : A) → values (f a) ≡ []) (single : (b : B) → values (g b) ≡ v b ∷ []) where
  dropped : (b : Bool) (c : C) (cs : List C) → values c ≡ [] → flat_map values (cond b (c ∷ cs) cs) ≡ flat_map values cs
  dropped true c cs e = ap (λ (vs : List V). vs ++ flat_map values cs) e
  dropped false c cs e = refl

  none_chosen : (p : C → Bool) (xs : List A) → flat_map values (filter p (map f xs)) ≡ []
  none_chosen p [] = refl
  none_chosen p (x ∷ xs) = dropped (p (f x)) (f x) (filter p (map f xs)) (none x) ∙ none_chosen p xs

  one_each : (ys : List B) → flat_map values (map g ys) ≡ map v ys
  one_each [] = refl
  one_each (y ∷ ys) = ap (λ (vs : List V). vs ++ flat_map values (map g ys)) (single y) ∙ ap (λ (vs : List V). v y ∷ vs) (one_each ys)

  values_chosen : (p : C → Bool) (q : B → Bool) (xs : List A) (ys : List B) → ((b : B) → p (g b) ≡ q b) → flat_map values (filter p (map f xs ++ map g ys)) ≡ map v (filter q ys)
  values_chosen p q xs ys same =
      ap (flat_map values) (filter-append p (map f xs) (map g ys))
      ∙ (flat_map-append values (filter p (map f xs)) (filter p (map g ys))
      ∙ (ap (λ (vs : List V). vs ++ flat_map values (filter p (map g ys))) (none_chosen p xs)
      ∙ (ap (flat_map values) (filter_of_map g p q ys same)
      ∙ one_each (filter q ys))))

  pub values_in_turn : (p : ℕ → C → Bool) (q : ℕ → B → Bool) (bits : List ℕ) (xs : List A) (ys : List B) → ((bit : ℕ) (b : B) → p bit (g b) ≡ q bit b) → flat_map values (in_turn p bits (map f xs ++ map g ys)) ≡ map v (in_turn q bits ys)
  values_in_turn p q [] xs ys same = refl
  values_in_turn p q (bit ∷ bits) xs ys same =
      flat_map-append values (filter (p bit) (map f xs ++ map g ys)) (in_turn p bits (map f xs ++ map g ys))
      ∙ (ap (λ (vs : List V). vs ++ flat_map values (in_turn p bits (map f xs ++ map g ys))) (values_chosen (p bit) (q bit) xs ys (same bit))
      ∙ (ap (λ (vs : List V). map v (filter (q bit) ys) ++ vs) (values_in_turn p q bits xs ys same)
      ∙ sym (map-append v (filter (q bit) ys) (in_turn q bits ys))))
