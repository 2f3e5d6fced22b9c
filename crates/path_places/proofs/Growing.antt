-- Lists that grow along with each other.
use Rattle.std.proofs.Common.{◌≡◌, ℕ, zero, suc, ◌+◌, ◌<◌, ◌≤◌, inl, inr, List, [], ◌∷◌, ◌++◌, length, take, get_or, map, refl, ap, subst, sym, ◌∙◌, arith}
use Rattle.std.specs.List.{AllZip, flat_map}
use Rattle.std.proofs.lemmas.List.{append-nil, append_assoc, flat_map_more, take_more, take_all}
use Rattle.foundation.proofs.Members.{Has}
use Rattle.foundation.proofs.Zips.{zip_append}
use Rattle.path_plan.specs.Plans.{count_from, upto}
use Rattle.path_places.specs.invariants.Leaves.{Grows}

pub zip_map : {X A B : Type 0} (R : A → B → Type 0) (f : X → A) (g : X → B) (xs : List X) → ((x : X) → Has xs x → R (f x) (g x)) → AllZip R (map f xs) (map g xs)
zip_map R f g [] a = tt
zip_map R f g (x ∷ xs) a = (a x (inl refl), zip_map R f g xs (λ y has. a y (inr has)))

pub grows_none : {A B : Type 0} (R : A → B → Type 0) (old : List A) → Grows R old old []
grows_none {A} {B} R old before along = subst (λ (xs : List B). AllZip R old xs) (sym (append-nil before)) along

pub grows_more : {A B : Type 0} (R : A → B → Type 0) (old mid new : List A) (xs ys : List B) → Grows R old mid xs → Grows R mid new ys → Grows R old new (xs ++ ys)
grows_more {A} {B} R old mid new xs ys first second before along = subst (λ (zs : List B). AllZip R new zs) (append_assoc before xs ys) (second (before ++ xs) (first before along))

pub grows_pushed : {A B : Type 0} (R : A → B → Type 0) (old new more : List A) (xs : List B) → new ≡ old ++ more → AllZip R more xs → Grows R old new xs
grows_pushed {A} {B} R old new more xs is along before first = subst (λ (zs : List A). AllZip R zs (before ++ xs)) (sym is) (zip_append R old more before xs first along)

-- what one item more gives
pub flat_more : {X Y : Type 0} (f : X → List Y) (xs : List X) (x : X) → flat_map f (xs ++ x ∷ []) ≡ flat_map f xs ++ f x
flat_more f xs x = sym (flat_map_more f [] xs x)

pub upto_more : (n : ℕ) → upto (n + 1) ≡ upto n ++ n ∷ []
upto_more n = let e : 0 + n ≡ n = omega arith in from 0 n ∙ ap (λ k. upto n ++ k ∷ []) e
  where
    from : (a n : ℕ) → count_from a (n + 1) ≡ count_from a n ++ (a + n) ∷ []
    from a zero = ap (λ k. k ∷ []) (let e : a ≡ a + 0 = omega arith in e)
    from a (suc n) = let e : suc a + n ≡ a + suc n = omega arith in let f : suc n + 1 ≡ suc (n + 1) = omega arith in
        ap (count_from a) f ∙ (ap (λ (t : List ℕ). a ∷ t) (from (suc a) n) ∙ ap (λ k. a ∷ (count_from (suc a) n ++ k ∷ [])) e)

pub grows_next : {X A B : Type 0} (R : A → B → Type 0) (f : X → List B) (xs : List X) (i : ℕ) (d : X) (old mid new : List A) → i < length xs → Grows R old mid (flat_map f (take i xs)) → Grows R mid new (f (get_or xs i d)) → Grows R old new (flat_map f (take (i + 1) xs))
grows_next {X} {A} {B} R f xs i d old mid new lt first second =
    let e = ap (flat_map f) (take_more xs i d lt) ∙ flat_more f (take i xs) (get_or xs i d) in
    subst (λ (t : List B). Grows R old new t) (sym e) (grows_more R old mid new (flat_map f (take i xs)) (f (get_or xs i d)) first second)

pub grows_counted : {A B : Type 0} (R : A → B → Type 0) (f : ℕ → List B) (i : ℕ) (old mid new : List A) → Grows R old mid (flat_map f (upto i)) → Grows R mid new (f i) → Grows R old new (flat_map f (upto (i + 1)))
grows_counted {A} {B} R f i old mid new first second =
    let e = ap (flat_map f) (upto_more i) ∙ flat_more f (upto i) i in
    subst (λ (t : List B). Grows R old new t) (sym e) (grows_more R old mid new (flat_map f (upto i)) (f i) first second)

pub grows_all : {X A B : Type 0} (R : A → B → Type 0) (f : X → List B) (xs ys : List X) (i : ℕ) (old new : List A) → xs ≡ ys → length xs ≤ i → Grows R old new (flat_map f (take i xs)) → Grows R old new (flat_map f ys)
grows_all {X} {A} {B} R f xs ys i old new same past grown = subst (λ (zs : List X). Grows R old new (flat_map f zs)) (take_all i xs past ∙ same) grown
