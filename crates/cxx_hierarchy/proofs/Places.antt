-- The first place of a name in a list.
use Rattle.std.proofs.Common.{◌≡◌, ℕ, ◌+◌, ◌<◌, ◌≤◌, zero, suc, Bool, true, false, cond, nat_lt, List, [], ◌∷◌, ◌++◌, length, take, map, refl, sym, ◌∙◌, ap, subst, arith, add-zero}
use Rattle.std.proofs.lemmas.Bool.Decides.{nat_tests}
use Rattle.std.specs.Prelude.{Option, Some, None, is_some}
use Rattle.std.specs.List.{position_from}
use Rattle.std.specs.Map.{lookup}
use Rattle.std.specs.Str.{bytes_eq}
use Rattle.std.specs.Bool.{Decides}
use Rattle.std.proofs.lemmas.Slice.Eq.{bytes_eq-Decides}
use Rattle.indexmap.specs.IndexMap.{insert_entry}
pub use Rattle.foundation.proofs.Truth.{split}
use Rattle.cxx_hierarchy.specs.NameTables.{Text, place_in, is_in}

-- the first of two answers
abbrev pub first_or : {X : Type 0} → Option X → Option X → Option X
first_or None o = o
first_or (Some x) o = Some x

pub place_push : {X : Type 0} (t : X → Bool) (i : ℕ) (xs : List X) (y : X) →
    position_from t i (xs ++ y ∷ []) ≡ first_or (position_from t i xs) (cond (t y) (Some (i + length xs)) None)
place_push t i [] y = rw add-zero refl
place_push {X} t i (x ∷ xs) y =
    split (t x) (λ b. cond b (Some i) (position_from t (i + 1) (xs ++ y ∷ [])) ≡ first_or (cond b (Some i) (position_from t (i + 1) xs)) (cond (t y) (Some (i + length (x ∷ xs))) None))
    (λ h. refl)
    (λ h. let e : i + 1 + length xs ≡ i + length (x ∷ xs) = omega arith in
    place_push t (i + 1) xs y ∙ ap (λ (n : ℕ). first_or (position_from t (i + 1) xs) (cond (t y) (Some n) None)) e)

pub lookup_new : {K X : Type 0} (eq : K → K → Bool) (test : K → Bool) (es : List (K × X)) (k : K) (v : X) → lookup (eq k) es ≡ None →
    lookup test (insert_entry eq es k v) ≡ first_or (lookup test es) (cond (test k) (Some v) None)
lookup_new eq test [] k v = λ h. refl
lookup_new {K} {X} eq test (e ∷ es) k v =
    split (eq k e.0) (λ b. cond b (Some e.1) (lookup (eq k) es) ≡ None → lookup test (cond b ((e.0, v) ∷ es) (e ∷ insert_entry eq es k v)) ≡ first_or (cond (test e.0) (Some e.1) (lookup test es)) (cond (test k) (Some v) None))
    (λ h bad. absurd (cc))
    (λ h none. split (test e.0) (λ b. cond b (Some e.1) (lookup test (insert_entry eq es k v)) ≡ first_or (cond b (Some e.1) (lookup test es)) (cond (test k) (Some v) None))
    (λ g. refl)
    (λ g. lookup_new eq test es k v none))

-- a place is no less than the first number
pub place_from_least : {X : Type 0} (t : X → Bool) (i : ℕ) (xs : List X) (n : ℕ) → position_from t i xs ≡ Some n → i ≤ n
place_from_least t i [] n = λ h. absurd (cc)
place_from_least t i (x ∷ xs) n =
    split (t x) (λ b. cond b (Some i) (position_from t (i + 1) xs) ≡ Some n → i ≤ n)
    (λ g h. let e : i ≡ n = cc in omega arith)
    (λ g h. let r : i + 1 ≤ n = place_from_least t (i + 1) xs n h in omega arith)

-- it is one of the first k exactly where it is below i + k
pub place_among : {X : Type 0} (t : X → Bool) (i : ℕ) (xs : List X) (n k : ℕ) → position_from t i xs ≡ Some n → nat_lt n (i + k) ≡ is_some (position_from t i (take k xs))
place_among t i [] n k = λ h. absurd (cc)
place_among t i (x ∷ xs) n zero = λ h.
    let r : i ≤ n = place_from_least t i (x ∷ xs) n h in grind (arith, nat_tests)
place_among t i (x ∷ xs) n (suc k) =
    split (t x) (λ b. cond b (Some i) (position_from t (i + 1) xs) ≡ Some n → nat_lt n (i + suc k) ≡ is_some (cond b (Some i) (position_from t (i + 1) (take k xs))))
    (λ g h. let e : i ≡ n = cc in let l : n < i + suc k = omega arith in grind (arith, nat_tests))
    (λ g h. let e : i + 1 + k ≡ i + suc k = omega arith in
    subst (λ (m : ℕ). nat_lt n m ≡ is_some (position_from t (i + 1) (take k xs))) e (place_among t (i + 1) xs n k h))

pub place_nowhere : {X : Type 0} (t : X → Bool) (i : ℕ) (xs : List X) (k : ℕ) → position_from t i xs ≡ None → position_from t i (take k xs) ≡ None
place_nowhere t i [] zero = λ h. refl
place_nowhere t i [] (suc k) = λ h. refl
place_nowhere t i (x ∷ xs) zero = λ h. refl
place_nowhere t i (x ∷ xs) (suc k) =
    split (t x) (λ b. cond b (Some i) (position_from t (i + 1) xs) ≡ None → cond b (Some i) (position_from t (i + 1) (take k xs)) ≡ None)
    (λ g h. absurd (cc))
    (λ g h. place_nowhere t (i + 1) xs k h)

pub take_map : {X Y : Type 0} (f : X → Y) (k : ℕ) (xs : List X) → map f (take k xs) ≡ take k (map f xs)
take_map f zero [] = refl
take_map f (suc k) [] = refl
take_map f zero (x ∷ xs) = refl
take_map f (suc k) (x ∷ xs) = ap (λ ys. f x ∷ ys) (take_map f k xs)

-- an option that is no value is None
pub none_of : {X : Type 0} (o : Option X) → is_some o ≡ false → o ≡ None
none_of None h = refl
none_of (Some x) h = absurd (cc)

abbrev pub only_if : {X : Type 0} → Bool → X → Option X
only_if b x = cond b (Some x) None

pub same_some : {X Y : Type 0} (a : Option X) (b : Option Y) (t : Bool) (x : X) (y : Y) → is_some a ≡ is_some b →
    is_some (first_or a (only_if t x)) ≡ is_some (first_or b (only_if t y))
same_some None None true x y h = refl
same_some None None false x y h = refl
same_some None (Some b) t x y h = absurd (cc)
same_some (Some a) None t x y h = absurd (cc)
same_some (Some a) (Some b) t x y h = refl

pub same_bytes : (xs ys : Text) → bytes_eq xs ys ≡ true → xs ≡ ys
same_bytes xs ys h = from_decides (bytes_eq xs ys) (bytes_eq-Decides xs ys) h
  where
    from_decides : (b : Bool) → Decides b (xs ≡ ys) → b ≡ true → xs ≡ ys
    from_decides true d e = d.0 refl
    from_decides false d e = absurd (cc)

-- a name that is there already adds nothing
pub place_again : (names : List Text) (name : Text) → is_in names name ≡ true → (q : Text) → place_in (names ++ name ∷ []) q ≡ place_in names q
place_again names name there q =
    place_push (bytes_eq q) 0 names name ∙ again (place_in names q) (bytes_eq q name) refl refl
  where
    again : (o : Option ℕ) (b : Bool) → place_in names q ≡ o → bytes_eq q name ≡ b → first_or o (only_if b (0 + length names)) ≡ o
    again (Some n) b e g = refl
    again None false e g = refl
    again None true e g =
        let same : q ≡ name = same_bytes q name g in
        absurd (let h : is_in names q ≡ true = subst (λ (r : Text). is_in names r ≡ true) (sym same) there in cc)
