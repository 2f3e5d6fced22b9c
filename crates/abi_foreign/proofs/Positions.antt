-- The first element that passes a test, and what stands at its number in another list.
use Rattle.std.proofs.Common.{◌≡◌, ◌∙◌, ℕ, zero, suc, ◌<◌, ⊎_elim, inl, inr, Bool, true, false, Some, None, List, [], ◌∷◌, ◌++◌, length, map, get_or, append-nil, refl, sym, ap, subst, cond, ltb, arith}
use Rattle.std.specs.Prelude.{position}
use Rattle.std.specs.List.{slice_get, find, position_or_len}
use Rattle.std.proofs.lemmas.Bool.{ltb-true, ltb-false}
use Rattle.std.proofs.lemmas.List.Folds.{find_at}
use Rattle.std.proofs.lemmas.Option.{slice_get_past}
use Rattle.foundation.proofs.Members.{Has}
use Rattle.foundation.proofs.Places.{get_read}
use Rattle.cxx_hierarchy.specs.declared.records.ClassId.{ClassId}
use Rattle.cxx_subobject.specs.declared.Subobject.{Subobject}
use Rattle.cxx_subobject.specs.Subobjects.{subobject}
use Rattle.abi_sound.specs.Places.{place_or_zero, nth_place}

-- an element that is found
pub record IsFirst {X : Type 0} (p : X → Bool) (xs : List X) (x : X) : Type 0 where
  pub found : find p xs ≡ Some x
  pub passes : p x ≡ true
  pub has : Has xs x

-- the first of a list that begins with this element
first_by : {X : Type 0} (p : X → Bool) (y : X) (xs : List X) (x : X) → Has (y ∷ xs) x → p x ≡ true → (Has xs x → (z : X) × IsFirst p xs z) → (b : Bool) → p y ≡ b → (z : X) × IsFirst p (y ∷ xs) z
first_by p y xs x has passes later true on = (y, record { found = ap (λ b. cond b (Some y) (find p xs)) on; passes = on; has = inl refl })
first_by p y xs x has passes later false off =
    let rest = ⊎_elim (λ e. let no : p x ≡ false = ap p (sym e) ∙ off in absurd (cc)) later has in
    (rest.0, record { found = ap (λ b. cond b (Some y) (find p xs)) off ∙ rest.1.found; passes = rest.1.passes; has = inr rest.1.has })

pub find_some : {X : Type 0} (p : X → Bool) (xs : List X) (x : X) → Has xs x → p x ≡ true → (y : X) × IsFirst p xs y
find_some p [] x has passes = absurd has
find_some p (y ∷ xs) x has passes = first_by p y xs x has passes (λ more. find_some p xs x more passes) (p y) refl

-- the number of what is found
pub position_some : {X : Type 0} (p : X → Bool) (xs : List X) (x : X) → find p xs ≡ Some x → (n : ℕ) × (position p xs ≡ Some n) × (slice_get xs n ≡ Some x)
position_some {X} p xs x e = by_test (ltb (position_or_len p xs) (length xs)) refl
  where
    by_test : (b : Bool) → ltb (position_or_len p xs) (length xs) ≡ b → (n : ℕ) × (position p xs ≡ Some n) × (slice_get xs n ≡ Some x)
    by_test true t = (position_or_len p xs, ap (λ b. cond b (Some (position_or_len p xs)) None) t, sym (find_at p xs) ∙ e)
    by_test false f =
        let none : find p xs ≡ None = find_at p xs ∙ slice_get_past xs (position_or_len p xs) (ltb-false (position_or_len p xs) (length xs) f) in
        absurd (cc)

pub mapped_at : {X Y : Type 0} (f : X → Y) (xs : List X) (i : ℕ) (x : X) → slice_get xs i ≡ Some x → slice_get (map f xs) i ≡ Some (f x)
mapped_at f [] i x e = absurd (cc)
mapped_at f (y ∷ xs) zero x e = let same : y ≡ x = cc in ap (λ z. Some (f z)) same
mapped_at f (y ∷ xs) (suc i) x e = mapped_at f xs i x e

-- what stands in a mapped list at the number of the first element that passes
pub mapped_first : {X Y : Type 0} (f : X → Y) (p : X → Bool) (xs : List X) (x : X) (v : Y) → Has xs x → p x ≡ true → ((y : X) → p y ≡ true → f y ≡ v) → (n : ℕ) × (position p xs ≡ Some n) × (slice_get (map f xs) n ≡ Some v)
mapped_first f p xs x v has passes same =
    let first = find_some p xs x has passes in
    let at = position_some p xs first.0 first.1.found in
    (at.0, at.1, mapped_at f xs at.0 first.0 at.2 ∙ ap (λ z. Some z) (same first.0 first.1.passes))

pub place_first : {X : Type 0} (f : X → ℕ) (p : X → Bool) (xs : List X) (x : X) (v : ℕ) → Has xs x → p x ≡ true → ((y : X) → p y ≡ true → f y ≡ v) → nth_place (map f xs) (position p xs) ≡ v
place_first f p xs x v has passes same =
    let at = mapped_first f p xs x v has passes same in
    ap (nth_place (map f xs)) at.1 ∙ ap place_or_zero at.2

pub get_below : {X : Type 0} (xs : List X) (i : ℕ) (x : X) → slice_get xs i ≡ Some x → i < length xs
get_below [] i x e = absurd (cc)
get_below (y ∷ xs) zero x e = omega arith
get_below (y ∷ xs) (suc i) x e = let more = get_below xs i x e in omega arith

-- where what is found stands
located : {X : Type 0} (p : X → Bool) (xs : List X) (n : ℕ) → position p xs ≡ Some n → (n < length xs) × (find p xs ≡ slice_get xs n)
located {X} p xs n e = by_test (ltb (position_or_len p xs) (length xs)) refl
  where
    by_test : (b : Bool) → ltb (position_or_len p xs) (length xs) ≡ b → (n < length xs) × (find p xs ≡ slice_get xs n)
    by_test true t =
        let both : Some (position_or_len p xs) ≡ Some n = sym (ap (λ b. cond b (Some (position_or_len p xs)) None) t) ∙ e in
        let same : position_or_len p xs ≡ n = cc in
        (subst (λ (k : ℕ). k < length xs) same (ltb-true (position_or_len p xs) (length xs) t), find_at p xs ∙ ap (slice_get xs) same)
    by_test false f =
        let none : None ≡ Some n = sym (ap (λ b. cond b (Some (position_or_len p xs)) None) f) ∙ e in
        absurd (cc)

pub nowhere : {X : Type 0} (p : X → Bool) (xs : List X) → position p xs ≡ None → find p xs ≡ None
nowhere {X} p xs e = by_test (ltb (position_or_len p xs) (length xs)) refl
  where
    by_test : (b : Bool) → ltb (position_or_len p xs) (length xs) ≡ b → find p xs ≡ None
    by_test true t =
        let some : Some (position_or_len p xs) ≡ None = sym (ap (λ b. cond b (Some (position_or_len p xs)) None) t) ∙ e in
        absurd (cc)
    by_test false f = find_at p xs ∙ slice_get_past xs (position_or_len p xs) (ltb-false (position_or_len p xs) (length xs) f)

-- the copy of a subobject that is found
pub copy_found : (p : Subobject → Bool) (list : List Subobject) (n : ℕ) (s t : Subobject) → position p list ≡ Some n → s ≡ get_or list n s → t ≡ subobject s.root (s.path ++ []) → Some t ≡ find p list
copy_found p list n s t at is same =
    let there = located p list n at in
    let make : List ClassId → Subobject = λ path. subobject s.root path in
    ap (λ (x : Subobject). Some x) (same ∙ ap make (append-nil s.path)) ∙ sym (there.1 ∙ get_read list n s there.0 is)
