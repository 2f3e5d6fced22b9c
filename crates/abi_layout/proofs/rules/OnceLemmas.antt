-- Lists without repeats: their pieces, and copies of one list of parts.
use Rattle.std.proofs.Common.{◌≡◌, ℕ, zero, suc, ◌+◌, ◌*◌, ◌<◌, ◌⊎◌, inl, inr, ⊎_elim, Some, List, [], ◌∷◌, ◌++◌, map, refl, ap, subst, sym, ◌∙◌, arith}
use Rattle.std.specs.List.{slice_get, flat_map}
use Rattle.std.proofs.lemmas.Bool.{cases_order}
use Rattle.cxx_subobject.proofs.ListLemmas.{Has, EachOnce, has_left, has_right, has_cases, once_append}
use Rattle.abi_emptybase.specs.declared.Part.{Part}
use Rattle.abi_emptybase.specs.Table.{moved_part}
use Rattle.abi_layout.specs.Placements.{copies}
use Rattle.abi_layout.specs.Repeats.{HasRepeat}
use Rattle.abi_layout.proofs.rules.Stages.{has_map}
use Rattle.abi_layout.proofs.lists.Divisions.{copy_ends}

pub once_left : {X : Type 0} (xs ys : List X) → EachOnce (xs ++ ys) → EachOnce xs
once_left [] ys once = tt
once_left (x ∷ xs) ys once = (λ h. once.0 (has_left xs ys x h), once_left xs ys once.1)

pub once_right : {X : Type 0} (xs ys : List X) → EachOnce (xs ++ ys) → EachOnce ys
once_right [] ys once = once
once_right (x ∷ xs) ys once = once_right xs ys once.1

pub once_clash : {X : Type 0} (xs ys : List X) (x : X) → EachOnce (xs ++ ys) → Has xs x → Has ys x → ⊥
once_clash [] ys x once h k = absurd h
once_clash (y ∷ xs) ys x once h k = ⊎_elim (λ e. once.0 (has_right xs ys y (subst (λ z. Has ys z) (sym e) k))) (λ r. once_clash xs ys x once.1 r k) h

pub once_unmapped : {X Y : Type 0} (f : X → Y) (xs : List X) → EachOnce (map f xs) → EachOnce xs
once_unmapped f [] once = tt
once_unmapped f (x ∷ xs) once = (λ h. once.0 (has_map f xs x h), once_unmapped f xs once.1)

-- what an element of a mapped list comes from
pub record ComesFrom {X Y : Type 0} (f : X → Y) (xs : List X) (y : Y) : Type 0 where
  pub item : X
  pub has : Has xs item
  pub is : f item ≡ y

pub unmapped : {X Y : Type 0} (f : X → Y) (xs : List X) (y : Y) → Has (map f xs) y → ComesFrom f xs y
unmapped f [] y h = absurd h
unmapped f (x ∷ xs) y h = ⊎_elim (λ e. record { item = x; has = inl refl; is = e }) (λ r. let k = unmapped f xs y r in record { item = k.item; has = inr k.has; is = k.is }) h

-- where an element stands
pub record StandsAt {X : Type 0} (xs : List X) (x : X) : Type 0 where
  pub number : ℕ
  pub there : slice_get xs number ≡ Some x

pub stands_at : {X : Type 0} (xs : List X) (x : X) → Has xs x → StandsAt xs x
stands_at [] x h = absurd h
stands_at (y ∷ xs) x h = ⊎_elim (λ e. record { number = zero; there = ap (λ z. Some z) e }) (λ r. let k = stands_at xs x r in record { number = suc k.number; there = k.there }) h

pub in_segment : {X Y : Type 0} (f : X → List Y) (xs : List X) (i : ℕ) (x : X) (y : Y) → slice_get xs i ≡ Some x → Has (f x) y → Has (flat_map f xs) y
in_segment f [] i x y e h = cc
in_segment f (z ∷ xs) zero x y e h = let same : z ≡ x = cc in has_left (f z) (flat_map f xs) y (subst (λ w. Has (f w) y) (sym same) h)
in_segment f (z ∷ xs) (suc i) x y e h = has_right (f z) (flat_map f xs) y (in_segment f xs i x y e h)

-- an element of a list of pieces without repeat is in one piece
pub one_segment : {X Y : Type 0} (f : X → List Y) (xs : List X) (i j : ℕ) (a b : X) (y : Y) → EachOnce (flat_map f xs) → slice_get xs i ≡ Some a → slice_get xs j ≡ Some b → Has (f a) y → Has (f b) y → i ≡ j
one_segment f [] i j a b y once d e h k = cc
one_segment f (z ∷ xs) zero zero a b y once d e h k = refl
one_segment f (z ∷ xs) zero (suc j) a b y once d e h k = let same : z ≡ a = cc in absurd (once_clash (f z) (flat_map f xs) y once (subst (λ w. Has (f w) y) (sym same) h) (in_segment f xs j b y e k))
one_segment f (z ∷ xs) (suc i) zero a b y once d e h k = let same : z ≡ b = cc in absurd (once_clash (f z) (flat_map f xs) y once (subst (λ w. Has (f w) y) (sym same) k) (in_segment f xs i a y d h))
one_segment f (z ∷ xs) (suc i) (suc j) a b y once d e h k = let r = one_segment f xs i j a b y (once_right (f z) (flat_map f xs) once) d e h k in omega arith

pub once_segment : {X Y : Type 0} (f : X → List Y) (xs : List X) (i : ℕ) (a : X) → EachOnce (flat_map f xs) → slice_get xs i ≡ Some a → EachOnce (f a)
once_segment f [] i a once e = cc
once_segment f (z ∷ xs) zero a once e = let same : z ≡ a = cc in subst (λ w. EachOnce (f w)) same (once_left (f z) (flat_map f xs) once)
once_segment f (z ∷ xs) (suc i) a once e = once_segment f xs i a (once_right (f z) (flat_map f xs) once) e

-- a copy's parts are among those of all copies
pub has_copy : (n stride : ℕ) (parts : List Part) (e : ℕ) (y : Part) → e < n → Has (map (moved_part (e * stride)) parts) y → Has (copies n stride parts) y
has_copy zero stride parts e y lt h = absurd (omega arith)
has_copy (suc n) stride parts e y lt h = at (cases_order e n) (λ less. has_copy n stride parts e y less h)
  where
    at : (e ≡ n) ⊎ ((e < n) ⊎ (n < e)) → (e < n → Has (copies n stride parts) y) → Has (copies n stride parts ++ map (moved_part (n * stride)) parts) y
    at (inl same) rest = has_right (copies n stride parts) (map (moved_part (n * stride)) parts) y (subst (λ i. Has (map (moved_part (i * stride)) parts) y) same h)
    at (inr (inl less)) rest = has_left (copies n stride parts) (map (moved_part (n * stride)) parts) y (rest less)
    at (inr (inr more)) rest = absurd (omega arith)

-- a part of copies without repeat is in one copy
pub one_copy : (n stride : ℕ) (parts : List Part) (e f : ℕ) (y : Part) → EachOnce (copies n stride parts) → e < n → f < n → Has (map (moved_part (e * stride)) parts) y → Has (map (moved_part (f * stride)) parts) y → e ≡ f
one_copy zero stride parts e f y once lt less h k = absurd (omega arith)
one_copy (suc n) stride parts e f y once lt less h k =
    at (cases_order e n) (cases_order f n) (λ a b. one_copy n stride parts e f y (once_left (copies n stride parts) (map (moved_part (n * stride)) parts) once) a b h k)
  where
    last : (i : ℕ) → i ≡ n → Has (map (moved_part (i * stride)) parts) y → Has (map (moved_part (n * stride)) parts) y
    last i same has = subst (λ j. Has (map (moved_part (j * stride)) parts) y) same has

    clash : (i j : ℕ) → i < n → j ≡ n → Has (map (moved_part (i * stride)) parts) y → Has (map (moved_part (j * stride)) parts) y → ⊥
    clash i j a b has other = once_clash (copies n stride parts) (map (moved_part (n * stride)) parts) y once (has_copy n stride parts i y a has) (last j b other)

    at : (e ≡ n) ⊎ ((e < n) ⊎ (n < e)) → (f ≡ n) ⊎ ((f < n) ⊎ (n < f)) → (e < n → f < n → e ≡ f) → e ≡ f
    at (inl a) (inl b) rest = a ∙ sym b
    at (inl a) (inr (inl b)) rest = absurd (clash f e b a k h)
    at (inl a) (inr (inr b)) rest = absurd (omega arith)
    at (inr (inl a)) (inl b) rest = absurd (clash e f a b h k)
    at (inr (inl a)) (inr (inl b)) rest = rest a b
    at (inr (inl a)) (inr (inr b)) rest = absurd (omega arith)
    at (inr (inr a)) o rest = absurd (omega arith)

pub once_copy : (n stride : ℕ) (parts : List Part) → 0 < n → EachOnce (copies n stride parts) → EachOnce parts
once_copy zero stride parts lt once = absurd (omega arith)
once_copy (suc n) stride parts lt once = once_unmapped (moved_part (n * stride)) parts (once_right (copies n stride parts) (map (moved_part (n * stride)) parts) once)

-- which copy a part is in, and of which part
pub record IsCopied (n stride : ℕ) (parts : List Part) (x : Part) : Type 0 where
  pub copy : ℕ
  pub part : Part
  pub within : copy < n
  pub has : Has parts part
  pub is : moved_part (copy * stride) part ≡ x

pub copied : (n stride : ℕ) (parts : List Part) (x : Part) → Has (copies n stride parts) x → IsCopied n stride parts x
copied zero stride parts x h = absurd h
copied (suc n) stride parts x h = ⊎_elim
    (λ a. let r = copied n stride parts x a in let lt = r.within in record { copy = r.copy; part = r.part; within = omega arith; has = r.has; is = r.is })
    (λ b. let r = unmapped (moved_part (n * stride)) parts x b in record { copy = n; part = r.item; within = omega arith; has = r.has; is = r.is })
    (has_cases (copies n stride parts) (map (moved_part (n * stride)) parts) x h)

abbrev part_with : ℕ → ℕ → Part
part_with class place = record { class = class; place = place }

-- moving is injective
pub moved_back : (at : ℕ) (x y : Part) → moved_part at x ≡ moved_part at y → x ≡ y
moved_back at x y e =
    let class : x.class ≡ y.class = ap (λ (z : Part). z.class) e in
    let sums : x.place + at ≡ y.place + at = ap (λ (z : Part). z.place) e in
    let place : x.place ≡ y.place = omega arith in
    let r : part_with x.class x.place ≡ part_with y.class y.place = ap (λ n. part_with n x.place) class ∙ ap (λ n. part_with y.class n) place in r

pub once_moved : (at : ℕ) (parts : List Part) → EachOnce parts → EachOnce (map (moved_part at) parts)
once_moved at [] once = tt
once_moved at (x ∷ parts) once =
    (λ h. let r = unmapped (moved_part at) parts (moved_part at x) h in once.0 (subst (λ z. Has parts z) (moved_back at r.item x r.is) r.has), once_moved at parts once.1)

-- parts below the stride, each once, stand once in any number of copies
pub once_copies : (n stride : ℕ) (parts : List Part) → EachOnce parts → ((x : Part) → Has parts x → x.place < stride) → EachOnce (copies n stride parts)
once_copies zero stride parts once below = tt
once_copies (suc n) stride parts once below =
    once_append (copies n stride parts) (map (moved_part (n * stride)) parts) (once_copies n stride parts once below) (once_moved (n * stride) parts once)
    (record { none = λ x h k. apart x (copied n stride parts x h) (unmapped (moved_part (n * stride)) parts x k) })
  where
    apart : (x : Part) → IsCopied n stride parts x → ComesFrom (moved_part (n * stride)) parts x → ⊥
    apart x a b =
        let lt = below a.part a.has in
        let one : a.part.place + a.copy * stride ≡ x.place = ap (λ (z : Part). z.place) a.is in
        let two : b.item.place + n * stride ≡ x.place = ap (λ (z : Part). z.place) b.is in
        let ends = copy_ends a.copy n stride a.within in
        omega arith

-- a list in which nothing stands twice has each part once
pub once_by_repeats : (parts : List Part) → (HasRepeat parts → ⊥) → EachOnce parts
once_by_repeats [] none_twice = tt
once_by_repeats (x ∷ parts) none_twice = (
  λ h. let r = stands_at parts x h in none_twice (record { first = zero; second = suc r.number; part = x; ordered = omega arith; at_first = refl; at_second = r.there }),
  once_by_repeats parts (λ t. let lt = t.ordered in none_twice (record { first = suc t.first; second = suc t.second; part = t.part; ordered = omega arith; at_first = t.at_first; at_second = t.at_second })),
)
