-- In preorder the first base of a subobject stands next to it, where it is not virtual.
use Rattle.std.proofs.Common.{◌≡◌, ℕ, zero, suc, ◌+◌, ◌<◌, ◌≤◌, ◌⊎◌, inl, inr, ⊎_elim, Bool, true, false, Option, Some, None, List, [], ◌∷◌, ◌++◌, length, refl, ap, subst, sym, ◌∙◌, arith, append_assoc, eqb-true}
use Rattle.std.specs.Prelude.{slice_get, if◌then◌else◌, not, nat_eq}
use Rattle.std.specs.List.{flat_map}
use Rattle.std.proofs.lemmas.Bool.{and_parts, cases_order}
use Rattle.std.proofs.lemmas.List.{append-nil}
use Rattle.std.proofs.lemmas.Option.{slice_get_within}
use Rattle.foundation.proofs.Truth.{split, not_both}
use Rattle.foundation.proofs.Places.{length_pushed}
use Rattle.foundation.proofs.Members.{Has, has_left, has_right, has_cases, contains_from_has}
use Rattle.cxx_hierarchy.specs.declared.records.ClassId.{ClassId}
use Rattle.cxx_hierarchy.specs.declared.records.Base.{Base}
use Rattle.cxx_hierarchy.specs.Classes.{Classes, bases_of}
use Rattle.cxx_hierarchy.specs.Hierarchies.{IsHierarchy}
use Rattle.cxx_subobject.specs.declared.Root.TheVariants.{Shared}
use Rattle.cxx_subobject.specs.declared.Subobject.{Subobject}
use Rattle.cxx_subobject.specs.Subobjects.{subobject, whole_of, base_subobject, class_of, class_of_path, same_subobject}
use Rattle.cxx_subobject.specs.Preorder.{tree, preorder}
use Rattle.cxx_subobject.specs.invariants.Walks.{with_new}
use Rattle.cxx_subobject.proofs.TreeLemmas.{subobject_same, same_itself}
use Rattle.cxx_subobject.proofs.TestLemmas.{base_class}
use Rattle.cxx_subobject.proofs.WalkLemmas.{new_there, new_push, new_is_firsts, start_at}
use Rattle.abi_slots.proofs.Chains.{same_some}
use Rattle.abi_vtable.specs.invariants.Near.{begins_with_base}

-- the first of these bases as that of a subobject, where it is not virtual
abbrev near_among : Subobject → List (Base ClassId) → Option Subobject
near_among s [] = None
near_among s (base ∷ rest) = if base.is_virtual then None else Some (subobject s.root (s.path ++ base.class ∷ []))

abbrev near_of : Classes → Subobject → Option ClassId → Option Subobject
near_of h s None = None
near_of h s (Some c) = near_among s (bases_of h c)

abbrev near_base : Classes → Subobject → Option Subobject
near_base h s = near_of h s (class_of s)

abbrev Begins : List Subobject → Subobject → Type 0
Begins [] t = ⊥
Begins (x ∷ xs) t = x ≡ t

-- the near base of each stands next to it
abbrev AreNear : Classes → List Subobject → Type 0
AreNear h [] = Unit {0}
AreNear h (x ∷ xs) = ((t : Subobject) → near_base h x ≡ Some t → Begins xs t) × AreNear h xs

-- no near base stands before what it is the base of
abbrev AreLed : Classes → List Subobject → List Subobject → Type 0
AreLed h before [] = Unit {0}
AreLed h before (x ∷ xs) = ((s : Subobject) → near_base h s ≡ Some x → Has before s) × AreLed h (before ++ x ∷ []) xs

begins_more : (xs ys : List Subobject) (t : Subobject) → Begins xs t → Begins (xs ++ ys) t
begins_more [] ys t b = absurd b
begins_more (x ∷ xs) ys t b = b

near_more : (h : Classes) (xs ys : List Subobject) → AreNear h xs → AreNear h ys → AreNear h (xs ++ ys)
near_more h [] ys a b = b
near_more h (x ∷ xs) ys a b = ((λ t e. begins_more xs ys t (a.0 t e)), near_more h xs ys a.1 b)

led_wider : (h : Classes) (before more xs : List Subobject) → ((s : Subobject) → Has before s → Has more s) → AreLed h before xs → AreLed h more xs
led_wider h before more [] wide a = tt
led_wider h before more (x ∷ xs) wide a =
    ((λ s e. wide s (a.0 s e)), led_wider h (before ++ x ∷ []) (more ++ x ∷ []) xs (λ s k. ⊎_elim (λ old. has_left more (x ∷ []) s (wide s old)) (λ last. has_right more (x ∷ []) s last) (has_cases before (x ∷ []) s k)) a.1)

led_more : (h : Classes) (before xs ys : List Subobject) → AreLed h before xs → AreLed h (before ++ xs) ys → AreLed h before (xs ++ ys)
led_more h before [] ys a b = subst (λ l. AreLed h l ys) (append-nil before) b
led_more h before (x ∷ xs) ys a b = (a.0, led_more h (before ++ x ∷ []) xs ys a.1 (subst (λ l. AreLed h l ys) (sym (append_assoc before (x ∷ []) xs)) b))

-- one or the other
has_or_not : (found : List Subobject) (x : Subobject) → Has found x ⊎ (Has found x → ⊥)
has_or_not [] x = inr (λ k. k)
has_or_not (y ∷ found) x =
    split (same_subobject y x) (λ b. Has (y ∷ found) x ⊎ (Has (y ∷ found) x → ⊥)) (λ e. inl (inl (subobject_same y x e)))
    (λ e. ⊎_elim (λ old. inl (inr old)) (λ new. inr (λ k. ⊎_elim (λ same. not_both (subst (λ a. same_subobject y a ≡ true) same (same_itself y)) e) new k)) (has_or_not found x))

from_last : (found : List Subobject) (x s : Subobject) → Has (found ++ x ∷ []) s → Has found s ⊎ (x ≡ s)
from_last found x s k = ⊎_elim (λ old. inl old) (λ last. ⊎_elim (λ same. inr same) (λ bad. absurd bad) last) (has_cases found (x ∷ []) s k)

first_new : (found list : List Subobject) (t : Subobject) → Begins list t → (Has found t → ⊥) → slice_get (with_new found list) (length found) ≡ Some t
first_new found [] t b none = absurd b
first_new found (y ∷ list) t b none =
    ap (λ xs. slice_get xs (length found)) (new_push found y list (λ k. none (subst (λ a. Has found a) b k)))
    ∙ start_at found list (with_new (found ++ y ∷ []) list) (length found) y refl refl
    ∙ ap (λ a. Some a) b

near_new : (h : Classes) (found list : List Subobject) → ((s t : Subobject) → near_base h s ≡ Some t → Has found t → Has found s) → AreNear h list → AreLed h found list → (i : ℕ) (s t : Subobject) → length found ≤ i → slice_get (with_new found list) i ≡ Some s → near_base h s ≡ Some t → slice_get (with_new found list) (i + 1) ≡ Some t
near_new h found [] closed near led i s t le e is = absurd (let lt = slice_get_within found i s e in omega arith)
near_new h found (x ∷ list) closed near led i s t le e is = ⊎_elim
    (λ old.
    let same = new_there found x list old in
    ap (λ xs. slice_get xs (i + 1)) same ∙ near_new h found list closed near.1 (led_wider h (found ++ x ∷ []) found list (λ u k. ⊎_elim (λ a. a) (λ b. subst (λ a. Has found a) b old) (from_last found x u k)) led.1) i s t le (ap (λ xs. slice_get xs i) (sym same) ∙ e) is)
    (λ new.
    let opened = new_push found x list new in
    let there : slice_get (with_new (found ++ x ∷ []) list) i ≡ Some s = ap (λ xs. slice_get xs i) (sym opened) ∙ e in
    let owner : (u v : Subobject) → near_base h u ≡ Some v → Has (found ++ x ∷ []) v → Has found u = λ u v n k. ⊎_elim (λ a. closed u v n a) (λ y. led.0 u (n ∙ ap (λ a. Some a) (sym y))) (from_last found x v k) in
    ap (λ xs. slice_get xs (i + 1)) opened ∙ ⊎_elim
    (λ here.
    let one : x ≡ s = same_some x s (sym (start_at found list (with_new (found ++ x ∷ []) list) i x here refl) ∙ there) in
    let n : near_base h x ≡ Some t = ap (near_base h) one ∙ is in
    let size : i + 1 ≡ length (found ++ x ∷ []) = let k = length_pushed found x in omega arith in
    ap (slice_get (with_new (found ++ x ∷ []) list)) size ∙ first_new (found ++ x ∷ []) list t (near.0 t n) (λ k. new (owner x t n k)))
    (λ o. ⊎_elim
    (λ less. absurd (omega arith))
    (λ more. near_new h (found ++ x ∷ []) list (λ u v n k. has_left found (x ∷ []) u (owner u v n k)) near.1 led.1 i s t (let k = length_pushed found x in omega arith) there is)
    o)
    (cases_order i (length found)))
    (has_or_not found x)

-- trees

near_flat : (h : Classes) (f : Base ClassId → List Subobject) (bases : List (Base ClassId)) → ((base : Base ClassId) → Has bases base → AreNear h (f base)) → AreNear h (flat_map f bases)
near_flat h f [] each = tt
near_flat h f (base ∷ rest) each = near_more h (f base) (flat_map f rest) (each base (inl refl)) (near_flat h f rest (λ b k. each b (inr k)))

near_head : (h : Classes) (n : ℕ) (s : Subobject) (bases : List (Base ClassId)) (t : Subobject) → ((base : Base ClassId) → Has bases base → base.class.0 < n) → near_among s bases ≡ Some t → Begins (flat_map (λ base. tree h n base.class (base_subobject s base)) bases) t
near_head h n s [] t small e = cc
near_head h zero s (base ∷ rest) t small e = absurd (let lt = small base (inl refl) in omega arith)
near_head h (suc n) s (base ∷ rest) t small e =
    split base.is_virtual (λ b. (if b then None else Some (subobject s.root (s.path ++ base.class ∷ []))) ≡ Some t → (if b then subobject (Shared base.class) (base.class ∷ []) else subobject s.root (s.path ++ base.class ∷ [])) ≡ t)
    (λ g k. cc) (λ g k. same_some (subobject s.root (s.path ++ base.class ∷ [])) t k) e

near_tree : (h : Classes) → IsHierarchy h → (n : ℕ) (c : ClassId) (s : Subobject) → c.0 < n → class_of s ≡ Some c → AreNear h (tree h n c s)
near_tree h keeps zero c s lt e = absurd (omega arith)
near_tree h keeps (suc n) c s lt e = (
  (λ t is. near_head h n s (bases_of h c) t (λ base k. small base k) (ap (near_of h s) (sym e) ∙ is)),
  near_flat h (λ base. tree h n base.class (base_subobject s base)) (bases_of h c) (λ base k. near_tree h keeps n base.class (base_subobject s base) (small base k) (base_class s c base e)),
)
  where
    small : (base : Base ClassId) → Has (bases_of h c) base → base.class.0 < n
    small base k = let less = keeps.bases c base (contains_from_has (bases_of h c) base k) in omega arith

-- a near base has a longer path

record IsNearBase (s t : Subobject) : Type 0 where
  class : ClassId
  of : class_of s ≡ Some class
  last : ClassId
  is : t ≡ subobject s.root (s.path ++ last ∷ [])

near_is : (h : Classes) (s t : Subobject) → near_base h s ≡ Some t → IsNearBase s t
near_is h s t e = by_class (class_of s) refl e
  where
    by_bases : (c : ClassId) → class_of s ≡ Some c → (bases : List (Base ClassId)) → near_among s bases ≡ Some t → IsNearBase s t
    by_bases c of [] k = cc
    by_bases c of (base ∷ rest) k =
        split base.is_virtual (λ b. (if b then None else Some (subobject s.root (s.path ++ base.class ∷ []))) ≡ Some t → IsNearBase s t)
        (λ g n. cc) (λ g n. record { class = c; of = of; last = base.class; is = sym (same_some (subobject s.root (s.path ++ base.class ∷ [])) t n) }) k

    by_class : (o : Option ClassId) → class_of s ≡ o → near_of h s o ≡ Some t → IsNearBase s t
    by_class None of k = cc
    by_class (Some c) of k = by_bases c of (bases_of h c) k

filled : (path : List ClassId) (c : ClassId) → class_of_path path ≡ Some c → 0 < length path
filled [] c e = cc
filled (x ∷ path) c e = omega arith

-- what is but one class long is near to nothing
no_owner : (s t : Subobject) → IsNearBase s t → length t.path ≡ 1 → ⊥
no_owner s t near short =
    let long : length t.path ≡ length s.path + 1 = ap (λ (x : Subobject). length x.path) near.is ∙ length_pushed s.path near.last in
    let some = filled s.path near.class near.of in
    omega arith

end_same : (p q : List ClassId) (a b : ClassId) → p ++ a ∷ [] ≡ q ++ b ∷ [] → p ≡ q
end_same [] [] a b e = refl
end_same [] (y ∷ q) a b e = absurd (let n = ap length e in let m = length_pushed q b in omega arith)
end_same (x ∷ p) [] a b e = absurd (let n = ap length e in let m = length_pushed p a in omega arith)
end_same (x ∷ p) (y ∷ q) a b e =
    let first : x ≡ y = cc in
    let rest : p ++ a ∷ [] ≡ q ++ b ∷ [] = cc in
    ap (λ z. z ∷ p) first ∙ ap (λ zs. y ∷ zs) (end_same p q a b rest)

owner_is : (s u : Subobject) (base : Base ClassId) → IsNearBase u (base_subobject s base) → s ≡ u
owner_is s u base near =
    split base.is_virtual (λ b. IsNearBase u (if b then subobject (Shared base.class) (base.class ∷ []) else subobject s.root (s.path ++ base.class ∷ [])) → s ≡ u)
    (λ g n. absurd (no_owner u (subobject (Shared base.class) (base.class ∷ [])) n refl))
    (λ g n.
    let roots : s.root ≡ u.root = ap (λ (x : Subobject). x.root) n.is in
    let paths : s.path ≡ u.path = end_same s.path u.path base.class n.last (ap (λ (x : Subobject). x.path) n.is) in
    ap (λ r. subobject r s.path) roots ∙ ap (λ p. subobject u.root p) paths)
    near

led_flat : (h : Classes) (s : Subobject) (f : Base ClassId → List Subobject) (bases : List (Base ClassId)) (before : List Subobject) → Has before s → ((base : Base ClassId) (more : List Subobject) → Has more s → AreLed h more (f base)) → AreLed h before (flat_map f bases)
led_flat h s f [] before has each = tt
led_flat h s f (base ∷ rest) before has each = led_more h before (f base) (flat_map f rest) (each base before has) (led_flat h s f rest (before ++ f base) (has_left before (f base) s has) each)

led_tree : (h : Classes) (n : ℕ) (c : ClassId) (s : Subobject) (before : List Subobject) → class_of s ≡ Some c → ((u : Subobject) → near_base h u ≡ Some s → Has before u) → AreLed h before (tree h n c s)
led_tree h zero c s before e lead = tt
led_tree h (suc n) c s before e lead = (
  lead,
  led_flat h s (λ base. tree h n base.class (base_subobject s base)) (bases_of h c) (before ++ s ∷ []) (has_right before (s ∷ []) s (inl refl))
      (λ base more has. led_tree h n base.class (base_subobject s base) more (base_class s c base e) (λ u k. subst (λ a. Has more a) (owner_is s u base (near_is h u (base_subobject s base) k)) has)),
)

next_near : (h : Classes) → IsHierarchy h → (c : ClassId) (i : ℕ) (s t : Subobject) → slice_get (preorder h c) i ≡ Some s → near_base h s ≡ Some t → slice_get (preorder h c) (i + 1) ≡ Some t
next_near h keeps c i s t e is =
    let all = tree h (c.0 + 1) c (whole_of c) in
    let same : with_new [] all ≡ preorder h c = new_is_firsts all in
    ap (λ xs. slice_get xs (i + 1)) (sym same)
    ∙ near_new h [] all (λ u v n k. absurd k) (near_tree h keeps (c.0 + 1) c (whole_of c) (omega arith) refl) (led_tree h (c.0 + 1) c (whole_of c) [] refl (λ u k. absurd (no_owner u (whole_of c) (near_is h u (whole_of c) k) refl))) i s t (omega arith) (ap (λ xs. slice_get xs i) same ∙ e) is

is_plain : (a : Bool) → not a ≡ true → a ≡ false
is_plain true e = cc
is_plain false e = refl

-- the first base of a class, where it is not virtual
pub first_next : (h : Classes) → IsHierarchy h → (c : ClassId) (list : List Subobject) (i : ℕ) (s : Subobject) (d b : ClassId) (bases : List (Base ClassId)) → list ≡ preorder h c → slice_get list i ≡ Some s → class_of s ≡ Some d → bases ≡ bases_of h d → begins_with_base bases b ≡ true → slice_get list (i + 1) ≡ Some (subobject s.root (s.path ++ b ∷ []))
first_next h keeps c list i s d b bases is there of same first =
    ap (λ xs. slice_get xs (i + 1)) is ∙ next_near h keeps c i s (subobject s.root (s.path ++ b ∷ [])) (ap (λ xs. slice_get xs i) (sym is) ∙ there) (ap (near_of h s) of ∙ ap (near_among s) (sym same) ∙ begins bases first)
  where
    begins : (bases : List (Base ClassId)) → begins_with_base bases b ≡ true → near_among s bases ≡ Some (subobject s.root (s.path ++ b ∷ []))
    begins [] e = cc
    begins (base ∷ rest) e =
        let parts = and_parts (not base.is_virtual) (nat_eq base.class.0 b.0) e in
        let plain = is_plain base.is_virtual parts.0 in
        let one : base.class ≡ b = ap (λ (k : ℕ). record { 0 = k }) (eqb-true base.class.0 b.0 parts.1) in
        rw plain (ap (λ (k : ClassId). Some (subobject s.root (s.path ++ k ∷ []))) one)
