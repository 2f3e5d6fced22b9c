-- What the walk over the subobjects of a class keeps.
use Rattle.std.proofs.Common.{◌≡◌, ℕ, zero, suc, ◌+◌, ◌<◌, ◌≤◌, ◌⊎◌, inl, inr, ⊎_elim, Bool, true, false, List, [], ◌∷◌, ◌++◌, length, take, set, get_or, replicate, refl, ap, subst, sym, ◌∙◌, arith, append_assoc, add-one}
use Rattle.std.specs.Prelude.{Some, not, nat_eq, filter, ◌||◌, Contains, slice_get, if◌then◌else◌}
use Rattle.std.specs.List.{flat_map}
use Rattle.std.proofs.lemmas.Bool.{eqb-true, eq-eqb}
use Rattle.std.proofs.lemmas.List.{append-nil, append_cancel_left, get_or-set_same, get_or-set_other, take_all}
use Rattle.std.proofs.lemmas.Option.{slice_get-get_or}
use Rattle.std.proofs.lemmas.List.Folds.{list_any-append}
use Rattle.cxx_hierarchy.specs.declared.records.ClassId.{ClassId}
use Rattle.cxx_hierarchy.specs.declared.records.Base.{Base}
use Rattle.cxx_hierarchy.specs.Classes.{Classes, bases_of}
use Rattle.cxx_hierarchy.specs.Hierarchies.{IsHierarchy}
use Rattle.cxx_hierarchy.specs.VirtualBases.{HasVirtualBase, direct}
use Rattle.cxx_hierarchy.proofs.VirtualRows.{any_item, any_listed}
use Rattle.cxx_subobject.specs.declared.Root.{Root}
use Rattle.cxx_subobject.specs.declared.Root.TheVariants.{Whole, Shared}
use Rattle.cxx_subobject.specs.declared.Subobject.{Subobject}
use Rattle.cxx_subobject.specs.Subobjects.{IsSubobject, whole, shared, subobject, shared_base, whole_of, base_subobject, last_of, class_of_path, class_of, same_subobject}
use Rattle.cxx_subobject.specs.Preorder.{tree, firsts, preorder}
use Rattle.cxx_subobject.specs.invariants.Walks.{is_listed, with_new, IsFresh, AreSharedMarks, IsPlaced, IsClosed}
use Rattle.foundation.proofs.Truth.{split}
use Rattle.foundation.proofs.Places.{get_front, get_last}
use Rattle.foundation.proofs.Members.{Has, has_left, has_right, has_cases, from_flat_map, has_at, contains_from_has, has_from_contains}
use Rattle.cxx_subobject.proofs.TreeLemmas.{IsBelow, down, across, base_down, base_across, edge, tree_sound, tree_complete, tree_steps, subobject_same, same_itself, one_more, base_listed}
use Rattle.cxx_subobject.proofs.InsideLemmas.{join_valid}
use Rattle.cxx_subobject.proofs.PathLemmas.{virtual_through, virtual_below, last_below, not_longer}
use Rattle.cxx_subobject.proofs.TestLemmas.{base_class}

-- the test
listed_has : (found : List Subobject) (s : Subobject) → is_listed found s ≡ true → Has found s
listed_has found s e =
    let r = any_item (λ t. same_subobject t s) found e in
    subst (λ x. Has found x) (subobject_same r.item s r.passes) (has_from_contains found r.item r.listed)

has_listed : (found : List Subobject) (s : Subobject) → Has found s → is_listed found s ≡ true
has_listed found s h = any_listed (λ t. same_subobject t s) found s (contains_from_has found s h) (same_itself s)

not_listed : (found : List Subobject) (s : Subobject) → (Has found s → ⊥) → is_listed found s ≡ false
not_listed found s none = split (is_listed found s) (λ b. b ≡ false) (λ e. absurd (none (listed_has found s e))) (λ e. refl)

pub new_there : (found : List Subobject) (s : Subobject) (list : List Subobject) → Has found s → with_new found (s ∷ list) ≡ with_new found list
new_there found s list h = let e = has_listed found s h in ap (λ (b : Bool). with_new (if b then found else found ++ s ∷ []) list) e

pub new_push : (found : List Subobject) (s : Subobject) (list : List Subobject) → (Has found s → ⊥) → with_new found (s ∷ list) ≡ with_new (found ++ s ∷ []) list
new_push found s list none = let e = not_listed found s none in ap (λ (b : Bool). with_new (if b then found else found ++ s ∷ []) list) e

pub new_append : (found xs ys : List Subobject) → with_new found (xs ++ ys) ≡ with_new (with_new found xs) ys
new_append found [] ys = refl
new_append found (x ∷ xs) ys = new_append (if is_listed found x then found else found ++ x ∷ []) xs ys

step_kept : (found : List Subobject) (x t : Subobject) → Has found t → Has (if is_listed found x then found else found ++ x ∷ []) t
step_kept found x t h = split (is_listed found x) (λ b. Has (if b then found else found ++ x ∷ []) t) (λ e. h) (λ e. has_left found (x ∷ []) t h)

step_added : (found : List Subobject) (x : Subobject) → Has (if is_listed found x then found else found ++ x ∷ []) x
step_added found x = split (is_listed found x) (λ b. Has (if b then found else found ++ x ∷ []) x) (λ e. listed_has found x e) (λ e. has_right found (x ∷ []) x (inl refl))

step_from : (found : List Subobject) (x t : Subobject) → Has (if is_listed found x then found else found ++ x ∷ []) t → Has found t ⊎ (x ≡ t)
step_from found x t = split (is_listed found x) (λ b. Has (if b then found else found ++ x ∷ []) t → Has found t ⊎ (x ≡ t))
    (λ e h. inl h)
    (λ e h. ⊎_elim (λ k. inl k) (λ k. ⊎_elim (λ same. inr same) (λ bad. absurd bad) k) (has_cases found (x ∷ []) t h))

pub kept : (found xs : List Subobject) (t : Subobject) → Has found t → Has (with_new found xs) t
kept found [] t h = h
kept found (x ∷ xs) t h = kept (if is_listed found x then found else found ++ x ∷ []) xs t (step_kept found x t h)

pub added : (found xs : List Subobject) (t : Subobject) → Has xs t → Has (with_new found xs) t
added found [] t h = absurd h
added found (x ∷ xs) t h = ⊎_elim
    (λ e. subst (λ y. Has (with_new found (x ∷ xs)) y) e (kept (if is_listed found x then found else found ++ x ∷ []) xs x (step_added found x)))
    (λ k. added (if is_listed found x then found else found ++ x ∷ []) xs t k) h

pub from_new : (found xs : List Subobject) (t : Subobject) → Has (with_new found xs) t → Has found t ⊎ Has xs t
from_new found [] t h = inl h
from_new found (x ∷ xs) t h = ⊎_elim
    (λ k. ⊎_elim (λ old. inl old) (λ same. inr (inl same)) (step_from found x t k))
    (λ k. inr (inr k))
    (from_new (if is_listed found x then found else found ++ x ∷ []) xs t h)

pub nothing_new : (found xs : List Subobject) → ((t : Subobject) → Has xs t → Has found t) → with_new found xs ≡ found
nothing_new found [] all = refl
nothing_new found (x ∷ xs) all = new_there found x xs (all x (inl refl)) ∙ nothing_new found xs (λ t h. all t (inr h))

-- the first of each, by way of what is new
filter_new : (found : List Subobject) (x : Subobject) (list : List Subobject) →
    filter (λ t. not (is_listed (found ++ x ∷ []) t)) list ≡ filter (λ t. not (is_listed found t)) (filter (λ t. not (same_subobject x t)) list)
filter_new found x [] = refl
filter_new found x (y ∷ list) =
    let r = filter_new found x list in
    let more : is_listed (found ++ x ∷ []) y ≡ (is_listed found y || same_subobject x y) = list_any-append (λ t. same_subobject t y) found (x ∷ []) ∙ ap (λ (b : Bool). is_listed found y || b) (or_false (same_subobject x y)) in
    split (same_subobject x y) (λ b. filter (λ t. not (is_listed (found ++ x ∷ []) t)) (y ∷ list) ≡ filter (λ t. not (is_listed found t)) (if not b then y ∷ filter (λ t. not (same_subobject x t)) list else filter (λ t. not (same_subobject x t)) list))
    (λ e. let there : is_listed (found ++ x ∷ []) y ≡ true = more ∙ ap (λ (b : Bool). is_listed found y || b) e ∙ or_true (is_listed found y) in rw there r)
    (λ e. let here : is_listed (found ++ x ∷ []) y ≡ is_listed found y = more ∙ ap (λ (b : Bool). is_listed found y || b) e ∙ or_false (is_listed found y) in
    split (is_listed found y) (λ b. (if not (is_listed (found ++ x ∷ []) y) then y ∷ filter (λ t. not (is_listed (found ++ x ∷ []) t)) list else filter (λ t. not (is_listed (found ++ x ∷ []) t)) list) ≡ (if not b then y ∷ filter (λ t. not (is_listed found t)) (filter (λ t. not (same_subobject x t)) list) else filter (λ t. not (is_listed found t)) (filter (λ t. not (same_subobject x t)) list)))
    (λ f. let g : is_listed (found ++ x ∷ []) y ≡ true = here ∙ f in rw g r)
    (λ f. let g : is_listed (found ++ x ∷ []) y ≡ false = here ∙ f in rw g (ap (λ ys. y ∷ ys) r)))
  where
    or_false : (b : Bool) → (b || false) ≡ b
    or_false true = refl
    or_false false = refl

    or_true : (b : Bool) → (b || true) ≡ true
    or_true true = refl
    or_true false = refl

filter_skip : (found : List Subobject) (x : Subobject) (list : List Subobject) → is_listed found x ≡ true →
    filter (λ t. not (is_listed found t)) (filter (λ t. not (same_subobject x t)) list) ≡ filter (λ t. not (is_listed found t)) list
filter_skip found x [] e = refl
filter_skip found x (y ∷ list) e =
    let r = filter_skip found x list e in
    split (same_subobject x y) (λ b. filter (λ t. not (is_listed found t)) (if not b then y ∷ filter (λ t. not (same_subobject x t)) list else filter (λ t. not (same_subobject x t)) list) ≡ filter (λ t. not (is_listed found t)) (y ∷ list))
    (λ f. let same = subobject_same x y f in let g : is_listed found y ≡ true = ap (is_listed found) (sym same) ∙ e in rw g r)
    (λ f. split (is_listed found y) (λ b. (if not b then y ∷ filter (λ t. not (is_listed found t)) (filter (λ t. not (same_subobject x t)) list) else filter (λ t. not (is_listed found t)) (filter (λ t. not (same_subobject x t)) list)) ≡ (if not b then y ∷ filter (λ t. not (is_listed found t)) list else filter (λ t. not (is_listed found t)) list))
    (λ g. r) (λ g. ap (λ ys. y ∷ ys) r))

new_firsts : (found list : List Subobject) → with_new found list ≡ found ++ filter (λ t. not (is_listed found t)) (firsts list)
new_firsts found [] = sym (append-nil found)
new_firsts found (x ∷ list) = split (is_listed found x) (λ b. with_new (if b then found else found ++ x ∷ []) list ≡ found ++ (if not b then x ∷ filter (λ t. not (is_listed found t)) (filter (λ t. not (same_subobject x t)) (firsts list)) else filter (λ t. not (is_listed found t)) (filter (λ t. not (same_subobject x t)) (firsts list))))
    (λ e. new_firsts found list ∙ ap (λ ys. found ++ ys) (sym (filter_skip found x (firsts list) e)))
    (λ e. new_firsts (found ++ x ∷ []) list ∙ append_assoc found (x ∷ []) (filter (λ t. not (is_listed (found ++ x ∷ []) t)) (firsts list)) ∙ ap (λ ys. found ++ x ∷ ys) (filter_new found x (firsts list)))

filter_none : (list : List Subobject) → filter (λ t. not (is_listed [] t)) list ≡ list
filter_none [] = refl
filter_none (x ∷ list) = ap (λ ys. x ∷ ys) (filter_none list)

pub new_is_firsts : (list : List Subobject) → with_new [] list ≡ firsts list
new_is_firsts list = new_firsts [] list ∙ filter_none (firsts list)

-- what lies below a shared base lies below what reaches it
below_shared : (h : Classes) (c v : ClassId) (s : Subobject) → HasVirtualBase h c v → (t : Subobject) → IsBelow h v (shared_base v) t → IsBelow h c s t
below_shared h c v s has _ (down path t l is) = across v path t has l is
below_shared h c v s has _ (across w path t hw l is) = across w path t (virtual_through h c v w has hw) l is

single : (p q : List ClassId) (v c : ClassId) → class_of_path p ≡ Some c → v ∷ [] ≡ p ++ q → p ≡ v ∷ []
single [] q v c class e = absurd (cc)
single (x ∷ []) q v c class e = let same : v ≡ x = cc in ap (λ (y : ClassId). y ∷ []) (sym same)
single (x ∷ y ∷ p) q v c class e = absurd (let f : [] ≡ y ∷ (p ++ q) = cc in cc)

-- a shared base below a subobject brings all that it has
closed_below : (h : Classes) (c : ClassId) (s : Subobject) (v : ClassId) → class_of s ≡ Some c → (t : Subobject) → IsBelow h c s t → t ≡ shared_base v → (u : Subobject) → IsBelow h v (shared_base v) u → IsBelow h c s u
closed_below h c s v class _ (down path t l is) e u below =
    let parts : subobject (Shared v) (v ∷ []) ≡ subobject s.root (s.path ++ path) = sym e ∙ is in
    let root : Shared v ≡ s.root = ap (λ (x : Subobject). x.root) parts in
    let front : s.path ≡ v ∷ [] = single s.path path v c class (ap (λ (x : Subobject). x.path) parts) in
    let same : s ≡ shared_base v = ap (λ (r : Root). subobject r s.path) (sym root) ∙ ap (λ (p : List ClassId). subobject (Shared v) p) front in
    let class_v : Some v ≡ Some c = sym (ap class_of same) ∙ class in
    let id : v ≡ c = cc in
    subst (λ (x : ClassId). IsBelow h x s u) id (subst (λ (x : Subobject). IsBelow h v x u) (sym same) below)
closed_below h c s v class _ (across w path t has l is) e u below =
    let roots : Shared v ≡ Shared w = ap (λ (x : Subobject). x.root) (sym e ∙ is) in
    let id : w ≡ v = cc in
    below_shared h c v s (subst (λ (x : ClassId). HasVirtualBase h c x) id has) u below

pub closed_tree : (h : Classes) → IsHierarchy h → (n m : ℕ) (c : ClassId) (s : Subobject) (found : List Subobject) → c.0 < m → class_of s ≡ Some c → IsClosed h n found → IsClosed h n (with_new found (tree h m c s))
closed_tree h keeps n m c s found lt class closed = record {
  has = λ v t small there inner. contains_from_has (with_new found (tree h m c s)) t (⊎_elim
      (λ old. kept found (tree h m c s) t (has_from_contains found t (closed.has v t small (contains_from_has found (shared_base v) old) inner)))
      (λ new. added found (tree h m c s) t (tree_complete h keeps m c s t lt
      (closed_below h c s v class (shared_base v) (tree_sound h m c s (shared_base v) new) refl t (tree_sound h (v.0 + 1) v (shared_base v) t (has_from_contains (tree h (v.0 + 1) v (shared_base v)) t inner)))))
      (from_new found (tree h m c s) (shared_base v) (has_from_contains (with_new found (tree h m c s)) (shared_base v) there)));
}

pub closed_less : (h : Classes) (n m : ℕ) (found : List Subobject) → m ≤ n → IsClosed h n found → IsClosed h m found
closed_less h n m found le closed = record { has = λ v s small. closed.has v s (omega arith) }

pub closed_here : (h : Classes) (c : ClassId) (s : Subobject) (found : List Subobject) → class_of s ≡ Some c → IsClosed h (c.0 + 1) found → IsClosed h c.0 (found ++ s ∷ [])
closed_here h c s found class closed = record {
  has = λ v t small there inner. contains_from_has (found ++ s ∷ []) t (⊎_elim
      (λ old. has_left found (s ∷ []) t (has_from_contains found t (closed.has v t (omega arith) (contains_from_has found (shared_base v) old) inner)))
      (λ new. ⊎_elim
      (λ e. let class_v : Some v ≡ Some c = sym (ap class_of e) ∙ class in let id : v ≡ c = cc in let number : v.0 ≡ c.0 = ap (λ (x : ClassId). x.0) id in absurd (omega arith))
      (λ bad. absurd bad) new)
      (has_cases found (s ∷ []) (shared_base v) (has_from_contains (found ++ s ∷ []) (shared_base v) there)));
}

-- the class of a subobject in a shared base is the base's or before it
pub placed_below : (h : Classes) → IsHierarchy h → (top c w : ClassId) (s : Subobject) → IsSubobject h top s → class_of s ≡ Some c → s.root ≡ Shared w → c.0 ≤ w.0
placed_below h keeps top c w _ (whole path l) class root = absurd (let e : Whole ≡ Shared w = root in cc)
placed_below h keeps top c w _ (shared v path has l) class root =
    let e : Shared v ≡ Shared w = root in
    let id : v ≡ w = cc in
    let last : last_of v path ≡ c = cc in
    let r = last_below h keeps v path l in
    let a : (last_of v path).0 ≡ c.0 = ap (λ (x : ClassId). x.0) last in
    let b : v.0 ≡ w.0 = ap (λ (x : ClassId). x.0) id in
    omega arith

pub placed_down : (h : Classes) (c : ClassId) (s : Subobject) (base : Base ClassId) → IsPlaced h c s → Contains (bases_of h c) base → IsPlaced h base.class (base_subobject s base)
placed_down h c s base placed listed = record {
  top = placed.top;
  valid = split base.is_virtual (λ b. IsSubobject h placed.top (base_subobject s base))
      (λ e. subst (λ (x : Subobject). IsSubobject h placed.top x) (sym (base_across s base e)) (join_valid h placed.top c s (shared_base base.class) placed.valid placed.class (shared base.class [] (direct c base.class (edge h c base true listed e)) tt)))
      (λ e. subst (λ (x : Subobject). IsSubobject h placed.top x) (sym (base_down s base e)) (join_valid h placed.top c s (subobject Whole (c ∷ base.class ∷ [])) placed.valid placed.class (whole (base.class ∷ []) (edge h c base false listed e, tt))));
  class = base_class s c base placed.class;
}

-- what lies below one base within the root of s is no part of what another base leads to
record IsLow (h : Classes) (c : ClassId) (s : Subobject) (base : Base ClassId) (t : Subobject) : Type 0 where
  place : ((w : ClassId) × (t.root ≡ Shared w) × (w.0 < c.0)) ⊎ ((path : List ClassId) × (t ≡ subobject s.root (s.path ++ base.class ∷ path)))

low_down : (h : Classes) → IsHierarchy h → (c : ClassId) (s : Subobject) (base : Base ClassId) → Contains (bases_of h c) base → base.is_virtual ≡ false → (t : Subobject) → IsBelow h base.class (subobject s.root (s.path ++ base.class ∷ [])) t → IsLow h c s base t
low_down h keeps c s base listed e _ (down path t l is) = record { place = inr (path, is ∙ ap (λ p. subobject s.root p) (append_assoc s.path (base.class ∷ []) path)) }
low_down h keeps c s base listed e _ (across v path t has l is) =
    let a = keeps.bases c base listed in let b = virtual_below h keeps base.class v has in record { place = inl (v, ap (λ (x : Subobject). x.root) is, omega arith) }

low_across : (h : Classes) → IsHierarchy h → (c : ClassId) (s : Subobject) (base : Base ClassId) → Contains (bases_of h c) base → (t : Subobject) → IsBelow h base.class (shared_base base.class) t → IsLow h c s base t
low_across h keeps c s base listed _ (down path t l is) = let a = keeps.bases c base listed in record { place = inl (base.class, ap (λ (x : Subobject). x.root) is, a) }
low_across h keeps c s base listed _ (across v path t has l is) =
    let a = keeps.bases c base listed in let b = virtual_below h keeps base.class v has in record { place = inl (v, ap (λ (x : Subobject). x.root) is, omega arith) }

low : (h : Classes) → IsHierarchy h → (c : ClassId) (s : Subobject) (base : Base ClassId) → Contains (bases_of h c) base → (t : Subobject) → IsBelow h base.class (base_subobject s base) t → IsLow h c s base t
low h keeps c s base listed t below = split base.is_virtual (λ b. IsLow h c s base t)
    (λ e. low_across h keeps c s base listed t (subst (λ (x : Subobject). IsBelow h base.class x t) (base_across s base e) below))
    (λ e. low_down h keeps c s base listed e t (subst (λ (x : Subobject). IsBelow h base.class x t) (base_down s base e) below))

-- what a base gives in the tree of its class
abbrev pub below : Classes → ClassId → Subobject → Base ClassId → List Subobject
below h c s base = tree h c.0 base.class (base_subobject s base)

-- the subobject of the next base was not met
pub fresh_next : (h : Classes) → IsHierarchy h → (c : ClassId) (s : Subobject) (base : Base ClassId) (before : List (Base ClassId)) (old : List Subobject) → IsPlaced h c s → IsFresh old s →
    ((x : Base ClassId) → Has before x → Contains (bases_of h c) x × (x.class ≡ base.class → ⊥)) →
    IsFresh (with_new (old ++ s ∷ []) (flat_map (below h c s) before)) (subobject s.root (s.path ++ base.class ∷ []))
fresh_next h keeps c s base before old placed fresh others = record { none = λ path there. none path (has_from_contains _ _ there) }
  where
    below_one : (path : List ClassId) (x : Base ClassId) → Contains (bases_of h c) x → (x.class ≡ base.class → ⊥) → IsLow h c s x (subobject s.root ((s.path ++ base.class ∷ []) ++ path)) → ⊥
    below_one path x listed differ l = ⊎_elim
        (λ a. let b = placed_below h keeps placed.top c a.0 s placed.valid placed.class a.1 in let lt = a.2 in absurd (omega arith))
        (λ a.
        let e : (s.path ++ base.class ∷ []) ++ path ≡ s.path ++ x.class ∷ a.0 = ap (λ (y : Subobject). y.path) a.1 in
        let f = append_cancel_left s.path (base.class ∷ path) (x.class ∷ a.0) (sym (append_assoc s.path (base.class ∷ []) path) ∙ e) in
        differ (let same : x.class ≡ base.class = cc in same))
        l.place

    none : (path : List ClassId) → Has (with_new (old ++ s ∷ []) (flat_map (below h c s) before)) (subobject s.root ((s.path ++ base.class ∷ []) ++ path)) → ⊥
    none path there = ⊎_elim
        (λ a. ⊎_elim
        (λ b. fresh.none (base.class ∷ path) (contains_from_has old _ (subst (λ (p : List ClassId). Has old (subobject s.root p)) (append_assoc s.path (base.class ∷ []) path) b)))
        (λ b. ⊎_elim (λ e. not_longer s.path path base.class (ap (λ (x : Subobject). x.path) e ∙ append_assoc s.path (base.class ∷ []) path)) (λ bad. bad) b)
        (has_cases old (s ∷ []) (subobject s.root ((s.path ++ base.class ∷ []) ++ path)) a))
        (λ a.
        let m = from_flat_map (below h c s) before (subobject s.root ((s.path ++ base.class ∷ []) ++ path)) a in
        let o = others m.0 m.1 in
        below_one path m.0 o.0 o.1 (low h keeps c s m.0 o.0 (subobject s.root ((s.path ++ base.class ∷ []) ++ path)) (tree_sound h c.0 m.0.class (base_subobject s m.0) (subobject s.root ((s.path ++ base.class ∷ []) ++ path)) m.2)))
        (from_new (old ++ s ∷ []) (flat_map (below h c s) before) (subobject s.root ((s.path ++ base.class ∷ []) ++ path)) there)

taken_place : {X : Type 0} (xs : List X) (i : ℕ) (x : X) → Has (take i xs) x → (j : ℕ) × (j < i) × (slice_get xs j ≡ Some x)
taken_place [] zero x h = absurd h
taken_place [] (suc i) x h = absurd h
taken_place (y ∷ xs) zero x h = absurd h
taken_place (y ∷ xs) (suc i) x h = ⊎_elim
    (λ e. (zero, omega arith, ap (λ z. Some z) e))
    (λ k. let r = taken_place xs i x k in let lt = r.1 in (suc r.0, omega arith, r.2)) h

-- the bases before the next one are of other classes
pub others_before : (h : Classes) → IsHierarchy h → (c : ClassId) (bases : List (Base ClassId)) (i : ℕ) (d : Base ClassId) → bases ≡ bases_of h c → i < length bases →
    (x : Base ClassId) → Has (take i bases) x → Contains (bases_of h c) x × (x.class ≡ (get_or bases i d).class → ⊥)
others_before h keeps c bases i d is lt x has =
    let p = taken_place bases i x has in
    let less = p.1 in
    let at_x : slice_get (bases_of h c) p.0 ≡ Some x = ap (λ (bs : List (Base ClassId)). slice_get bs p.0) (sym is) ∙ p.2 in
    let at_d : slice_get (bases_of h c) i ≡ Some (get_or bases i d) = ap (λ (bs : List (Base ClassId)). slice_get bs i) (sym is) ∙ slice_get-get_or bases i d lt in
    (contains_from_has (bases_of h c) x (has_at (bases_of h c) p.0 x at_x), λ same. let e = keeps.once c p.0 i x (get_or bases i d) at_x at_d same in absurd (omega arith))

longer_shared : (p q : List ClassId) (v b c : ClassId) → class_of_path p ≡ Some c → v ∷ q ≡ p ++ b ∷ [] → (r : List ClassId) × (p ≡ v ∷ r)
longer_shared [] q v b c class e = absurd (cc)
longer_shared (x ∷ p) q v b c class e = (p, let same : v ≡ x = cc in ap (λ (y : ClassId). y ∷ p) (sym same))

pub marks_down : (marks : List Bool) (found : List Subobject) (s : Subobject) (c b : ClassId) → AreSharedMarks marks found → Has found s → class_of s ≡ Some c → AreSharedMarks marks (found ++ subobject s.root (s.path ++ b ∷ []) ∷ [])
marks_down marks found s c b are there class = record {
  marked = λ v e. contains_from_has _ (shared_base v) (has_left found _ (shared_base v) (has_from_contains found (shared_base v) (are.marked v e)));
  unmarked = λ v path has. ⊎_elim
      (λ old. are.unmarked v path (contains_from_has found _ old))
      (λ new. ⊎_elim
      (λ e.
      let r = longer_shared s.path path v b c class (sym (ap (λ (x : Subobject). x.path) e)) in
      let root : s.root ≡ Shared v = ap (λ (x : Subobject). x.root) e in
      let same : s ≡ subobject (Shared v) (v ∷ r.0) = ap (λ (x : Root). subobject x s.path) root ∙ ap (λ (p : List ClassId). subobject (Shared v) p) r.1 in
      are.unmarked v r.0 (contains_from_has found _ (subst (λ (x : Subobject). Has found x) same there)))
      (λ bad. absurd bad) new)
      (has_cases found (subobject s.root (s.path ++ b ∷ []) ∷ []) (subobject (Shared v) (v ∷ path)) (has_from_contains _ _ has));
}

set_mark : (marks : List Bool) (v w : ℕ) → v < length marks → get_or (set marks v true) w false ≡ true → (w ≡ v) ⊎ (get_or marks w false ≡ true)
set_mark marks v w lt e = split (nat_eq w v) (λ b. (w ≡ v) ⊎ (get_or marks w false ≡ true))
    (λ f. inl (eqb-true w v f))
    (λ f. inr (sym (get_or-set_other marks v w true false (λ same. let g : nat_eq w v ≡ true = eq-eqb w v same in let bad : true ≡ false = sym g ∙ f in cc)) ∙ e))

mark_set : (marks : List Bool) (v w : ℕ) → v < length marks → (w ≡ v) ⊎ (get_or marks w false ≡ true) → get_or (set marks v true) w false ≡ true
mark_set marks v w lt h = split (nat_eq w v) (λ b. get_or (set marks v true) w false ≡ true)
    (λ f. let same = eqb-true w v f in ap (λ (k : ℕ). get_or (set marks v true) k false) same ∙ get_or-set_same marks v true false lt)
    (λ f. ⊎_elim
    (λ same. let g : nat_eq w v ≡ true = eq-eqb w v same in let bad : true ≡ false = sym g ∙ f in absurd (cc))
    (λ e. get_or-set_other marks v w true false (λ same. let g : nat_eq w v ≡ true = eq-eqb w v same in let bad : true ≡ false = sym g ∙ f in cc) ∙ e) h)

same_class : (x y : ClassId) → x.0 ≡ y.0 → x ≡ y
same_class x y e = let make : ℕ → ClassId = λ n. record { 0 = n } in let f : make x.0 ≡ make y.0 = ap make e in f

pub marks_across : (marks : List Bool) (found : List Subobject) (v : ClassId) → AreSharedMarks marks found → v.0 < length marks → AreSharedMarks (set marks v.0 true) (found ++ shared_base v ∷ [])
marks_across marks found v are lt = record {
  marked = λ w e. contains_from_has _ (shared_base w) (⊎_elim
      (λ same. has_right found (shared_base v ∷ []) (shared_base w) (inl (ap shared_base (same_class v w (sym same)))))
      (λ old. has_left found (shared_base v ∷ []) (shared_base w) (has_from_contains found (shared_base w) (are.marked w old)))
      (set_mark marks v.0 w.0 lt e));
  unmarked = λ w path has. mark_set marks v.0 w.0 lt (⊎_elim
      (λ old. inr (are.unmarked w path (contains_from_has found _ old)))
      (λ new. ⊎_elim (λ e. inl (let roots : Shared v ≡ Shared w = ap (λ (x : Subobject). x.root) e in let id : v ≡ w = cc in ap (λ (x : ClassId). x.0) (sym id))) (λ bad. absurd bad) new)
      (has_cases found (shared_base v ∷ []) (subobject (Shared w) (w ∷ path)) (has_from_contains _ _ has)));
}

pub fresh_shared : (marks : List Bool) (found : List Subobject) (v : ClassId) → AreSharedMarks marks found → get_or marks v.0 false ≡ false → IsFresh found (shared_base v)
fresh_shared marks found v are e = record { none = λ path has. let f = are.unmarked v path has in let bad : true ≡ false = sym f ∙ e in cc }

pub skip_shared : (h : Classes) → IsHierarchy h → (c : ClassId) (s : Subobject) (base : Base ClassId) (marks : List Bool) (found : List Subobject) → Contains (bases_of h c) base → base.is_virtual ≡ true → AreSharedMarks marks found →
    get_or marks base.class.0 false ≡ true → IsClosed h c.0 found → with_new found (below h c s base) ≡ found
skip_shared h keeps c s base marks found listed way are marked closed =
    let less = keeps.bases c base listed in
    let is : below h c s base ≡ tree h (base.class.0 + 1) base.class (shared_base base.class) = ap (λ (x : Subobject). tree h c.0 base.class x) (base_across s base way) ∙ tree_steps h keeps c.0 (base.class.0 + 1) base.class (shared_base base.class) less (omega arith) in
    nothing_new found (below h c s base) (λ t has. has_from_contains found t (closed.has base.class t less (are.marked base.class marked)
    (contains_from_has _ t (subst (λ (xs : List Subobject). Has xs t) is has))))

-- what a base adds, when its walk was made
pub tree_added : (h : Classes) → IsHierarchy h → (c : ClassId) (s : Subobject) (base : Base ClassId) (found : List Subobject) → Contains (bases_of h c) base →
    with_new found (tree h (base.class.0 + 1) base.class (base_subobject s base)) ≡ with_new found (below h c s base)
tree_added h keeps c s base found listed =
    let less = keeps.bases c base listed in
    ap (λ (xs : List Subobject). with_new found xs) (tree_steps h keeps (base.class.0 + 1) c.0 base.class (base_subobject s base) (omega arith) less)

-- one more base of the class
pub walk_more : (h : Classes) (c : ClassId) (s : Subobject) (bases : List (Base ClassId)) (i : ℕ) (d : Base ClassId) (start found : List Subobject) → i < length bases →
    found ≡ with_new start (flat_map (below h c s) (take i bases)) → with_new found (below h c s (get_or bases i d)) ≡ with_new start (flat_map (below h c s) (take (i + 1) bases))
walk_more h c s bases i d start found lt is =
    ap (λ (xs : List Subobject). with_new xs (below h c s (get_or bases i d))) is
    ∙ sym (new_append start (flat_map (below h c s) (take i bases)) (below h c s (get_or bases i d)))
    ∙ ap (λ (xs : List Subobject). with_new start xs) (sym (one_more (below h c s) bases i d lt))

-- the walk over all bases is that over the tree
pub walk_whole : (h : Classes) (c : ClassId) (s : Subobject) (bases : List (Base ClassId)) (i : ℕ) (old found : List Subobject) → bases ≡ bases_of h c → length bases ≤ i → IsFresh old s →
    found ≡ with_new (old ++ s ∷ []) (flat_map (below h c s) (take i bases)) → found ≡ with_new old (tree h (c.0 + 1) c s)
walk_whole h c s bases i old found is le fresh found_is =
    let all : take i bases ≡ bases_of h c = take_all i bases le ∙ is in
    let opened : tree h (c.0 + 1) c s ≡ s ∷ flat_map (below h c s) (bases_of h c) = ap (λ n. tree h n c s) (add-one c.0) in
    let new : Has old s → ⊥ = λ has. fresh.none [] (contains_from_has old _ (subst (λ (x : Subobject). Has old x) (ap (λ (p : List ClassId). subobject s.root p) (sym (append-nil s.path))) has)) in
    found_is ∙ ap (λ (bs : List (Base ClassId)). with_new (old ++ s ∷ []) (flat_map (below h c s) bs)) all
    ∙ sym (new_push old s (flat_map (below h c s) (bases_of h c)) new)
    ∙ ap (λ (xs : List Subobject). with_new old xs) (sym opened)

-- the subobject itself is among what the walk from it found
pub has_start : (old xs found : List Subobject) (s : Subobject) → found ≡ with_new (old ++ s ∷ []) xs → Has found s
has_start old xs found s is = subst (λ (ys : List Subobject). Has ys s) (sym is) (kept (old ++ s ∷ []) xs s (has_right old (s ∷ []) s (inl refl)))

-- and stands where it was put
pub start_there : (xs found : List Subobject) (n : ℕ) (s : Subobject) → slice_get found n ≡ Some s → slice_get (with_new found xs) n ≡ Some s
start_there [] found n s e = e
start_there (x ∷ xs) found n s e = start_there xs (if is_listed found x then found else found ++ x ∷ []) n s (split (is_listed found x) (λ b. slice_get (if b then found else found ++ x ∷ []) n ≡ Some s) (λ same. e) (λ same. get_front found (x ∷ []) n s e))

pub start_at : (old xs found : List Subobject) (n : ℕ) (s : Subobject) → n ≡ length old → found ≡ with_new (old ++ s ∷ []) xs → slice_get found n ≡ Some s
start_at old xs found n s at is = ap (λ ys. slice_get ys n) is ∙ start_there xs (old ++ s ∷ []) n s (ap (λ k. slice_get (old ++ s ∷ []) k) at ∙ get_last old s)

-- what holds when the walk from s, of class c, has gone over its first bases
pub record IsWalked (h : Classes) (c : ClassId) (s : Subobject) (bases : List (Base ClassId)) (i : ℕ) (old : List Subobject) (held : List Bool) (list : List Subobject) : Type 0 where
  pub items : bases ≡ bases_of h c
  pub size : length held ≡ length h
  pub found : list ≡ with_new (old ++ s ∷ []) (flat_map (below h c s) (take i bases))
  pub marks : AreSharedMarks held list
  pub closed : IsClosed h c.0 list

pub next_walked : (h : Classes) → IsHierarchy h → (c : ClassId) (s : Subobject) (bases : List (Base ClassId)) (i : ℕ) (d : Base ClassId) (old : List Subobject) (marks new_marks : List Bool) (found new_found : List Subobject) (inner : Subobject) →
    IsPlaced h c s → i < length bases → IsWalked h c s bases i old marks found → inner ≡ base_subobject s (get_or bases i d) →
    new_found ≡ with_new found (tree h ((get_or bases i d).class.0 + 1) (get_or bases i d).class inner) → AreSharedMarks new_marks new_found → length new_marks ≡ length h → IsWalked h c s bases (i + 1) old new_marks new_found
next_walked h keeps c s bases i d old marks new_marks found new_found inner placed lt walked inner_is new_is new_are size =
    let base = get_or bases i d in
    let listed = base_listed h c bases i d walked.items lt in
    let less = keeps.bases c base listed in
    let is : new_found ≡ with_new found (below h c s base) = new_is ∙ ap (λ (x : Subobject). with_new found (tree h (base.class.0 + 1) base.class x)) inner_is ∙ tree_added h keeps c s base found listed in
    record {
      items = walked.items;
      size = size;
      found = is ∙ walk_more h c s bases i d (old ++ s ∷ []) found lt walked.found;
      marks = new_are;
      closed = subst (λ (xs : List Subobject). IsClosed h c.0 xs) (sym is) (closed_tree h keeps c.0 c.0 base.class (base_subobject s base) found less (base_class s c base placed.class) walked.closed);
    }

pub skip_walked : (h : Classes) → IsHierarchy h → (c : ClassId) (s : Subobject) (bases : List (Base ClassId)) (i : ℕ) (d : Base ClassId) (old : List Subobject) (marks : List Bool) (found : List Subobject) →
    i < length bases → IsWalked h c s bases i old marks found → (get_or bases i d).is_virtual ≡ true → get_or marks (get_or bases i d).class.0 false ≡ true → IsWalked h c s bases (i + 1) old marks found
skip_walked h keeps c s bases i d old marks found lt walked way marked =
    let base = get_or bases i d in
    let listed = base_listed h c bases i d walked.items lt in
    record {
      items = walked.items;
      size = walked.size;
      found = sym (skip_shared h keeps c s base marks found listed way walked.marks marked walked.closed) ∙ walk_more h c s bases i d (old ++ s ∷ []) found lt walked.found;
      marks = walked.marks;
      closed = walked.closed;
    }

-- where the walk begins
pub fresh_start : (s : Subobject) → IsFresh [] s
fresh_start s = record { none = λ path has. absurd (has_from_contains [] _ has) }

pub closed_start : (h : Classes) (n : ℕ) → IsClosed h n []
closed_start h n = record { has = λ v s lt has. absurd (has_from_contains [] _ has) }

all_false : (n v : ℕ) → get_or (replicate n false) v false ≡ false
all_false zero v = refl
all_false (suc n) zero = refl
all_false (suc n) (suc v) = all_false n v

pub marks_start : (n : ℕ) (c : ClassId) → AreSharedMarks (replicate n false) (whole_of c ∷ [])
marks_start n c = record {
  marked = λ v e. let bad : true ≡ false = sym e ∙ all_false n v.0 in absurd (cc);
  unmarked = λ v path has. ⊎_elim (λ e. let roots : Whole ≡ Shared v = ap (λ (x : Subobject). x.root) e in absurd (cc)) (λ bad. absurd bad) (has_from_contains (whole_of c ∷ []) _ has);
}

pub walked_whole : (h : Classes) (c : ClassId) (found : List Subobject) → found ≡ with_new [] (tree h (c.0 + 1) c (whole_of c)) → found ≡ preorder h c
walked_whole h c found is = is ∙ new_is_firsts (tree h (c.0 + 1) c (whole_of c))

pub whole_placed : (h : Classes) (c : ClassId) → IsPlaced h c (whole_of c)
whole_placed h c = record { top = c; valid = whole [] tt; class = refl }
