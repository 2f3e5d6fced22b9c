-- The subobjects of a class are those outside its virtual bases, and those of each virtual base once.
use Rattle.std.proofs.Common.{◌≡◌, ℕ, zero, suc, ◌+◌, ◌*◌, ◌<◌, ◌≤◌, ◌⊎◌, inl, inr, ⊎_elim, Bool, false, List, [], ◌∷◌, ◌++◌, length, get_or, take, refl, ap, subst, sym, ◌∙◌, arith, add-one}
use Rattle.std.specs.Prelude.{Option, Some, None, min, IsTrue, ◌↔◌, Contains, slice_get, if◌then◌else◌}
use Rattle.std.specs.List.{sum_by, flat_map}
use Rattle.std.proofs.lemmas.Bool.{cases_lt}
use Rattle.std.proofs.lemmas.List.{take_more, get_or_past, get_or_push, get_or_append_left, get_or_default, length_push}
use Rattle.std.proofs.lemmas.List.Sums.{sum_by-cons, sum_by-append, sum_by_push}
use Rattle.std.proofs.Math.Nat.{mul-le-mul_right}
use Rattle.cxx_hierarchy.specs.declared.records.ClassId.{ClassId}
use Rattle.cxx_hierarchy.specs.declared.records.Base.{Base}
use Rattle.cxx_hierarchy.specs.declared.records.Member.{Member}
use Rattle.cxx_hierarchy.specs.declared.records.FieldType.{FieldType}
use Rattle.cxx_hierarchy.specs.declared.records.FieldType.TheVariants.{Value, Object}
use Rattle.cxx_hierarchy.specs.Classes.{Class, Classes, class_at, bases_in, members_in, bases_of, members_of}
use Rattle.cxx_hierarchy.specs.Hierarchies.{IsHierarchy}
use Rattle.cxx_hierarchy.specs.VirtualBases.{HasVirtualBase}
use Rattle.cxx_subobject.specs.declared.Subobject.{Subobject}
use Rattle.cxx_subobject.specs.declared.parts.Counts.{Counts}
use Rattle.cxx_subobject.specs.Subobjects.{IsSubobject, whole, shared, shared_base, whole_of, base_subobject, last_of, class_of}
use Rattle.cxx_subobject.specs.Preorder.{tree, preorder}
use Rattle.cxx_subobject.specs.Parts.{elements_of, parts_in, member_parts, parts_within, parts_of, IsWithinLimits}
use Rattle.cxx_subobject.specs.invariants.Counts.{own_bases, own_within, own_of, parts_weight, parts_of_members, IsCapped, ListsVirtualBases, IsSharedSum, IsSharedValue, AreCapped, KnowsObject, HasGoodCount, AreCounts}
use Rattle.foundation.proofs.Truth.{split}
use Rattle.foundation.proofs.Members.{Has, EachOnce, has_left, has_right, has_cases, once_append, contains_from_has, has_from_contains, once_by_place}
use Rattle.cxx_subobject.proofs.TreeLemmas.{preorder_has, has_preorder, firsts_once}
use Rattle.cxx_subobject.proofs.PathLemmas.{last_below, virtual_below}
use Rattle.cxx_subobject.proofs.TestLemmas.{base_class}
use Rattle.cxx_subobject.proofs.OwnTrees.{own_tree, own_below, by_roots, roots_have, have_roots, roots_once}
use Rattle.cxx_subobject.proofs.SumLemmas.{sum_same, sum_flat, sum_ones, same_sum}

-- the weight of a class, if there is one
abbrev pub weigh : (ClassId → ℕ) → Option ClassId → ℕ
weigh w None = 0
weigh w (Some c) = w c

own_sum : (h : Classes) (w : ClassId → ℕ) (n : ℕ) (c : ClassId) (s : Subobject) → class_of s ≡ Some c → sum_by (λ (t : Subobject). weigh w (class_of t)) (own_tree h n c s) ≡ own_within w h n c
own_sum h w zero c s class = refl
own_sum h w (suc n) c s class =
    let each : (base : Base ClassId) → Has (bases_of h c) base → sum_by (λ (t : Subobject). weigh w (class_of t)) (own_below h n s base) ≡ (if base.is_virtual then 0 else own_within w h n base.class) =
    λ base has. split base.is_virtual (λ b. sum_by (λ (t : Subobject). weigh w (class_of t)) (if b then [] else own_tree h n base.class (base_subobject s base)) ≡ (if b then 0 else own_within w h n base.class))
    (λ e. refl) (λ e. own_sum h w n base.class (base_subobject s base) (base_class s c base class)) in
    sum_by-cons (λ (t : Subobject). weigh w (class_of t)) s (flat_map (own_below h n s) (bases_of h c))
    ∙ ap (λ k. k + sum_by (λ (t : Subobject). weigh w (class_of t)) (flat_map (own_below h n s) (bases_of h c))) (ap (weigh w) class)
    ∙ ap (λ k. w c + k) (sum_flat (λ (t : Subobject). weigh w (class_of t)) (own_below h n s) (bases_of h c) ∙ sum_same _ _ (bases_of h c) each)

-- the weight of all subobjects of a class
pub preorder_sum : (h : Classes) → IsHierarchy h → (w : ClassId → ℕ) (c : ClassId) (vs : List ClassId) → ListsVirtualBases h c c.0 vs →
    sum_by (λ (t : Subobject). weigh w (class_of t)) (preorder h c) ≡ own_of w h c + sum_by (own_of w h) vs
preorder_sum h keeps w c vs lists =
    same_sum (λ (t : Subobject). weigh w (class_of t)) (preorder h c) (by_roots h c vs) (firsts_once (tree h (c.0 + 1) c (whole_of c))) (roots_once h keeps c vs lists)
    (λ t has. roots_have h keeps c vs lists t (has_preorder h c t has))
    (λ t has. preorder_has h c keeps t (have_roots h c vs lists t has))
    ∙ sum_by-append (λ (t : Subobject). weigh w (class_of t)) (own_tree h (c.0 + 1) c (whole_of c)) (flat_map (λ (v : ClassId). own_tree h (v.0 + 1) v (shared_base v)) vs)
    ∙ ap (λ n. n + sum_by (λ (t : Subobject). weigh w (class_of t)) (flat_map (λ (v : ClassId). own_tree h (v.0 + 1) v (shared_base v)) vs)) (own_sum h w (c.0 + 1) c (whole_of c) refl)
    ∙ ap (λ n. own_of w h c + n) (sum_flat (λ (t : Subobject). weigh w (class_of t)) (λ (v : ClassId). own_tree h (v.0 + 1) v (shared_base v)) vs
    ∙ sum_same _ _ vs (λ v has. own_sum h w (v.0 + 1) v (shared_base v) refl))

-- a subobject has a class, which is that of the whole or before it
class_not_after : (h : Classes) → IsHierarchy h → (c : ClassId) (s : Subobject) → IsSubobject h c s → (d : ClassId) × (class_of s ≡ Some d) × (d.0 ≤ c.0)
class_not_after h keeps c _ (whole path l) = (last_of c path, refl, last_below h keeps c path l)
class_not_after h keeps c _ (shared v path has l) = (last_of v path, refl, let a = virtual_below h keeps c v has in let b = last_below h keeps v path l in omega arith)

pub preorder_length : (h : Classes) → IsHierarchy h → (c : ClassId) (vs : List ClassId) → ListsVirtualBases h c c.0 vs → length (preorder h c) ≡ own_of (λ d. 1) h c + sum_by (own_of (λ d. 1) h) vs
preorder_length h keeps c vs lists =
    sym (sum_ones (preorder h c))
    ∙ sum_same (λ (t : Subobject). 1) (λ (t : Subobject). weigh (λ d. 1) (class_of t)) (preorder h c) (λ t has. let k = class_not_after h keeps c t (has_preorder h c t has) in sym (ap (weigh (λ d. 1)) k.1))
    ∙ preorder_sum h keeps (λ d. 1) c vs lists

-- the number of steps does not matter where there are enough
members_same : (h : Classes) → IsHierarchy h → (f g : ClassId → ℕ) (d : ClassId) → ((e : ClassId) → e.0 < d.0 → f e ≡ g e) → member_parts h f (Some d) ≡ member_parts h g (Some d)
members_same h keeps f g d same = sum_same _ _ (members_of h d) (λ m has. by_type m (contains_from_has (members_of h d) m has) m.ty refl)
  where
    by_type : (m : Member ClassId) → Contains (members_of h d) m → (ty : FieldType ClassId) → m.ty ≡ ty → elements_of m.count * parts_in f m.ty ≡ elements_of m.count * parts_in g m.ty
    by_type m listed (Value type) e = ap (λ (t : FieldType ClassId). elements_of m.count * parts_in f t) e ∙ sym (ap (λ (t : FieldType ClassId). elements_of m.count * parts_in g t) e)
    by_type m listed (Object d') e = ap (λ (t : FieldType ClassId). elements_of m.count * parts_in f t) e ∙ ap (λ n. elements_of m.count * n) (same d' (keeps.objects d d' m listed e)) ∙ sym (ap (λ (t : FieldType ClassId). elements_of m.count * parts_in g t) e)

parts_steps : (h : Classes) → IsHierarchy h → (n m : ℕ) (c : ClassId) → c.0 < n → c.0 < m → parts_within h n c ≡ parts_within h m c
parts_steps h keeps zero m c a b = absurd (omega arith)
parts_steps h keeps (suc n) zero c a b = absurd (omega arith)
parts_steps h keeps (suc n) (suc m) c a b = sum_same _ _ (preorder h c) (λ s has.
    let k = class_not_after h keeps c s (has_preorder h c s has) in
    let below = k.2 in
    ap (λ (o : Option ClassId). 1 + member_parts h (parts_within h n) o) k.1
    ∙ ap (λ x. 1 + x) (members_same h keeps (parts_within h n) (parts_within h m) k.0 (λ e lt. parts_steps h keeps n m e (omega arith) (omega arith)))
    ∙ sym (ap (λ (o : Option ClassId). 1 + member_parts h (parts_within h m) o) k.1))

pub parts_opened : (h : Classes) → IsHierarchy h → (c : ClassId) → parts_of h c ≡ sum_by (λ (s : Subobject). weigh (parts_weight h) (class_of s)) (preorder h c)
parts_opened h keeps c =
    ap (λ n. parts_within h n c) (add-one c.0)
    ∙ sum_same _ _ (preorder h c) (λ s has.
    let k = class_not_after h keeps c s (has_preorder h c s has) in
    let below = k.2 in
    ap (λ (o : Option ClassId). 1 + member_parts h (parts_within h c.0) o) k.1
    ∙ ap (λ x. 1 + x) (members_same h keeps (parts_within h c.0) (parts_of h) k.0 (λ e lt. parts_steps h keeps c.0 (e.0 + 1) e (omega arith) (omega arith)))
    ∙ sym (ap (weigh (parts_weight h)) k.1))

pub parts_sum : (h : Classes) → IsHierarchy h → (c : ClassId) (vs : List ClassId) → ListsVirtualBases h c c.0 vs → parts_of h c ≡ own_of (parts_weight h) h c + sum_by (own_of (parts_weight h) h) vs
parts_sum h keeps c vs lists = parts_opened h keeps c ∙ preorder_sum h keeps (parts_weight h) c vs lists

-- a class by its bases
own_steps : (h : Classes) → IsHierarchy h → (w : ClassId → ℕ) (n m : ℕ) (c : ClassId) → c.0 < n → c.0 < m → own_within w h n c ≡ own_within w h m c
own_steps h keeps w zero m c a b = absurd (omega arith)
own_steps h keeps w (suc n) zero c a b = absurd (omega arith)
own_steps h keeps w (suc n) (suc m) c a b = ap (λ x. w c + x) (sum_same _ _ (bases_of h c) (λ base has.
    let less = keeps.bases c base (contains_from_has (bases_of h c) base has) in
    split base.is_virtual (λ t. (if t then 0 else own_within w h n base.class) ≡ (if t then 0 else own_within w h m base.class)) (λ e. refl) (λ e. own_steps h keeps w n m base.class (omega arith) (omega arith))))

pub own_opened : (h : Classes) → IsHierarchy h → (w : ClassId → ℕ) (c : ClassId) → own_of w h c ≡ w c + own_bases (own_of w h) (bases_of h c)
own_opened h keeps w c =
    ap (λ n. own_within w h n c) (add-one c.0)
    ∙ ap (λ x. w c + x) (sum_same _ _ (bases_of h c) (λ base has.
    let less = keeps.bases c base (contains_from_has (bases_of h c) base has) in
    split base.is_virtual (λ t. (if t then 0 else own_within w h c.0 base.class) ≡ (if t then 0 else own_of w h base.class)) (λ e. refl) (λ e. own_steps h keeps w c.0 (base.class.0 + 1) base.class (omega arith) (omega arith))))

-- one more base
pub own_more : (f : ClassId → ℕ) (bases : List (Base ClassId)) (i : ℕ) (d : Base ClassId) → i < length bases → own_bases f (take (i + 1) bases) ≡ own_bases f (take i bases) + (if (get_or bases i d).is_virtual then 0 else f (get_or bases i d).class)
own_more f bases i d lt = ap (own_bases f) (take_more bases i d lt) ∙ sum_by_push (λ (base : Base ClassId). if base.is_virtual then 0 else f base.class) (take i bases) (get_or bases i d)

pub min_sum : (limit a b x y : ℕ) → x ≡ min a (limit + 1) → y ≡ min b (limit + 1) → min (x + y) (limit + 1) ≡ min (a + b) (limit + 1)
min_sum limit a b x y p q = omega arith

-- no virtual base is of a number below 0, and one more number
pub virtual_none : (h : Classes) (c : ClassId) → ListsVirtualBases h c 0 []
virtual_none h c = record {
  listed = λ v has lt. absurd (omega arith);
  valid = λ v has. absurd (has_from_contains [] v has);
  before = λ v has. absurd (has_from_contains [] v has);
  once = λ i j v e f. absurd (cc);
}

same_number : (x y : ClassId) → x.0 ≡ y.0 → x ≡ y
same_number x y e = let make : ℕ → ClassId = λ n. record { 0 = n } in let f : make x.0 ≡ make y.0 = ap make e in f

below_cases : (v n : ℕ) → v < n + 1 → (v < n) ⊎ (v ≡ n)
below_cases v n lt = ⊎_elim (λ a. inl a) (λ a. inr (omega arith)) (cases_lt v n)

pub virtual_skip : (h : Classes) (c : ClassId) (n : ℕ) (list : List ClassId) → ListsVirtualBases h c n list → (HasVirtualBase h c (record { 0 = n }) → ⊥) → ListsVirtualBases h c (n + 1) list
virtual_skip h c n list lists none = record {
  listed = λ v has lt. ⊎_elim (λ a. lists.listed v has a) (λ e. absurd (none (subst (λ (x : ClassId). HasVirtualBase h c x) (same_number v (record { 0 = n }) e) has))) (below_cases v.0 n lt);
  valid = lists.valid;
  before = λ v has. let a = lists.before v has in omega arith;
  once = lists.once;
}

has_push : (list : List ClassId) (x v : ClassId) → Contains (list ++ x ∷ []) v → Contains list v ⊎ (x ≡ v)
has_push list x v has = ⊎_elim (λ a. inl (contains_from_has list v a)) (λ a. ⊎_elim (λ e. inr e) (λ bad. absurd bad) a) (has_cases list (x ∷ []) v (has_from_contains (list ++ x ∷ []) v has))

pub virtual_push : (h : Classes) (c : ClassId) (n : ℕ) (list : List ClassId) → ListsVirtualBases h c n list → HasVirtualBase h c (record { 0 = n }) → ListsVirtualBases h c (n + 1) (list ++ record { 0 = n } ∷ [])
virtual_push h c n list lists there =
    let x : ClassId = record { 0 = n } in
    record {
      listed = λ v has lt. ⊎_elim
          (λ a. contains_from_has (list ++ x ∷ []) v (has_left list (x ∷ []) v (has_from_contains list v (lists.listed v has a))))
          (λ e. contains_from_has (list ++ x ∷ []) v (has_right list (x ∷ []) v (inl (same_number x v (sym e)))))
          (below_cases v.0 n lt);
      valid = λ v has. ⊎_elim (λ a. lists.valid v a) (λ e. subst (λ (y : ClassId). HasVirtualBase h c y) e there) (has_push list x v has);
      before = λ v has. ⊎_elim (λ a. let b = lists.before v a in omega arith) (λ e. let number : n ≡ v.0 = ap (λ (y : ClassId). y.0) e in omega arith) (has_push list x v has);
      once = once_by_place (list ++ x ∷ []) (once_append list (x ∷ []) (once_list list lists.once) ((λ bad. bad), tt)
          (record { none = λ v a b. ⊎_elim (λ e. let before = lists.before v (contains_from_has list v a) in let number : n ≡ v.0 = ap (λ (y : ClassId). y.0) e in absurd (omega arith)) (λ bad. bad) b }));
    }
  where
    once_list : (xs : List ClassId) → ((i j : ℕ) (v : ClassId) → slice_get xs i ≡ Some v → slice_get xs j ≡ Some v → i ≡ j) → EachOnce xs
    once_list [] once = tt
    once_list (y ∷ xs) once = (
      λ has. let p = place xs y has in let e = once zero (suc p.0) y refl p.1 in absurd (omega arith),
      once_list xs (λ i j v a b. let r = once (suc i) (suc j) v a b in omega arith),
    )
      where
        place : (zs : List ClassId) (z : ClassId) → Has zs z → (i : ℕ) × (slice_get zs i ≡ Some z)
        place [] z has = absurd has
        place (w ∷ zs) z has = ⊎_elim (λ e. (zero, ap (λ u. Some u) e)) (λ k. let r = place zs z k in (suc r.0, r.1)) has

pub shared_none : (h : Classes) (c : ClassId) (f : ClassId → ℕ) (n limit start : ℕ) → start ≡ min n (limit + 1) → IsSharedSum h c 0 f n limit start
shared_none h c f n limit start e = record { list = []; lists = virtual_none h c; is = let none : sum_by f [] ≡ 0 = refl in omega arith }

pub shared_skip : (h : Classes) (c : ClassId) (k : ℕ) (f : ClassId → ℕ) (n limit sum : ℕ) → IsSharedSum h c k f n limit sum → (HasVirtualBase h c (record { 0 = k }) → ⊥) → IsSharedSum h c (k + 1) f n limit sum
shared_skip h c k f n limit sum s none = record { list = s.list; lists = virtual_skip h c k s.list s.lists none; is = s.is }

pub shared_push : (h : Classes) (c : ClassId) (k : ℕ) (f : ClassId → ℕ) (n limit sum value new : ℕ) → IsSharedSum h c k f n limit sum → HasVirtualBase h c (record { 0 = k }) → value ≡ min (f (record { 0 = k })) (limit + 1) → new ≡ min (sum + value) (limit + 1) → IsSharedSum h c (k + 1) f n limit new
shared_push h c k f n limit sum value new s there is new_is =
    let x : ClassId = record { 0 = k } in
    record {
      list = s.list ++ x ∷ [];
      lists = virtual_push h c k s.list s.lists there;
      is = let more : sum_by f (s.list ++ x ∷ []) ≡ sum_by f s.list + f x = sum_by_push f s.list x in
          let step : min (sum + value) (limit + 1) ≡ min ((n + sum_by f s.list) + f x) (limit + 1) = min_sum limit (n + sum_by f s.list) (f x) sum value s.is is in
          omega arith;
    }

pub capped_value : (limit : ℕ) (f : ClassId → ℕ) (values : List ℕ) (base : Base ClassId) → IsCapped limit f values → base.class.0 < length values → (if base.is_virtual then 0 else get_or values base.class.0 0) ≡ min (if base.is_virtual then 0 else f base.class) (limit + 1)
capped_value limit f values base capped lt = split base.is_virtual (λ b. (if b then 0 else get_or values base.class.0 0) ≡ min (if b then 0 else f base.class) (limit + 1)) (λ e. omega arith) (λ e. capped.each base.class lt)

-- the sum with one more base
pub base_more : (limit : ℕ) (f : ClassId → ℕ) (values : List ℕ) (bases : List (Base ClassId)) (i : ℕ) (d : Base ClassId) (n sum value new : ℕ) → IsCapped limit f values → i < length bases → (get_or bases i d).class.0 < length values →
    sum ≡ min (n + own_bases f (take i bases)) (limit + 1) → value ≡ (if (get_or bases i d).is_virtual then 0 else get_or values (get_or bases i d).class.0 0) → new ≡ min (sum + value) (limit + 1) → new ≡ min (n + own_bases f (take (i + 1) bases)) (limit + 1)
base_more limit f values bases i d n sum value new capped lt known sum_is value_is new_is =
    let base = get_or bases i d in
    let one = value_is ∙ capped_value limit f values base capped known in
    let step = min_sum limit (n + own_bases f (take i bases)) (if base.is_virtual then 0 else f base.class) sum value sum_is one in
    let more = own_more f bases i d lt in
    new_is ∙ step ∙ ap (λ (x : ℕ). min x (limit + 1)) (let e : (n + own_bases f (take i bases)) + (if base.is_virtual then 0 else f base.class) ≡ n + own_bases f (take (i + 1) bases) = omega arith in e)

-- the sum with one more virtual base, or with none more
pub shared_more : (h : Classes) (c : ClassId) (k : ℕ) (f : ClassId → ℕ) (values : List ℕ) (n limit sum value new : ℕ) → IsCapped limit f values → k < length values → sum ≤ limit + 1 →
    IsSharedSum h c k f n limit sum → IsSharedValue h c (record { 0 = k }) values value → new ≡ min (sum + value) (limit + 1) → IsSharedSum h c (k + 1) f n limit new
shared_more h c k f values n limit sum value new capped lt within s shared_value new_is = ⊎_elim
    (λ a. shared_push h c k f n limit sum value new s a.0 (a.1 ∙ capped.each (record { 0 = k }) lt) new_is)
    (λ a. subst (λ (x : ℕ). IsSharedSum h c (k + 1) f n limit x) (let zero_value = a.1 in let e : sum ≡ new = omega arith in e) (shared_skip h c k f n limit sum s a.0))
    shared_value

-- elements of parts that stand at most one past the limit
scaled : (e p limit : ℕ) → 1 ≤ e → min (e * min p limit) limit ≡ min (e * p) limit
scaled e p limit some = ⊎_elim
    (λ a. let least : min p limit ≡ p = omega arith in ap (λ (x : ℕ). min (e * x) limit) least)
    (λ a.
    let least : min p limit ≡ limit = omega arith in
    let one : limit ≤ e * limit = times_more e limit some in
    let two : p ≤ e * p = times_more e p some in
    ap (λ (x : ℕ). min (e * x) limit) least ∙ omega arith)
    (cases_lt p limit)
  where
    times_more : (k x : ℕ) → 1 ≤ k → x ≤ k * x
    times_more k x lt = let r : 1 * x ≤ k * x = mul-le-mul_right x lt in omega arith

pub times_bounded : (a b : ℕ) → a ≤ 4096 → b ≤ 65537 → a * b ≤ 268439552
times_bounded a b p q = let r : a * b ≤ 4096 * b = mul-le-mul_right b p in omega arith

-- the parts of the elements of a member
pub member_capped : (e p value : ℕ) → 1 ≤ e → value ≡ min p 65537 → min (e * value) 65537 ≡ min (e * p) 65537
member_capped e p value some is = ap (λ (x : ℕ). min (e * x) 65537) is ∙ scaled e p 65537 some

-- the sum with one more member
pub member_more : (f : ClassId → ℕ) (members : List (Member ClassId)) (i : ℕ) (m : Member ClassId) (sum value new : ℕ) → i < length members → m ≡ get_or members i m →
    sum ≡ min (1 + parts_of_members f (take i members)) 65537 → min value 65537 ≡ min (elements_of m.count * parts_in f m.ty) 65537 → new ≡ min (sum + value) 65537 →
    new ≡ min (1 + parts_of_members f (take (i + 1) members)) 65537
member_more f members i m sum value new lt is sum_is value_is new_is =
    let more : parts_of_members f (take (i + 1) members) ≡ parts_of_members f (take i members) + elements_of m.count * parts_in f m.ty =
    ap (parts_of_members f) (take_more members i m lt) ∙ sum_by_push (λ (x : Member ClassId). elements_of x.count * parts_in f x.ty) (take i members) (get_or members i m)
    ∙ ap (λ (x : Member ClassId). parts_of_members f (take i members) + elements_of x.count * parts_in f x.ty) (sym is) in
    min_steps sum (parts_of_members f (take i members)) value (elements_of m.count * parts_in f m.ty) (parts_of_members f (take (i + 1) members)) new sum_is value_is more new_is
  where
    min_steps : (sum a y z b new : ℕ) → sum ≡ min (1 + a) 65537 → min y 65537 ≡ min z 65537 → b ≡ a + z → new ≡ min (sum + y) 65537 → new ≡ min (1 + b) 65537
    min_steps sum a y z b new p r s t = omega arith

pub capped_within : (limit : ℕ) (f : ClassId → ℕ) (values : List ℕ) → IsCapped limit f values → AreCapped limit values
capped_within limit f values capped = record {
  each = λ i. ⊎_elim
      (λ a. let e : get_or values i 0 ≡ min (f (record { 0 = i })) (limit + 1) = capped.each (record { 0 = i }) a in omega arith)
      (λ a. let e : get_or values i 0 ≡ 0 = get_or_past values i 0 a in omega arith)
      (cases_lt i (length values));
}

capped_push : (limit : ℕ) (f : ClassId → ℕ) (values new : List ℕ) (c : ClassId) (value : ℕ) → IsCapped limit f values → length values ≡ c.0 → value ≡ min (f c) (limit + 1) → new ≡ values ++ value ∷ [] → IsCapped limit f new
capped_push limit f values new c value capped size is new_is = subst (IsCapped limit f) (sym new_is) (record {
  each = λ d lt.
      let more : length (values ++ value ∷ []) ≡ length values + 1 = length_push values value in
      ⊎_elim
      (λ a. get_or_append_left values (value ∷ []) 0 d.0 a ∙ capped.each d a)
      (λ a. let e : d.0 ≡ c.0 = omega arith in get_or_push values value 0 d.0 (omega arith) ∙ is ∙ ap (λ (x : ClassId). min (f x) (limit + 1)) (same_number c d (sym e)))
      (cases_lt d.0 (length values));
})

pub known_member : (h : Classes) → IsHierarchy h → (c : ClassId) (x : Class) → class_at h c ≡ Some x → (values : List ℕ) → length values ≡ c.0 → (k : ℕ) (d : Member ClassId) → k < length x.members → KnowsObject values (get_or x.members k d).ty
known_member h keeps c x at values size k d lt = by_type (get_or x.members k d).ty refl
  where
    listed : Contains (members_of h c) (get_or x.members k d)
    listed = subst (λ (ms : List (Member ClassId)). Contains ms (get_or x.members k d)) (sym (ap members_in at)) (k, lt, get_or_default x.members k (get_or x.members k d) d lt)

    by_type : (ty : FieldType ClassId) → (get_or x.members k d).ty ≡ ty → KnowsObject values ty
    by_type (Value type) e = tt
    by_type (Object b) e = let less = keeps.objects c b (get_or x.members k d) listed e in omega arith

pub good_count : (h : Classes) → IsHierarchy h → (c : ClassId) (x : Class) → class_at h c ≡ Some x → (k : ℕ) (d : Member ClassId) → k < length x.members → HasGoodCount (get_or x.members k d)
good_count h keeps c x at k d lt = by_count (get_or x.members k d).count refl
  where
    listed : Contains (members_of h c) (get_or x.members k d)
    listed = subst (λ (ms : List (Member ClassId)). Contains ms (get_or x.members k d)) (sym (ap members_in at)) (k, lt, get_or_default x.members k (get_or x.members k d) d lt)

    by_count : (count : Option ℕ) → (get_or x.members k d).count ≡ count → HasGoodCount (get_or x.members k d)
    by_count None e = record { some = subst (λ (o : Option ℕ). 1 ≤ elements_of o) (sym e) (omega arith); few = subst (λ (o : Option ℕ). elements_of o ≤ 4096) (sym e) (omega arith) }
    by_count (Some n) e =
        let both = keeps.counts c (get_or x.members k d) n listed e in
        record { some = subst (λ (o : Option ℕ). 1 ≤ elements_of o) (sym e) both.0; few = subst (λ (o : Option ℕ). elements_of o ≤ 4096) (sym e) both.1 }

-- one more class
pub counts_push : (h : Classes) → IsHierarchy h → (c : ClassId) (x : Class) → class_at h c ≡ Some x → (counts new : Counts) (own itself own_parts all parts : ℕ) (within : Bool) → AreCounts h c.0 counts →
    ((f : ClassId → ℕ) (n : ℕ) → IsCapped 1024 f counts.own.items → 1 ≡ min n 1025 → own ≡ min (n + own_bases f x.bases) 1025) →
    ((f : ClassId → ℕ) → IsCapped 65536 f counts.parts.items → itself ≡ min (1 + parts_of_members f x.members) 65537) →
    ((f : ClassId → ℕ) (n : ℕ) → IsCapped 65536 f counts.own_parts.items → itself ≡ min n 65537 → own_parts ≡ min (n + own_bases f x.bases) 65537) →
    ((f : ClassId → ℕ) (n : ℕ) → IsCapped 1024 f counts.own.items → own ≡ min n 1025 → IsSharedSum h c c.0 f n 1024 all) →
    ((f : ClassId → ℕ) (n : ℕ) → IsCapped 65536 f counts.own_parts.items → own_parts ≡ min n 65537 → IsSharedSum h c c.0 f n 65536 parts) →
    (IsTrue within ↔ ((all ≤ 1024) × (parts ≤ 65536))) →
    new.own.items ≡ counts.own.items ++ own ∷ [] → new.own_parts.items ≡ counts.own_parts.items ++ own_parts ∷ [] → new.parts.items ≡ counts.parts.items ++ parts ∷ [] → new.within.items ≡ counts.within.items ++ within ∷ [] →
    AreCounts h (c.0 + 1) new
counts_push h keeps c x at counts new own itself own_parts all parts within counted own_sum itself_sum own_parts_sum all_sum parts_sum' small own_new own_parts_new parts_new within_new =
    let bases : x.bases ≡ bases_of h c = sym (ap bases_in at) in
    let members : x.members ≡ members_of h c = sym (ap members_in at) in
    let own_value : own ≡ min (own_of (λ d. 1) h c) 1025 = own_sum (own_of (λ d. 1) h) 1 counted.own (let one : 1 ≡ min 1 1025 = omega arith in one)
    ∙ ap (λ (n : ℕ). min n 1025) (ap (λ (bs : List (Base ClassId)). 1 + own_bases (own_of (λ d. 1) h) bs) bases ∙ sym (own_opened h keeps (λ d. 1) c)) in
    let itself_value : itself ≡ min (parts_weight h c) 65537 = itself_sum (parts_of h) counted.parts ∙ ap (λ (ms : List (Member ClassId)). min (1 + parts_of_members (parts_of h) ms) 65537) members in
    let own_parts_value : own_parts ≡ min (own_of (parts_weight h) h c) 65537 = own_parts_sum (own_of (parts_weight h) h) (parts_weight h c) counted.own_parts itself_value
    ∙ ap (λ (n : ℕ). min n 65537) (ap (λ (bs : List (Base ClassId)). parts_weight h c + own_bases (own_of (parts_weight h) h) bs) bases ∙ sym (own_opened h keeps (parts_weight h) c)) in
    let all_shared = all_sum (own_of (λ d. 1) h) (own_of (λ d. 1) h c) counted.own own_value in
    let all_value : all ≡ min (length (preorder h c)) 1025 = all_shared.is ∙ ap (λ (n : ℕ). min n 1025) (sym (preorder_length h keeps c all_shared.list all_shared.lists)) in
    let parts_shared = parts_sum' (own_of (parts_weight h) h) (own_of (parts_weight h) h c) counted.own_parts own_parts_value in
    let parts_value : parts ≡ min (parts_of h c) 65537 = parts_shared.is ∙ ap (λ (n : ℕ). min n 65537) (sym (parts_sum h keeps c parts_shared.list parts_shared.lists)) in
    record {
      own_size = ap length own_new ∙ length_push counts.own.items own ∙ ap (λ n. n + 1) counted.own_size;
      own = capped_push 1024 (own_of (λ d. 1) h) counts.own.items new.own.items c own counted.own counted.own_size own_value own_new;
      own_parts_size = ap length own_parts_new ∙ length_push counts.own_parts.items own_parts ∙ ap (λ n. n + 1) counted.own_parts_size;
      own_parts = capped_push 65536 (own_of (parts_weight h) h) counts.own_parts.items new.own_parts.items c own_parts counted.own_parts counted.own_parts_size own_parts_value own_parts_new;
      parts_size = ap length parts_new ∙ length_push counts.parts.items parts ∙ ap (λ n. n + 1) counted.parts_size;
      parts = capped_push 65536 (parts_of h) counts.parts.items new.parts.items c parts counted.parts counted.parts_size parts_value parts_new;
      within_size = ap length within_new ∙ length_push counts.within.items within ∙ ap (λ n. n + 1) counted.within_size;
      within = λ d lt. subst (λ (bs : List Bool). IsTrue (get_or bs d.0 false) ↔ IsWithinLimits h d) (sym within_new) (⊎_elim
          (λ a. subst (λ (b : Bool). IsTrue b ↔ IsWithinLimits h d) (sym (get_or_append_left counts.within.items (within ∷ []) false d.0 (let size = counted.within_size in omega arith))) (counted.within d a))
          (λ a.
          let same : c ≡ d = same_number c d (sym a) in
          subst (λ (e : ClassId). IsTrue (get_or (counts.within.items ++ within ∷ []) e.0 false) ↔ IsWithinLimits h e) same
          (subst (λ (b : Bool). IsTrue b ↔ IsWithinLimits h c) (sym (get_or_push counts.within.items within false c.0 counted.within_size)) (
            λ t. let le = small.0 t in let le_all = le.0 in let le_parts = le.1 in record { subobjects = omega arith; parts = omega arith },
            λ w. let le_all = w.subobjects in let le_parts = w.parts in small.1 (omega arith, omega arith),
          )))
          (below_cases d.0 c.0 lt));
    }
