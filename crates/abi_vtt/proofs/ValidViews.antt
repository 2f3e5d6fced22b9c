-- The views of a VTT are subobjects of its class.
use Rattle.std.proofs.Common.{◌≡◌, ℕ, zero, suc, ◌+◌, ◌<◌, ⊎_elim, Bool, true, false, Some, List, [], All, length, get_or, refl, ap, subst, sym, ◌∙◌, arith}
use Rattle.std.specs.Prelude.{not, slice_get}
use Rattle.std.specs.List.{filter}
use Rattle.std.proofs.lemmas.Bool.{and_parts}
use Rattle.std.proofs.lemmas.Option.{slice_get-get_or}
use Rattle.cxx_hierarchy.specs.declared.records.ClassId.{ClassId}
use Rattle.cxx_hierarchy.specs.declared.records.Base.{Base}
use Rattle.cxx_hierarchy.specs.Classes.{Classes, bases_of}
use Rattle.cxx_hierarchy.specs.Hierarchies.{IsHierarchy}
use Rattle.cxx_hierarchy.specs.VirtualBases.{IsDirectBase, HasVirtualBase}
use Rattle.cxx_subobject.specs.declared.Subobject.{Subobject}
use Rattle.cxx_subobject.specs.Subobjects.{IsSubobject, whole, shared, shared_base, whole_of, class_of}
use Rattle.cxx_subobject.specs.Preorder.{preorder}
use Rattle.cxx_subobject.specs.VirtualBases.{shared_class, virtual_bases}
use Rattle.cxx_subobject.proofs.PathLemmas.{virtual_below}
use Rattle.cxx_subobject.proofs.TestLemmas.{class_below}
use Rattle.abi_slots.proofs.Lists.{Item, item_none, item_split, item_cases, from_flat, from_filter}
use Rattle.abi_slots.proofs.Bases.{contains_item, chosen, item_virtual}
use Rattle.abi_slots.proofs.Chains.{same_some, down_valid}
use Rattle.abi_primary.specs.Kinds.{IsDynamic}
use Rattle.abi_primary.proofs.KindLemmas.{base_dynamic}
use Rattle.abi_vtt.proofs.MarkLemmas.{some_has}
use Rattle.abi_vtt.proofs.ViewLemmas.{no_base, nth}
use Rattle.abi_vtt.specs.Vtts.{has_vtt, is_built_base, bases_with_tables, extended_by, sub_views, shared_views, views, HasDynamicClass}

-- a test that is not so
pub not_so : (b : Bool) → not b ≡ true → b ≡ false
not_so true e = cc
not_so false e = refl

-- the edge to a base that is not virtual and has virtual bases
pub built_edge : (h : Classes) (c : ClassId) (base : Base ClassId) → Item (bases_of h c) base → is_built_base h base ≡ true → IsDirectBase h c false base.class
built_edge h c base i e = record { base = base; listed = contains_item (bases_of h c) base i; class = refl; way = not_so base.is_virtual (and_parts (not base.is_virtual) (has_vtt h base.class) e).0 }

pub built_virtual : (h : Classes) (base : Base ClassId) → is_built_base h base ≡ true → has_vtt h base.class ≡ true
built_virtual h base test = (and_parts (not base.is_virtual) (has_vtt h base.class) test).1

pub below_valid : (h : Classes) (c d : ClassId) (x : Subobject) (b : ClassId) → IsSubobject h c x → class_of x ≡ Some d → IsDirectBase h d false b → IsSubobject h c (extended_by x b)
below_valid h c d x b valid e edge = down_valid h c d b x valid e edge

sub_valid : (h : Classes) (c : ClassId) (n : ℕ) (x : Subobject) (d : ClassId) → IsSubobject h c x → class_of x ≡ Some d → (s : Subobject) → Item (sub_views h n x d) s → IsSubobject h c s
sub_valid h c zero x d valid e s i = absurd (item_none s i)
sub_valid h c (suc n) x d valid e s i = ⊎_elim
    (λ same. subst (λ a. IsSubobject h c a) same valid)
    (λ rest.
    let r = from_flat (λ (base : Base ClassId). sub_views h n (extended_by x base.class) base.class) (bases_with_tables h d) s rest in
    let base = r.0 in
    let b = from_filter (is_built_base h) (bases_of h d) base r.1 in
    sub_valid h c n (extended_by x base.class) base.class (below_valid h c d x base.class valid e (built_edge h d base b.0 b.1)) (class_below x.path d base.class e) s r.2)
    (item_split x _ s i)

views_valid : (h : Classes) → IsHierarchy h → (c : ClassId) (s : Subobject) → Item (views h c) s → IsSubobject h c s
views_valid h keeps c s i = ⊎_elim
    (λ first. sub_valid h c (c.0 + 1) (whole_of c) c (whole [] tt) refl s first)
    (λ rest.
    let r = from_flat (shared_views h) (filter (has_vtt h) (virtual_bases h c)) s rest in
    let v = r.0 in
    let has = item_virtual h keeps c v (from_filter (has_vtt h) (virtual_bases h c) v r.1).0 in
    sub_valid h c (v.0 + 1) (shared_base v) v (shared v [] has tt) refl s r.2)
    (item_cases (sub_views h (c.0 + 1) (whole_of c) c) _ s i)

pub all_valid : (h : Classes) → IsHierarchy h → (c : ClassId) → All (IsSubobject h c) (views h c)
all_valid h keeps c = λ k d lt. views_valid h keeps c (get_or (views h c) k d) (record { index = k; there = slice_get-get_or (views h c) k d lt })

sub_dynamic : (h : Classes) → IsHierarchy h → (n : ℕ) (x : Subobject) (d : ClassId) → class_of x ≡ Some d → IsDynamic h d → (s : Subobject) → Item (sub_views h n x d) s → HasDynamicClass h s
sub_dynamic h keeps zero x d e dyn s i = absurd (item_none s i)
sub_dynamic h keeps (suc n) x d e dyn s i = ⊎_elim
    (λ same. λ b of. subst (λ a. IsDynamic h a) (same_some d b (sym e ∙ ap class_of same ∙ of)) dyn)
    (λ rest.
    let r = from_flat (λ (base : Base ClassId). sub_views h n (extended_by x base.class) base.class) (bases_with_tables h d) s rest in
    let base = r.0 in
    let b = from_filter (is_built_base h) (bases_of h d) base r.1 in
    let has = some_has h keeps base.class (built_virtual h base b.1) in
    sub_dynamic h keeps n (extended_by x base.class) base.class (class_below x.path d base.class e) (base_dynamic h base.class has.0 has.1) s r.2)
    (item_split x _ s i)

views_dynamic : (h : Classes) → IsHierarchy h → (c : ClassId) → IsDynamic h c → (s : Subobject) → Item (views h c) s → HasDynamicClass h s
views_dynamic h keeps c dyn s i = ⊎_elim
    (λ first. sub_dynamic h keeps (c.0 + 1) (whole_of c) c refl dyn s first)
    (λ rest.
    let r = from_flat (shared_views h) (filter (has_vtt h) (virtual_bases h c)) s rest in
    let v = r.0 in
    let has = some_has h keeps v (from_filter (has_vtt h) (virtual_bases h c) v r.1).1 in
    sub_dynamic h keeps (v.0 + 1) (shared_base v) v refl (base_dynamic h v has.0 has.1) s r.2)
    (item_cases (sub_views h (c.0 + 1) (whole_of c) c) _ s i)

pub all_dynamic : (h : Classes) → IsHierarchy h → (c : ClassId) → IsDynamic h c → All (HasDynamicClass h) (views h c)
all_dynamic h keeps c dyn = λ k d lt. views_dynamic h keeps c dyn (get_or (views h c) k d) (record { index = k; there = slice_get-get_or (views h c) k d lt })

-- a virtual base in the list of subobjects
pub shared_has : (h : Classes) → IsHierarchy h → (c : ClassId) (list : List Subobject) (i : ℕ) (s : Subobject) (v : ClassId) → list ≡ preorder h c → i < length list → s ≡ get_or list i s → shared_class s ≡ Some v → HasVirtualBase h c v
shared_has h keeps c list i s v is lt there e =
    let at : Item (preorder h c) s = record { index = i; there = ap (λ xs. slice_get xs i) (sym is) ∙ slice_get-get_or list i s lt ∙ ap (λ a. Some a) (sym there) } in
    item_virtual h keeps c v (chosen shared_class (preorder h c) s v at e)

pub shared_known : (h : Classes) → IsHierarchy h → (c : ClassId) (list : List Subobject) (i : ℕ) (s : Subobject) (v : ClassId) → c.0 < length h → list ≡ preorder h c → i < length list → s ≡ get_or list i s → shared_class s ≡ Some v → v.0 < length h
shared_known h keeps c list i s v known is lt there e =
    let has = shared_has h keeps c list i s v is lt there e in
    let less = virtual_below h keeps c v has in
    omega arith

pub nth_edge : (h : Classes) (c : ClassId) (bases : List (Base ClassId)) (i : ℕ) → bases ≡ bases_of h c → i < length bases → is_built_base h (nth bases i) ≡ true → IsDirectBase h c false (nth bases i).class
nth_edge h c bases i is lt test = built_edge h c (nth bases i) (record { index = i; there = ap (λ xs. slice_get xs i) (sym is) ∙ slice_get-get_or bases i no_base lt }) test
