-- The words of a view, step by step.
use Rattle.std.proofs.Common.{◌≡◌, ℕ, ◌+◌, ◌<◌, ◌≤◌, true, false, List, [], ◌∷◌, length, get_or, take, refl, ap, subst, sym, ◌∙◌, arith}
use Rattle.std.specs.Prelude.{Some, None, Bool, not, ◌&&◌, IsTrue, ◌↔◌, if◌then◌else◌, Contains}
use Rattle.std.specs.List.{sum_by}
use Rattle.std.proofs.lemmas.List.{take_more, take_all}
use Rattle.std.proofs.lemmas.List.Sums.{sum_by_push}
use Rattle.cxx_hierarchy.specs.declared.records.ClassId.{ClassId}
use Rattle.cxx_hierarchy.specs.Classes.{Classes}
use Rattle.cxx_hierarchy.specs.Hierarchies.{IsHierarchy}
use Rattle.cxx_hierarchy.specs.VirtualBases.{HasVirtualBase}
use Rattle.cxx_subobject.specs.declared.Subobject.{Subobject}
use Rattle.cxx_subobject.specs.Subobjects.{IsSubobject, whole, shared, shared_base, class_of}
use Rattle.cxx_subobject.specs.Inside.{IsInside}
use Rattle.cxx_subobject.specs.Preorder.{preorder}
use Rattle.cxx_subobject.proofs.PathLemmas.{class_low, virtual_below, part_virtual}
use Rattle.cxx_subobject.specs.VirtualBases.{virtual_bases}
use Rattle.cxx_subobject.proofs.VirtualBaseLemmas.{listed_virtual}
use Rattle.abi_sound.specs.declared.class_layout.ClassLayout.{ClassLayout}
use Rattle.abi_sound.specs.Places.{Places, places_of}
use Rattle.abi_sound.specs.Sound.{IsSoundLayout, is_primary_of}
use Rattle.abi_slots.specs.Views.{View, IsView, is_dynamic, is_first, is_head}
use Rattle.abi_slots.specs.Groups.{is_shared_base}
use Rattle.abi_slots.specs.Slots.{IsVirtualBase}
use Rattle.abi_slots.proofs.Lists.{found_passes}
use Rattle.abi_slots.proofs.Bases.{item_preorder}
use Rattle.abi_slots.proofs.Chains.{same_some}
use Rattle.abi_slots.proofs.Complete.{same_bool}
use Rattle.abi_slots.proofs.Heads.{dynamic_test, test_dynamic}
use Rattle.foundation.proofs.Places.{any_default}
use Rattle.abi_primary.specs.Kinds.{IsDynamic}
use Rattle.abi_slots.proofs.Settings.{setting_of}
use Rattle.abi_tables.specs.Counts.{words_of_class, group_words}
use Rattle.abi_tables.specs.invariants.Weights.{cut, head_words, sides_of, top_words, IsHeldIn, view_at}
use Rattle.abi_tables.proofs.HeadSums.{group_sum, first_shared}
use Rattle.abi_tables.proofs.NumberLemmas.{cut_sum}

-- what a virtual base of the view adds
abbrev pub top_and_sides : Classes → Places → View → ClassId → ℕ
top_and_sides h l x v = top_words h l x v + sides_of h l (head_words h l) v

pub view_start : (h : Classes) (l : Places) (x : View) (list : List ClassId) (words first side sum : ℕ) → first ≡ words → side ≡ cut (sides_of h l (head_words h l) x.class) → sum ≡ cut (first + side) → sum ≡ cut ((words + sides_of h l (head_words h l) x.class) + sum_by (top_and_sides h l x) (take 0 list))
view_start h l x list words first side sum a b c =
    let none : sum_by (top_and_sides h l x) (take 0 list) ≡ 0 = refl in
    omega arith

-- one virtual base more
pub top_more : (h : Classes) (l : Places) (x : View) (list : List ClassId) (i : ℕ) (d : ClassId) (first sum top side both new : ℕ) → i < length list →
    sum ≡ cut (first + sum_by (top_and_sides h l x) (take i list)) → top ≡ top_words h l x (get_or list i d) → side ≡ cut (sides_of h l (head_words h l) (get_or list i d)) → both ≡ cut (top + side) → new ≡ cut (sum + both) →
    new ≡ cut (first + sum_by (top_and_sides h l x) (take (i + 1) list))
top_more h l x list i d first sum top side both new lt old top_is side_is both_is new_is =
    let f = top_and_sides h l x in
    let more : sum_by f (take (i + 1) list) ≡ sum_by f (take i list) + f (get_or list i d) = ap (sum_by f) (take_more list i d lt) ∙ sum_by_push f (take i list) (get_or list i d) in
    let value : both ≡ cut (f (get_or list i d)) = omega arith in
    let next : cut (sum + both) ≡ cut ((first + sum_by f (take i list)) + f (get_or list i d)) = cut_sum (first + sum_by f (take i list)) (f (get_or list i d)) sum both old value in
    new_is ∙ next ∙ ap cut (let r : (first + sum_by f (take i list)) + f (get_or list i d) ≡ first + sum_by f (take (i + 1) list) = omega arith in r)

-- all virtual bases
pub view_all : (h : Classes) (rows : List ClassLayout) → IsHierarchy h → IsSoundLayout h rows → (c : ClassId) (s : Subobject) (d : ClassId) → IsView h (view_at c s d) → (list : List ClassId) (i sum : ℕ) → list ≡ virtual_bases h d → length list ≤ i →
    sum ≡ cut ((words_of_class h (places_of h rows) (is_shared_base s) (Some d) + sides_of h (places_of h rows) (head_words h (places_of h rows)) d) + sum_by (top_and_sides h (places_of h rows) (view_at c s d)) (take i list)) →
    sum ≡ cut (group_words h (places_of h rows) (view_at c s d))
view_all h rows keeps sound c s d view list i sum is done told =
    let l = places_of h rows in
    let x = view_at c s d in
    let own = words_of_class h l (is_shared_base s) (Some d) + sides_of h l (head_words h l) d in
    told
    ∙ ap (λ (vs : List ClassId). cut (own + sum_by (top_and_sides h l x) vs)) (take_all i list done ∙ is)
    ∙ ap cut (sym (group_sum h l x (setting_of h rows keeps sound x view)))

-- the test of a table of a virtual base
pub top_is : (h : Classes) (rows : List ClassLayout) → IsHierarchy h → IsSoundLayout h rows → (c : ClassId) (s : Subobject) (d v : ClassId) → IsView h (view_at c s d) → HasVirtualBase h d v → (held : Bool) → IsTrue held ↔ IsHeldIn h (places_of h rows) c s v →
    is_head h (places_of h rows) (view_at c s d) (shared_base v) ≡ (is_dynamic h v && not held)
top_is h rows keeps sound c s d v view has held test =
    ap (λ b. is_dynamic h v && b) (first_shared h (places_of h rows) (view_at c s d) (setting_of h rows keeps sound (view_at c s d) view) (sound.each c view.known) v has held test)

pub top_plain : (h : Classes) (l : Places) (x : View) (v : ClassId) → is_dynamic h v ≡ false → 0 ≡ top_words h l x v
top_plain h l x v e = ap (λ b. if b && is_first h l x (shared_base v) then words_of_class h l true (Some v) else 0) (sym e)

pub top_held : (h : Classes) (l : Places) (x : View) (v : ClassId) (held : Bool) → is_head h l x (shared_base v) ≡ (is_dynamic h v && not held) → held ≡ true → 0 ≡ top_words h l x v
top_held h l x v held e f = by_flag (is_dynamic h v) (e ∙ ap (λ b. is_dynamic h v && not b) f)
  where
    by_flag : (b : Bool) → is_head h l x (shared_base v) ≡ (b && false) → 0 ≡ top_words h l x v
    by_flag true g = ap (λ b. if b then words_of_class h l true (Some v) else 0) (sym g)
    by_flag false g = ap (λ b. if b then words_of_class h l true (Some v) else 0) (sym g)

pub top_stands : (h : Classes) (l : Places) (x : View) (v : ClassId) (held : Bool) → is_head h l x (shared_base v) ≡ (is_dynamic h v && not held) → is_dynamic h v ≡ true → held ≡ false → words_of_class h l true (Some v) ≡ top_words h l x v
top_stands h l x v held e d f = ap (λ b. if b then words_of_class h l true (Some v) else 0) (sym (e ∙ ap (λ b. is_dynamic h v && not b) f ∙ ap (λ b. b && true) d))

-- a class that is a virtual base of a complete object, itself
pub shared_is_base : (h : Classes) (c d : ClassId) (s : Subobject) → IsSubobject h c s → class_of s ≡ Some d → is_shared_base s ≡ true → IsVirtualBase h d
shared_is_base h c d _ (whole path l) class e = cc
shared_is_base h c d _ (shared v [] has l) class e = let same : v ≡ d = cc in record { of = c; has = subst (λ u. HasVirtualBase h c u) same has }
shared_is_base h c d _ (shared v (b ∷ path) has l) class e = cc

-- the classes of a view are known
pub class_known : (h : Classes) → IsHierarchy h → (c : ClassId) (s : Subobject) (d : ClassId) → IsView h (view_at c s d) → d.0 < length h
class_known h keeps c s d view = let low = class_low h keeps c d s view.valid view.of_class in let known = view.known in omega arith

pub base_known : (h : Classes) → IsHierarchy h → (c : ClassId) (s : Subobject) (d v : ClassId) → IsView h (view_at c s d) → HasVirtualBase h d v → v.0 < length h
base_known h keeps c s d v view has = let low = class_known h keeps c s d view in let less = virtual_below h keeps d v has in omega arith

pub base_here : (h : Classes) (c : ClassId) (s : Subobject) (d v : ClassId) → IsView h (view_at c s d) → HasVirtualBase h d v → HasVirtualBase h c v
base_here h c s d v view has = part_virtual h c d v s view.valid view.of_class has

pub listed_base : (h : Classes) (d : ClassId) (list : List ClassId) (i : ℕ) (e : ClassId) → list ≡ virtual_bases h d → i < length list → HasVirtualBase h d (get_or list i e)
listed_base h d list i e is lt = listed_virtual h d (get_or list i e) (subst (λ vs. Contains vs (get_or list i e)) is (i, lt, any_default list i (get_or list i e) e lt))

-- the holder of a virtual base is a subobject
pub holder_valid : (h : Classes) (rows : List ClassLayout) → IsHierarchy h → IsSoundLayout h rows → (c v : ClassId) (u : Subobject) → c.0 < length h → HasVirtualBase h c v → (places_of h rows).holder c v ≡ Some u → IsSubobject h c u
holder_valid h rows keeps sound c v u known has is =
    item_preorder h keeps c u (found_passes (λ (s : Subobject). is_primary_of (places_of h rows) v (class_of s)) (preorder h c) u (sym ((sound.each c known).holder v has) ∙ is)).0

pub held_some : (h : Classes) (l : Places) (c : ClassId) (s : Subobject) (v : ClassId) (u : Subobject) (b : Bool) → l.holder c v ≡ Some u → IsTrue b ↔ IsInside h s u → IsTrue b ↔ IsHeldIn h l c s v
held_some h l c s v u b is test = (
  λ t. record { holder = u; is = is; inside = test.0 t },
  λ k. test.1 (subst (λ r. IsInside h s r) (same_some k.holder u (sym k.is ∙ is)) k.inside),
)

pub held_none : (h : Classes) (l : Places) (c : ClassId) (s : Subobject) (v : ClassId) → l.holder c v ≡ None → IsTrue false ↔ IsHeldIn h l c s v
held_none h l c s v is = (λ t. absurd (let bad : false ≡ true = t in cc), λ k. let bad : None ≡ Some k.holder = sym is ∙ k.is in absurd (cc))

-- the test of a dynamic class
pub dynamic_is : (h : Classes) → IsHierarchy h → (c : ClassId) (b : Bool) → IsTrue b ↔ IsDynamic h c → b ≡ is_dynamic h c
dynamic_is h keeps c b test = same_bool b (is_dynamic h c) (λ e. dynamic_test h keeps c (test.0 e)) (λ e. test.1 (test_dynamic h keeps c e))
