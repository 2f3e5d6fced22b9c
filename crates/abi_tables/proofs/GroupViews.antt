-- The views of groups and the items of VTTs are dynamic subobjects of their class.
use Rattle.std.proofs.Common.{◌≡◌, ℕ, zero, suc, ◌+◌, ◌<◌, ⊎_elim, true, Option, Some, None, [], ◌∷◌, length, refl, subst, sym, ◌∙◌}
use Rattle.std.specs.Prelude.{◌&&◌, ◌||◌, not, if◌then◌else◌}
use Rattle.std.specs.List.{filter, flat_map}
use Rattle.std.proofs.lemmas.Bool.{and_parts}
use Rattle.foundation.proofs.Truth.{split}
use Rattle.cxx_hierarchy.specs.declared.records.ClassId.{ClassId}
use Rattle.cxx_hierarchy.specs.declared.records.Base.{Base}
use Rattle.cxx_hierarchy.specs.Classes.{Classes, bases_of}
use Rattle.cxx_hierarchy.specs.Hierarchies.{IsHierarchy}
use Rattle.cxx_subobject.specs.declared.Subobject.{Subobject}
use Rattle.cxx_subobject.specs.Subobjects.{IsSubobject, whole, shared, shared_base, whole_of, class_of, is_shared_root}
use Rattle.cxx_subobject.specs.Preorder.{preorder}
use Rattle.cxx_subobject.specs.VirtualBases.{virtual_bases}
use Rattle.cxx_subobject.proofs.TestLemmas.{class_below}
use Rattle.abi_primary.specs.Kinds.{IsDynamic}
use Rattle.abi_primary.proofs.KindLemmas.{base_dynamic}
use Rattle.abi_sound.specs.Places.{Places}
use Rattle.abi_slots.specs.Views.{IsView, is_dynamic, is_dynamic_class}
use Rattle.abi_slots.proofs.Lists.{Item, item_none, item_split, item_cases, from_map, from_filter, from_flat}
use Rattle.abi_slots.proofs.Bases.{item_preorder, item_virtual}
use Rattle.abi_slots.proofs.Chains.{same_some, down_valid}
use Rattle.abi_slots.proofs.Heads.{test_dynamic}
use Rattle.abi_vtt.specs.Vtts.{VttEntry as VttItem, item, has_vtt, class_has_virtual, is_built_base, bases_with_tables, is_proper_at, ends_in_primary, needs_word, words_of_bases, extended_by, sub_items, shared_items, vtt_items, sub_views, shared_views, views}
use Rattle.abi_tables.specs.Counts.{group_views}
use Rattle.abi_tables.specs.Tables.{class_items}
use Rattle.abi_vtt.proofs.MarkLemmas.{some_has}
use Rattle.abi_vtt.proofs.ValidViews.{built_edge, built_virtual}

-- a subobject of class c whose class is dynamic
pub record IsDynamicPart (h : Classes) (c : ClassId) (s : Subobject) : Type 0 where
  pub class : ClassId
  pub valid : IsSubobject h c s
  pub of_class : class_of s ≡ Some class
  pub dynamic : IsDynamic h class

pub view_of_part : (h : Classes) (c : ClassId) (s : Subobject) → c.0 < length h → (part : IsDynamicPart h c s) → IsView h (record { complete = c; at_sub = s; class = part.class })
view_of_part h c s known part = record { known = known; valid = part.valid; of_class = part.of_class; dynamic = part.dynamic }

-- the class of a part is one
pub part_class : (h : Classes) (c : ClassId) (s : Subobject) (d : ClassId) → IsDynamicPart h c s → class_of s ≡ Some d → IsDynamic h d
part_class h c s d part e = subst (λ a. IsDynamic h a) (same_some part.class d (sym part.of_class ∙ e)) part.dynamic

-- an item of a VTT: a view, and a subobject of it
pub record IsItemOf (h : Classes) (c : ClassId) (i : VttItem) : Type 0 where
  pub view : IsDynamicPart h c i.view
  pub served : IsDynamicPart h view.class i.served

virtual_dynamic : (h : Classes) → IsHierarchy h → (c : ClassId) → has_vtt h c ≡ true → IsDynamic h c
virtual_dynamic h keeps c test = let r = some_has h keeps c test in base_dynamic h c r.0 r.1

-- a class as a part of itself
whole_part : (h : Classes) (c : ClassId) → IsDynamic h c → IsDynamicPart h c (whole_of c)
whole_part h c dyn = record { class = c; valid = whole [] tt; of_class = refl; dynamic = dyn }

-- a base of a part, and a virtual base, where they have virtual bases
base_part : (h : Classes) → IsHierarchy h → (c d : ClassId) (x : Subobject) (base : Base ClassId) → IsSubobject h c x → class_of x ≡ Some d → Item (bases_with_tables h d) base → IsDynamicPart h c (extended_by x base.class) × (has_vtt h base.class ≡ true)
base_part h keeps c d x base valid e i =
    let b = from_filter (is_built_base h) (bases_of h d) base i in
    let test = built_virtual h base b.1 in (
      record {
        class = base.class;
        valid = down_valid h c d base.class x valid e (built_edge h d base b.0 b.1);
        of_class = class_below x.path d base.class e;
        dynamic = virtual_dynamic h keeps base.class test;
      },
      test,
    )

shared_part : (h : Classes) → IsHierarchy h → (c v : ClassId) → Item (filter (has_vtt h) (virtual_bases h c)) v → IsDynamicPart h c (shared_base v) × (has_vtt h v ≡ true)
shared_part h keeps c v i =
    let b = from_filter (has_vtt h) (virtual_bases h c) v i in
    (record { class = v; valid = shared v [] (item_virtual h keeps c v b.0) tt; of_class = refl; dynamic = virtual_dynamic h keeps v b.1 }, b.1)

-- views

sub_part : (h : Classes) → IsHierarchy h → (c : ClassId) (n : ℕ) (x : Subobject) (d : ClassId) → IsDynamicPart h c x → class_of x ≡ Some d → (s : Subobject) → Item (sub_views h n x d) s → IsDynamicPart h c s
sub_part h keeps c zero x d part e s i = absurd (item_none s i)
sub_part h keeps c (suc n) x d part e s i = ⊎_elim
    (λ same. subst (λ a. IsDynamicPart h c a) same part)
    (λ rest.
    let r = from_flat (λ (base : Base ClassId). sub_views h n (extended_by x base.class) base.class) (bases_with_tables h d) s rest in
    let base = r.0 in
    let b = base_part h keeps c d x base part.valid e r.1 in
    sub_part h keeps c n (extended_by x base.class) base.class b.0 (class_below x.path d base.class e) s r.2)
    (item_split x _ s i)

view_part : (h : Classes) → IsHierarchy h → (c : ClassId) → has_vtt h c ≡ true → (s : Subobject) → Item (views h c) s → IsDynamicPart h c s
view_part h keeps c test s i = ⊎_elim
    (λ first. sub_part h keeps c (c.0 + 1) (whole_of c) c (whole_part h c (virtual_dynamic h keeps c test)) refl s first)
    (λ rest.
    let r = from_flat (shared_views h) (filter (has_vtt h) (virtual_bases h c)) s rest in
    sub_part h keeps c (r.0.0 + 1) (shared_base r.0) r.0 (shared_part h keeps c r.0 r.1).0 refl s r.2)
    (item_cases (sub_views h (c.0 + 1) (whole_of c) c) _ s i)

-- the view of a group
pub group_part : (h : Classes) → IsHierarchy h → (c : ClassId) (s : Subobject) → Item (group_views h c) s → IsDynamicPart h c s
group_part h keeps c s i = split (has_vtt h c) (λ b. has_vtt h c ≡ b → Item (if b then views h c else (if is_dynamic h c then whole_of c ∷ [] else [])) s → IsDynamicPart h c s)
    (λ t test j. view_part h keeps c test s j)
    (λ t test j. split (is_dynamic h c) (λ b. is_dynamic h c ≡ b → Item (if b then whole_of c ∷ [] else []) s → IsDynamicPart h c s)
    (λ u dyn k. ⊎_elim (λ same. subst (λ a. IsDynamicPart h c a) same (whole_part h c (test_dynamic h keeps c dyn))) (λ none. absurd (item_none s none)) (item_split (whole_of c) [] s k))
    (λ u dyn k. absurd (item_none s k))
    refl j)
    refl i

-- items

dynamic_class : (h : Classes) → IsHierarchy h → (o : Option ClassId) → is_dynamic_class h o ≡ true → (d : ClassId) × (o ≡ Some d) × IsDynamic h d
dynamic_class h keeps None e = cc
dynamic_class h keeps (Some d) e = (d, refl, test_dynamic h keeps d e)

served_part : (h : Classes) → IsHierarchy h → (l : Places) (d : ClassId) (s : Subobject) → Item (filter (needs_word h l) (preorder h d)) s → IsDynamicPart h d s
served_part h keeps l d s i =
    let r = from_filter (needs_word h l) (preorder h d) s i in
    let inner = and_parts (is_proper_at s.root s.path) (is_dynamic_class h (class_of s) && ((class_has_virtual h (class_of s) || is_shared_root s.root) && not (ends_in_primary l s.path))) r.1 in
    let dyn = and_parts (is_dynamic_class h (class_of s)) ((class_has_virtual h (class_of s) || is_shared_root s.root) && not (ends_in_primary l s.path)) inner.1 in
    let k = dynamic_class h keeps (class_of s) dyn.0 in
    record { class = k.0; valid = item_preorder h keeps d s r.0; of_class = k.1; dynamic = k.2 }

item_of : (h : Classes) (c d : ClassId) (x s : Subobject) → (part : IsDynamicPart h c x) → class_of x ≡ Some d → IsDynamicPart h d s → IsItemOf h c (item x s)
item_of h c d x s part e inner = record { view = part; served = subst (λ a. IsDynamicPart h a s) (same_some d part.class (sym e ∙ part.of_class)) inner }

sub_item : (h : Classes) → IsHierarchy h → (l : Places) (c : ClassId) (n : ℕ) (x : Subobject) (d : ClassId) → IsDynamicPart h c x → class_of x ≡ Some d → (i : VttItem) → Item (sub_items h l n x d) i → IsItemOf h c i
sub_item h keeps l c zero x d part e i there = absurd (item_none i there)
sub_item h keeps l c (suc n) x d part e i there = ⊎_elim
    (λ same. subst (λ a. IsItemOf h c a) same (item_of h c d x (whole_of d) part e (whole_part h d (part_class h c x d part e))))
    (λ rest. ⊎_elim
    (λ bases.
    let r = from_flat (λ (base : Base ClassId). sub_items h l n (extended_by x base.class) base.class) (bases_with_tables h d) i bases in
    let b = base_part h keeps c d x r.0 part.valid e r.1 in
    sub_item h keeps l c n (extended_by x r.0.class) r.0.class b.0 (class_below x.path d r.0.class e) i r.2)
    (λ words.
    let r = from_map (item x) (filter (needs_word h l) (preorder h d)) i words in
    subst (λ a. IsItemOf h c a) r.2 (item_of h c d x r.0 part e (served_part h keeps l d r.0 r.1)))
    (item_cases (flat_map (λ (base : Base ClassId). sub_items h l n (extended_by x base.class) base.class) (bases_with_tables h d)) (words_of_bases h l x d) i rest))
    (item_split (item x (whole_of d)) _ i there)

some_item : (h : Classes) → IsHierarchy h → (l : Places) (c : ClassId) → has_vtt h c ≡ true → (i : VttItem) → Item (vtt_items h l c) i → IsItemOf h c i
some_item h keeps l c test i there = ⊎_elim
    (λ first. sub_item h keeps l c (c.0 + 1) (whole_of c) c (whole_part h c (virtual_dynamic h keeps c test)) refl i first)
    (λ rest.
    let r = from_flat (shared_items h l) (filter (has_vtt h) (virtual_bases h c)) i rest in
    sub_item h keeps l c (r.0.0 + 1) (shared_base r.0) r.0 (shared_part h keeps c r.0 r.1).0 refl i r.2)
    (item_cases (sub_items h l (c.0 + 1) (whole_of c) c) _ i there)

-- the item of a VTT
pub class_item : (h : Classes) → IsHierarchy h → (l : Places) (c : ClassId) (i : VttItem) → Item (class_items h l c) i → IsItemOf h c i
class_item h keeps l c i there = split (has_vtt h c) (λ b. has_vtt h c ≡ b → Item (if b then vtt_items h l c else []) i → IsItemOf h c i)
    (λ t test j. some_item h keeps l c test i j)
    (λ t test j. absurd (item_none i j))
    refl there
