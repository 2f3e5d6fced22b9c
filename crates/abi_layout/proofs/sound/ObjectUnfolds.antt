-- The tree of an object lists the parts of its class.
use Rattle.std.proofs.Common.{◌≡◌, ℕ, suc, ◌*◌, ◌<◌, inl, inr, ⊎_elim, Bool, true, false, Option, Some, None, List, [], ◌∷◌, ◌++◌, map, length, refl, ap, subst, sym, ◌∙◌, arith}
use Rattle.std.specs.Prelude.{Contains, filter, not, if◌then◌else◌}
use Rattle.std.specs.List.{slice_get, flat_map}
use Rattle.std.proofs.lemmas.List.{append-nil}
use Rattle.std.proofs.lemmas.List.Concat.{flat_map-append}
use Rattle.cxx_hierarchy.specs.declared.records.ClassId.{ClassId}
use Rattle.cxx_hierarchy.specs.declared.records.Base.{Base}
use Rattle.cxx_hierarchy.specs.declared.records.Member.{Member}
use Rattle.cxx_hierarchy.specs.declared.records.FieldType.{FieldType}
use Rattle.cxx_hierarchy.specs.declared.records.FieldType.TheVariants.{Value, Object}
use Rattle.cxx_hierarchy.specs.Classes.{Class, Classes, class_at, bases_of, members_of, members_in as members_of_class}
use Rattle.cxx_hierarchy.specs.Hierarchies.{IsHierarchy}
use Rattle.cxx_subobject.specs.declared.Subobject.{Subobject}
use Rattle.cxx_subobject.specs.declared.Root.TheVariants.{Shared}
use Rattle.cxx_subobject.specs.Subobjects.{subobject, shared_base}
use Rattle.cxx_subobject.proofs.ListLemmas.{Has, has_at, has_cases, contains_from_has}
use Rattle.cxx_subobject.proofs.TreeLemmas.{has_filter}
use Rattle.abi_emptybase.specs.declared.Part.{Part}
use Rattle.abi_emptybase.specs.Table.{moved_part}
use Rattle.abi_primary.specs.declared.Primary.{Primary}
use Rattle.abi_sound.specs.declared.class_layout.ClassLayout.{ClassLayout}
use Rattle.abi_layout.specs.declared.placed_bases.PlacedBase.{PlacedBase}
use Rattle.abi_layout.specs.Kinds.{is_empty}
use Rattle.cxx_hierarchy.specs.Declarations.{is_plain_base}
use Rattle.abi_sound.specs.Places.{member_places_in, direct_base_place}
use Rattle.abi_layout.specs.Placements.{nvsize_in, placed_part, parts_at, parts_of_type, copies, elements_of, size_of_member_type, member_component}
use Rattle.abi_layout.specs.Holding.{virtual_primary_base, holds_base, kept_if, held_base}
use Rattle.abi_layout.specs.Brought.{parts_in_members, base_brings, virtual_brings, brought_by}
use Rattle.abi_layout.specs.PlacedBases.{class_of_placed, subobject_of, free_bases, placed_component}
use Rattle.abi_layout.specs.Layouts.{fronts, front_components, free_components, placed_place, object_parts}
use Rattle.abi_layout.proofs.rules.Parts.{split}
use Rattle.abi_layout.proofs.rules.PlacedLemmas.{moved_none}
use Rattle.abi_layout.proofs.rules.BroughtLemmas.{brought_is}
use Rattle.abi_layout.proofs.lists.Lists.{get_within}
use Rattle.abi_layout.proofs.sound.ObjectTree.{Node, Complete, Within, Leaf, Pointer, Placement, class_of_node, placed_parts, owns_pointer, one_at, own_pointer, placed_base, inner_base, node_of_member, placed_members, members_at, virtual_start, contents_of_object, contents_of, node_parts}
use Rattle.abi_layout.proofs.rules.OnceLemmas.{unmapped}
use Rattle.abi_layout.proofs.sound.ObjectLists.{own_part, ListsParts}
use Rattle.abi_layout.proofs.sound.ObjectParts.{ArePossible, front_below, free_below, object_here}

one_copied : (stride : ℕ) (parts : List Part) → copies 1 stride parts ≡ parts
one_copied stride parts = let z : 0 * stride ≡ 0 = omega arith in ap (λ n. map (moved_part n) parts) z ∙ moved_none parts

-- what a placement of one node lists
placed_once : (parts : Node → List Part) (node : Node) (place stride : ℕ) → placed_parts parts (one_at node place stride) ≡ map (moved_part place) (parts node)
placed_once parts node place stride = ap (map (moved_part place)) (one_copied stride (parts node))

-- four lists of placements, the last of which lists nothing
four_pieces : {X Y : Type 0} (f : X → List Y) (a b c d : List X) (x y z : List Y) → flat_map f a ≡ x → flat_map f b ≡ y → flat_map f c ≡ z → flat_map f d ≡ [] → flat_map f (a ++ (b ++ (c ++ d))) ≡ x ++ (y ++ z)
four_pieces f a b c d x y z ex ey ez ed =
    let third : flat_map f (c ++ d) ≡ z = flat_map-append f c d ∙ (ap (λ t. t ++ flat_map f d) ez ∙ (ap (λ t. z ++ t) ed ∙ append-nil z)) in
    let second : flat_map f (b ++ (c ++ d)) ≡ y ++ z = flat_map-append f b (c ++ d) ∙ (ap (λ t. t ++ flat_map f (c ++ d)) ey ∙ ap (λ t. y ++ t) third) in
    flat_map-append f a (b ++ (c ++ d)) ∙ (ap (λ t. t ++ flat_map f (b ++ (c ++ d))) ex ∙ ap (λ t. x ++ t) second)

-- bases that are placed in a class list what their components bring
bases_listed : (h : Classes) (rows : List ClassLayout) (ps : List Primary) (c : ClassId) (bases : List PlacedBase) → flat_map (placed_parts (node_parts h rows ps)) (map (placed_base h rows c) bases) ≡ parts_at (map (placed_component (is_empty h) h rows ps (object_parts h rows ps) c) bases) (map (placed_place h rows c) bases)
bases_listed h rows ps c [] = refl
bases_listed h rows ps c (base ∷ bases) =
    ap (λ t. t ++ flat_map (placed_parts (node_parts h rows ps)) (map (placed_base h rows c) bases))
    (placed_once (node_parts h rows ps) (Within c (subobject_of c base) (class_of_placed base)) (placed_place h rows c base) (nvsize_in (slice_get rows (class_of_placed base).0)))
    ∙ ap (λ t. map (moved_part (placed_place h rows c base)) (brought_by h rows ps (object_parts h rows ps) c (subobject_of c base) (class_of_placed base)) ++ t) (bases_listed h rows ps c bases)

type_listed : (h : Classes) (rows : List ClassLayout) (ps : List Primary) (d : ClassId) (n : ℕ) (width : Option ℕ) (type : FieldType ClassId) → node_parts h rows ps (node_of_member d n width type) ≡ parts_of_type (object_parts h rows ps) type
type_listed h rows ps d n width (Value type) = refl
type_listed h rows ps d n width (Object e) = refl

-- members list what their components bring
members_listed : (h : Classes) (rows : List ClassLayout) (ps : List Primary) (d : ClassId) (n : ℕ) (members : List (Member ClassId)) (places : List ℕ) → flat_map (placed_parts (node_parts h rows ps)) (placed_members rows d n members places) ≡ parts_at (map (member_component rows (object_parts h rows ps)) members) places
members_listed h rows ps d n [] places = refl
members_listed h rows ps d n (member ∷ members) [] = refl
members_listed h rows ps d n (member ∷ members) (place ∷ places) =
    ap (λ t. map (moved_part place) (copies (elements_of member.count) (size_of_member_type rows member.ty) t) ++ flat_map (placed_parts (node_parts h rows ps)) (placed_members rows d (suc n) members places)) (type_listed h rows ps d n member.width member.ty)
    ∙ ap (λ t. map (moved_part place) (copies (elements_of member.count) (size_of_member_type rows member.ty) (parts_of_type (object_parts h rows ps) member.ty)) ++ t) (members_listed h rows ps d (suc n) members places)

pointer_listed : (h : Classes) (rows : List ClassLayout) (ps : List Primary) (b : Bool) → flat_map (placed_parts (node_parts h rows ps)) (if b then one_at Pointer 0 8 ∷ [] else []) ≡ []
pointer_listed h rows ps true = refl
pointer_listed h rows ps false = refl

-- the direct non-virtual bases of a subobject list what they bring
inner_listed : (h : Classes) (rows : List ClassLayout) (ps : List Primary) (c : ClassId) (s : Subobject) (d : ClassId) (bases : List (Base ClassId)) → flat_map (placed_parts (node_parts h rows ps)) (map (inner_base h rows c s d) (filter is_plain_base bases)) ≡ flat_map (base_brings h rows (brought_by h rows ps (object_parts h rows ps) c) s d) bases
inner_listed h rows ps c s d [] = refl
inner_listed h rows ps c s d (base ∷ bases) = split base.is_virtual
    (λ b. flat_map f (map (inner_base h rows c s d) (if not b then base ∷ filter is_plain_base bases else filter is_plain_base bases))
    ≡ (if b then [] else map (moved_part (direct_base_place h rows d base.class)) (by (if b then subobject (Shared base.class) (base.class ∷ []) else subobject s.root (s.path ++ base.class ∷ [])) base.class)) ++ flat_map (base_brings h rows by s d) bases)
    (λ t. inner_listed h rows ps c s d bases)
    (λ e.
    ap (λ t. t ++ flat_map f (map (inner_base h rows c s d) (filter is_plain_base bases)))
    (placed_once (node_parts h rows ps) (Within c (subobject s.root (s.path ++ base.class ∷ [])) base.class) (direct_base_place h rows d base.class) (nvsize_in (slice_get rows base.class.0)))
    ∙ ap (λ t. map (moved_part (direct_base_place h rows d base.class)) (by (subobject s.root (s.path ++ base.class ∷ [])) base.class) ++ t) (inner_listed h rows ps c s d bases))
  where
    f : Placement → List Part
    f = placed_parts (node_parts h rows ps)

    by : Subobject → ClassId → List Part
    by = brought_by h rows ps (object_parts h rows ps) c

-- the virtual base that a subobject holds lists what it brings
virtual_listed : (h : Classes) (rows : List ClassLayout) (ps : List Primary) (c : ClassId) (s : Subobject) (o : Option ClassId) → flat_map (placed_parts (node_parts h rows ps)) (virtual_start h rows ps c s o) ≡ virtual_brings (brought_by h rows ps (object_parts h rows ps) c) (kept_if (holds_base h ps c s) o)
virtual_listed h rows ps c s None = refl
virtual_listed h rows ps c s (Some v) = by_test (holds_base h ps c s v)
  where
    by_test : (b : Bool) → flat_map (placed_parts (node_parts h rows ps)) (one_at (if b then Within c (shared_base v) v else Pointer) 0 (nvsize_in (slice_get rows v.0)) ∷ []) ≡ virtual_brings (brought_by h rows ps (object_parts h rows ps) c) (if b then Some v else None)
    by_test true =
        append-nil (placed_parts (node_parts h rows ps) (one_at (Within c (shared_base v) v) 0 (nvsize_in (slice_get rows v.0))))
        ∙ (placed_once (node_parts h rows ps) (Within c (shared_base v) v) 0 (nvsize_in (slice_get rows v.0)) ∙ moved_none (brought_by h rows ps (object_parts h rows ps) c (shared_base v) v))
    by_test false = append-nil (placed_parts (node_parts h rows ps) (one_at Pointer 0 (nvsize_in (slice_get rows v.0)))) ∙ placed_once (node_parts h rows ps) Pointer 0 (nvsize_in (slice_get rows v.0))

object_unfolds : (h : Classes) (rows : List ClassLayout) (ps : List Primary) → IsHierarchy h → ArePossible h ps → (c : ClassId) (class : Class) → class_at h c ≡ Some class → object_parts h rows ps c ≡ placed_part c 0 ∷ flat_map (placed_parts (node_parts h rows ps)) (contents_of_object h rows ps c (class_at h c))
object_unfolds h rows ps keeps possible c class e =
    let f = placed_parts (node_parts h rows ps) in
    let members : flat_map f (members_at h rows c) ≡ parts_at (map (member_component rows (object_parts h rows ps)) class.members) (member_places_in (slice_get rows c.0)) =
    members_listed h rows ps c 0 (members_of h c) (member_places_in (slice_get rows c.0)) ∙ ap (λ (o : Option Class). parts_at (map (member_component rows (object_parts h rows ps)) (members_of_class o)) (member_places_in (slice_get rows c.0))) e in
    let pieces = four_pieces f (map (placed_base h rows c) (fronts ps c class)) (members_at h rows c) (map (placed_base h rows c) (free_bases h ps c)) (own_pointer h ps c)
    (parts_at (front_components h rows ps (object_parts h rows ps) c class) (map (placed_place h rows c) (fronts ps c class)))
    (parts_at (map (member_component rows (object_parts h rows ps)) class.members) (member_places_in (slice_get rows c.0)))
    (parts_at (free_components h rows ps (object_parts h rows ps) c) (map (placed_place h rows c) (free_bases h ps c)))
    (bases_listed h rows ps c (fronts ps c class)) members (bases_listed h rows ps c (free_bases h ps c)) (pointer_listed h rows ps (owns_pointer h ps c)) in
    object_here h rows ps keeps possible c class e
    ∙ ap (λ t. placed_part c 0 ∷ t) (sym (ap (λ (o : Option Class). flat_map f (contents_of_object h rows ps c o)) e ∙ pieces))

within_unfolds : (h : Classes) (rows : List ClassLayout) (ps : List Primary) → IsHierarchy h → ArePossible h ps → (c : ClassId) (s : Subobject) (d : ClassId) → brought_by h rows ps (object_parts h rows ps) c s d ≡ placed_part d 0 ∷ flat_map (placed_parts (node_parts h rows ps)) (contents_of h rows ps (Within c s d))
within_unfolds h rows ps keeps possible c s d =
    let f = placed_parts (node_parts h rows ps) in
    let pieces = four_pieces f (members_at h rows d) (map (inner_base h rows c s d) (filter is_plain_base (bases_of h d))) (virtual_start h rows ps c s (virtual_primary_base ps d)) (own_pointer h ps d)
    (parts_in_members h rows (object_parts h rows ps) d) (flat_map (base_brings h rows (brought_by h rows ps (object_parts h rows ps) c) s d) (bases_of h d)) (virtual_brings (brought_by h rows ps (object_parts h rows ps) c) (held_base h ps c s d))
    (members_listed h rows ps d 0 (members_of h d) (member_places_in (slice_get rows d.0))) (inner_listed h rows ps c s d (bases_of h d)) (virtual_listed h rows ps c s (virtual_primary_base ps d)) (pointer_listed h rows ps (owns_pointer h ps d)) in
    brought_is h rows ps (object_parts h rows ps) c keeps possible.before s d ∙ ap (λ t. placed_part d 0 ∷ t) (sym pieces)

-- nodes of the classes of the hierarchy
abbrev pub IsKnownNode : Classes → Node → Type 0
IsKnownNode h (Complete c) = c.0 < length h
IsKnownNode h (Within c s d) = d.0 < length h
IsKnownNode h (Leaf d m w t) = Unit {0}
IsKnownNode h Pointer = Unit {0}

type_known : (h : Classes) (d : ClassId) (n : ℕ) (width : Option ℕ) (type : FieldType ClassId) → ((e : ClassId) → type ≡ Object e → e.0 < length h) → IsKnownNode h (node_of_member d n width type)
type_known h d n width (Value type) low = tt
type_known h d n width (Object e) low = low e refl

placed_known : (h : Classes) (rows : List ClassLayout) (d : ClassId) (n : ℕ) (members : List (Member ClassId)) (places : List ℕ) (k : Placement) → ((member : Member ClassId) (e : ClassId) → Has members member → member.ty ≡ Object e → e.0 < length h) → Has (placed_members rows d n members places) k → IsKnownNode h k.node
placed_known h rows d n [] places k low has = absurd has
placed_known h rows d n (member ∷ members) [] k low has = absurd has
placed_known h rows d n (member ∷ members) (place ∷ places) k low has = ⊎_elim
    (λ e. subst (λ (x : Placement). IsKnownNode h x.node) e (type_known h d n member.width member.ty (λ x is. low member x (inl refl) is)))
    (λ r. placed_known h rows d (suc n) members places k (λ m x there is. low m x (inr there) is) r)
    has

members_known : (h : Classes) (rows : List ClassLayout) → IsHierarchy h → (d : ClassId) → d.0 < length h → (k : Placement) → Has (members_at h rows d) k → IsKnownNode h k.node
members_known h rows keeps d lt k has = placed_known h rows d 0 (members_of h d) (member_places_in (slice_get rows d.0)) k (λ member e there is. let f = keeps.objects d e member (contains_from_has (members_of h d) member there) is in omega arith) has

pointer_known : (h : Classes) (b : Bool) (k : Placement) → Has (if b then one_at Pointer 0 8 ∷ [] else []) k → IsKnownNode h k.node
pointer_known h true k has = ⊎_elim (λ e. subst (λ (x : Placement). IsKnownNode h x.node) e tt) (λ r. absurd r) has
pointer_known h false k has = absurd has

bases_known : (h : Classes) (rows : List ClassLayout) (c : ClassId) → c.0 < length h → (bases : List PlacedBase) → ((base : PlacedBase) → Contains bases base → (class_of_placed base).0 < c.0) → (k : Placement) → Has (map (placed_base h rows c) bases) k → IsKnownNode h k.node
bases_known h rows c lt bases below k has =
    let r = unmapped (placed_base h rows c) bases k has in
    let low = below r.item (contains_from_has bases r.item r.has) in
    subst (λ (x : Placement). IsKnownNode h x.node) r.is (let f : (class_of_placed r.item).0 < length h = omega arith in f)

inner_known : (h : Classes) (rows : List ClassLayout) → IsHierarchy h → (c : ClassId) (s : Subobject) (d : ClassId) → d.0 < length h → (k : Placement) → Has (map (inner_base h rows c s d) (filter is_plain_base (bases_of h d))) k → IsKnownNode h k.node
inner_known h rows keeps c s d lt k has =
    let r = unmapped (inner_base h rows c s d) (filter is_plain_base (bases_of h d)) k has in
    let listed = (has_filter is_plain_base (bases_of h d) r.item r.has).0 in
    let low = keeps.bases d r.item (contains_from_has (bases_of h d) r.item listed) in
    subst (λ (x : Placement). IsKnownNode h x.node) r.is (let f : r.item.class.0 < length h = omega arith in f)

virtual_known : (h : Classes) (rows : List ClassLayout) (ps : List Primary) (c : ClassId) (s : Subobject) (o : Option ClassId) (k : Placement) → ((v : ClassId) → o ≡ Some v → v.0 < length h) → Has (virtual_start h rows ps c s o) k → IsKnownNode h k.node
virtual_known h rows ps c s None k low has = absurd has
virtual_known h rows ps c s (Some v) k low has = ⊎_elim (λ e. subst (λ (x : Placement). IsKnownNode h x.node) e (by_test (holds_base h ps c s v))) (λ r. absurd r) has
  where
    by_test : (b : Bool) → IsKnownNode h (if b then Within c (shared_base v) v else Pointer)
    by_test true = low v refl
    by_test false = tt

object_known : (h : Classes) (rows : List ClassLayout) (ps : List Primary) → IsHierarchy h → ArePossible h ps → (c : ClassId) → c.0 < length h → (o : Option Class) → class_at h c ≡ o → (k : Placement) → Has (contents_of_object h rows ps c o) k → IsKnownNode h k.node
object_known h rows ps keeps possible c lt None e k has = absurd has
object_known h rows ps keeps possible c lt (Some class) e k has =
    let front = map (placed_base h rows c) (fronts ps c class) in
    let free = map (placed_base h rows c) (free_bases h ps c) in
    ⊎_elim
    (λ a. bases_known h rows c lt (fronts ps c class) (front_below h ps c class keeps possible e) k a)
    (λ r. ⊎_elim
    (λ a. members_known h rows keeps c lt k a)
    (λ r. ⊎_elim (λ a. bases_known h rows c lt (free_bases h ps c) (free_below h ps c keeps) k a) (λ a. pointer_known h (owns_pointer h ps c) k a) (has_cases free (own_pointer h ps c) k r))
    (has_cases (members_at h rows c) (free ++ own_pointer h ps c) k r))
    (has_cases front (members_at h rows c ++ (free ++ own_pointer h ps c)) k has)

within_known : (h : Classes) (rows : List ClassLayout) (ps : List Primary) → IsHierarchy h → ArePossible h ps → (c : ClassId) (s : Subobject) (d : ClassId) → d.0 < length h → (k : Placement) → Has (contents_of h rows ps (Within c s d)) k → IsKnownNode h k.node
within_known h rows ps keeps possible c s d lt k has =
    let inner = map (inner_base h rows c s d) (filter is_plain_base (bases_of h d)) in
    let start = virtual_start h rows ps c s (virtual_primary_base ps d) in
    ⊎_elim
    (λ a. members_known h rows keeps d lt k a)
    (λ r. ⊎_elim
    (λ a. inner_known h rows keeps c s d lt k a)
    (λ r. ⊎_elim (λ a. virtual_known h rows ps c s (virtual_primary_base ps d) k (λ v e. let f = possible.before.falls d v e in omega arith) a) (λ a. pointer_known h (owns_pointer h ps d) k a) (has_cases start (own_pointer h ps d) k r))
    (has_cases inner (start ++ own_pointer h ps d) k r))
    (has_cases (members_at h rows d) (inner ++ (start ++ own_pointer h ps d)) k has)

-- the tree of an object lists its parts
pub object_lists : (h : Classes) (rows : List ClassLayout) (ps : List Primary) → IsHierarchy h → ArePossible h ps → ListsParts (contents_of h rows ps) (node_parts h rows ps) (IsKnownNode h)
object_lists h rows ps keeps possible = record { below = λ n i k is there. below n k is (has_at (contents_of h rows ps n) i k there); unfolds = unfolds }
  where
    below : (n : Node) (k : Placement) → IsKnownNode h n → Has (contents_of h rows ps n) k → IsKnownNode h k.node
    below (Complete c) k is has = object_known h rows ps keeps possible c is (class_at h c) refl k has
    below (Within c s d) k is has = within_known h rows ps keeps possible c s d is k has
    below (Leaf d m w t) k is has = absurd has
    below Pointer k is has = absurd has

    unfolds : (n : Node) → IsKnownNode h n → node_parts h rows ps n ≡ own_part (class_of_node n) ++ flat_map (placed_parts (node_parts h rows ps)) (contents_of h rows ps n)
    unfolds (Complete c) is = let class = get_within h c.0 is in object_unfolds h rows ps keeps possible c class.0 class.1
    unfolds (Within c s d) is = within_unfolds h rows ps keeps possible c s d
    unfolds (Leaf d m w t) is = refl
    unfolds Pointer is = refl
