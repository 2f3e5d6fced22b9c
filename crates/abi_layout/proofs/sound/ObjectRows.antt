-- In a layout by the rules of any hierarchy each complete object is arranged.
use Rattle.std.proofs.Common.{◌≡◌, ℕ, ◌+◌, ◌*◌, ◌<◌, ⊎_elim, Bool, true, false, Option, Some, None, List, [], ◌∷◌, ◌++◌, map, length, refl, ap, subst, sym, ◌∙◌, arith}
use Rattle.std.specs.Prelude.{if◌then◌else◌}
use Rattle.std.specs.List.{slice_get, Contains}
use Rattle.std.proofs.Math.Nat.{le-max_right}
use Rattle.std.proofs.lemmas.Bool.{and_parts}
use Rattle.cxx_hierarchy.specs.declared.records.ClassId.{ClassId}
use Rattle.cxx_hierarchy.specs.declared.records.Member.{Member}
use Rattle.cxx_hierarchy.specs.declared.records.ValueType.TheVariants.{Number}
use Rattle.cxx_hierarchy.specs.declared.records.FieldType.{FieldType}
use Rattle.cxx_hierarchy.specs.declared.records.FieldType.TheVariants.{Value, Object}
use Rattle.cxx_hierarchy.specs.Classes.{Class, Classes, class_at, bases_in, members_in as class_members_in}
use Rattle.cxx_hierarchy.specs.Hierarchies.{IsHierarchy}
use Rattle.cxx_subobject.specs.Subobjects.{shared_base}
use Rattle.abi_primary.specs.declared.Primary.{Primary}
use Rattle.abi_primary.specs.declared.Primary.TheVariants.{None as NoPrimary, Direct, Virtual}
use Rattle.abi_primary.specs.Kinds.{IsDynamic}
use Rattle.abi_primary.proofs.KindLemmas.{empty_parts, dynamic_not_empty, base_dynamic}
use Rattle.abi_layout.specs.declared.component.Component.{Component}
use Rattle.abi_layout.specs.declared.component.Stage.{Stage}
use Rattle.abi_sound.specs.declared.class_layout.Bits.{Bits}
use Rattle.abi_sound.specs.declared.class_layout.ClassLayout.{ClassLayout}
use Rattle.abi_layout.specs.declared.placed_bases.PlacedBase.TheVariants.{Own, VirtualBase}
use Rattle.abi_sound.specs.Places.{size_in_row, align_in, member_places_in, member_bits_in, first_bit_in, first_bit}
use Rattle.abi_layout.specs.Kinds.{is_kind, is_empty}
use Rattle.abi_layout.specs.PlacedBases.{subobject_of, free_bases}
use Rattle.abi_layout.specs.Brought.{brought_by}
use Rattle.abi_layout.specs.Layouts.{primary_of, fronts, placed_place, object_parts, start_stage, IsLaidBy}
use Rattle.abi_layout.specs.invariants.Alignments.{eight_bytes}
use Rattle.abi_layout.proofs.rules.Stages.{Has, split, HasFitWidth, IsPut}
use Rattle.abi_layout.proofs.lists.Each.{not_both}
use Rattle.abi_layout.proofs.algorithm.SettledLemmas.{base_below}
use Rattle.cxx_subobject.proofs.PathLemmas.{virtual_below}
use Rattle.abi_layout.proofs.lists.Bounds.{align_divides}
use Rattle.abi_layout.proofs.lists.Pairs.{Pairs, pairs_weaker}
use Rattle.abi_layout.proofs.sound.ObjectTree.{Complete, Pointer, Placement, Measures, IsInPlace, AreClear, IsArranged, dynamic_kind, is_no_primary, owns_pointer, one_at, own_pointer, placed_base, placed_members, members_at, contents_of_object, contents_of, rank_of, measures_of, node_of_member}
use Rattle.abi_layout.proofs.sound.ObjectKinds.{dynamic_by_test, dynamic_has_data}
use Rattle.abi_layout.proofs.sound.ObjectPrimaries.{HasRow, row_of, primary_possible}
use Rattle.abi_layout.proofs.sound.ObjectItems.{AreApart, pairs_placed, Item, place_item, component_item, bits_or, bits_item, AreFields, start_known, all_fit, member_items, base_items, all_items, ArePut, mid_stage, end_stage, all_put, placement_of, members_are, bases_are}
use Rattle.abi_layout.proofs.sound.ObjectFine.{IsItem, is_own, is_virtual_base, is_member, all_view, IsFine, fine, type_fine, object_below, field_is, fields, item_align, row_fine, put_in}
use Rattle.abi_layout.proofs.sound.ObjectPlaced.{Stands, IsNarrow, in_place, clear_of, base_stands, member_stands, own_in_place, own_clear, arranged_by, laid_out}

-- what is not empty makes its class not empty
pub item_has_data : (h : Classes) (rows : List ClassLayout) (primaries : List Primary) (c : ClassId) (class : Class) (x : Item) → IsHierarchy h → class_at h c ≡ Some class → IsItem h c class x → (component_item h rows primaries c x).is_empty ≡ false → is_empty h c ≡ false
item_has_data h rows primaries c class x keeps at view other = split (is_empty h c) (λ b. is_empty h c ≡ b → b ≡ false) (λ _ t. absurd (by_view x view other t)) (λ _ f. refl) refl
  where
    by_view : (y : Item) → IsItem h c class y → (component_item h rows primaries c y).is_empty ≡ false → is_empty h c ≡ true → ⊥
    by_view _ (is_own b edge) some is =
        let parts = empty_parts h c class keeps at is in
        let e = parts.bases edge.base (subst (λ (o : Option Class). Contains (bases_in o) edge.base) at edge.listed) in
        not_both (ap (is_empty h) (sym edge.class) ∙ e.empty_is) some
    by_view _ (is_virtual_base v has) some is = dynamic_not_empty h keeps c (base_dynamic h c v has) is
    by_view _ (is_member n member place has) some is = let parts = empty_parts h c class keeps at is in subst (λ (xs : List (Member ClassId)). Has xs member) parts.no_member has

-- a class's own virtual pointer
pub own_has : (h : Classes) (primaries : List Primary) (d : ClassId) (k : Placement) → Has (own_pointer h primaries d) k → (owns_pointer h primaries d ≡ true) × (one_at Pointer 0 8 ≡ k)
own_has h primaries d k has = split (owns_pointer h primaries d) (λ b. Has (if b then one_at Pointer 0 8 ∷ [] else []) k → owns_pointer h primaries d ≡ b → (owns_pointer h primaries d ≡ true) × (one_at Pointer 0 8 ≡ k))
    (λ _ x e. ⊎_elim (λ same. (e, same)) (λ r. absurd r) x)
    (λ _ x e. absurd x) has refl

pub own_two : (h : Classes) (rows : List ClassLayout) (primaries : List Primary) (d : ClassId) → Pairs (AreClear (measures_of h rows)) (own_pointer h primaries d)
own_two h rows primaries d = split (owns_pointer h primaries d) (λ b. Pairs (AreClear (measures_of h rows)) (if b then one_at Pointer 0 8 ∷ [] else [])) (λ _. (λ y x. absurd x, tt)) (λ _. tt)

no_primary_is : (p : Primary) → is_no_primary p ≡ true → p ≡ NoPrimary
no_primary_is NoPrimary e = refl
no_primary_is (Direct b) e = let f : false ≡ true = e in cc
no_primary_is (Virtual v) e = let f : false ≡ true = e in cc

-- a class that owns a pointer is dynamic, and begins with it
pub record Owns (h : Classes) (d : ClassId) (first : Stage) : Type 0 where
  pub dynamic : IsDynamic h d
  pub free_bit : first.free_bit ≡ 64

pub owns : (h : Classes) (rows : List ClassLayout) (nearly : List Bool) (primaries : List Primary) (d : ClassId) (k : HasRow h rows nearly primaries d) → owns_pointer h primaries d ≡ true → Owns h d (start_stage d k.laid.has_pointer)
owns h rows nearly primaries d k e =
    let b = and_parts (is_kind dynamic_kind h d) (is_no_primary (primary_of primaries d)) e in
    let dynamic = dynamic_by_test h d b.0 in
    let t : k.laid.has_pointer ≡ true = k.laid.pointer.1 (dynamic, no_primary_is (primary_of primaries d) b.1) in
    record { dynamic = dynamic; free_bit = ap (λ x. (start_stage d x).free_bit) t }

-- nodes are of lower rank than the class
pub type_falls : (c : ClassId) (n : ℕ) (width : Option ℕ) (type : FieldType ClassId) → ((d : ClassId) → type ≡ Object d → d.0 < c.0) → rank_of (node_of_member c n width type) < 2 * c.0 + 1
type_falls c n width (Value type) below = omega arith
type_falls c n width (Object d) below = let l = below d refl in omega arith

-- a member that has a width is a number and no array
pub narrow : (h : Classes) (c : ClassId) (class : Class) (member : Member ClassId) → IsHierarchy h → class_at h c ≡ Some class → Has class.members member → (k : ℕ) → member.width ≡ Some k → IsNarrow member.width member.ty member.count
narrow h c class member keeps at has k e =
    let is = field_is h c class member k keeps at has e in
    record { value = Number is.type; type_is = is.is; single = is.single; some = λ n f. (field_is h c class member n keeps at has f).low }

-- the first bit of a member, by its row
pub first_of : (rows : List ClassLayout) (c : ClassId) (row : ClassLayout) (n : ℕ) → slice_get rows c.0 ≡ Some row → first_bit rows c n ≡ (bits_or (slice_get row.member_bits n)).first
first_of rows c row n there = ap (λ (o : Option ClassLayout). first_bit_in (slice_get (member_bits_in o) n)) there ∙ by_bits (slice_get row.member_bits n)
  where
    by_bits : (o : Option Bits) → first_bit_in o ≡ (bits_or o).first
    by_bits None = refl
    by_bits (Some bits) = refl

-- the placements of a complete object
abbrev complete_place : Classes → List ClassLayout → ClassId → Item → Placement
complete_place h rows c = placement_of rows c (placed_base h rows c)

complete_stands : (h : Classes) (rows : List ClassLayout) (primaries : List Primary) (c : ClassId) (class : Class) (row : ClassLayout) (first last : Stage) (x : Item) → IsHierarchy h → class_at h c ≡ Some class → slice_get rows c.0 ≡ Some row → ((b : ClassId) → b.0 < c.0 → IsFine h rows b) → IsItem h c class x
    → IsPut first last (component_item h rows primaries c x) (place_item h rows c x) (bits_item h rows primaries row.member_bits c x)
    → Stands (measures_of h rows) (component_item h rows primaries c x) (place_item h rows c x) (bits_item h rows primaries row.member_bits c x) (complete_place h rows c x) × (rank_of (complete_place h rows c x).node < 2 * c.0 + 2)
complete_stands h rows primaries c class row first last _ keeps at there low (is_own b edge) put =
    let l = base_below h c b keeps edge in
    (base_stands h rows c (subobject_of c (Own b)) b (brought_by h rows primaries (object_parts h rows primaries) c (subobject_of c (Own b)) b) (placed_place h rows c (Own b)) (low b l), omega arith)
complete_stands h rows primaries c class row first last _ keeps at there low (is_virtual_base v has) put =
    let l = virtual_below h keeps c v has in
    (base_stands h rows c (shared_base v) v (brought_by h rows primaries (object_parts h rows primaries) c (shared_base v) v) (placed_place h rows c (VirtualBase v)) (low v l), omega arith)
complete_stands h rows primaries c class row first last _ keeps at there low (is_member n member place has) put =
    let below = λ (d : ClassId) (e : member.ty ≡ Object d). object_below h c class member d keeps at has e in
    let f = type_falls c n member.width member.ty below in
    (member_stands h rows first last (object_parts h rows primaries) c n member place (bits_or (slice_get row.member_bits n)) (type_fine h rows c low member.ty below) (narrow h c class member keeps at has) put (first_of rows c row n there), omega arith)

complete_is : (h : Classes) (rows : List ClassLayout) (nearly : List Bool) (primaries : List Primary) (c : ClassId) (k : HasRow h rows nearly primaries c) → contents_of h rows primaries (Complete c) ≡ map (complete_place h rows c) (all_items h primaries c k.class k.row) ++ own_pointer h primaries c
complete_is h rows nearly primaries c k =
    let fs = fronts primaries c k.class in
    let vs = free_bases h primaries c in
    let members : members_at h rows c ≡ placed_members rows c 0 k.class.members k.row.member_places =
    ap (λ (o : Option Class). placed_members rows c 0 (class_members_in o) (member_places_in (slice_get rows c.0))) k.there ∙ ap (λ (o : Option ClassLayout). placed_members rows c 0 k.class.members (member_places_in o)) k.row_there in
    ap (contents_of_object h rows primaries c) k.there
    ∙ laid_out (complete_place h rows c) (base_items fs) (member_items 0 k.class.members k.row.member_places) (base_items vs) (map (placed_base h rows c) fs) (members_at h rows c) (map (placed_base h rows c) vs) (own_pointer h primaries c)
    (bases_are rows c (placed_base h rows c) fs) (members_are rows c (placed_base h rows c) 0 k.class.members k.row.member_places ∙ sym members) (bases_are rows c (placed_base h rows c) vs)

-- a complete object is arranged
pub complete_arranged : (h : Classes) (rows : List ClassLayout) (nearly : List Bool) (primaries : List Primary) (c : ClassId) → IsHierarchy h → IsLaidBy h (length h) rows nearly primaries → c.0 < length h → IsArranged (contents_of h rows primaries) (measures_of h rows) (Complete c)
complete_arranged h rows nearly primaries c keeps laid lt =
    arranged_by (contents_of h rows primaries) m (Complete c) (complete_place h rows c) items (own_pointer h primaries c) (complete_is h rows nearly primaries c k)
    (λ x has. each x has)
    (pairs_weaker (AreApart component place bits) (λ x y. AreClear m (complete_place h rows c x) (complete_place h rows c y)) items
    (λ x y a b apart. clear_of m component place bits x y (complete_place h rows c x) (complete_place h rows c y) (stands x a).0 (stands y b).0 apart)
    (pairs_placed component place bits first items (start_known c k.laid.has_pointer) fits put.placed put.lie))
    (λ p has. let o = own_has h primaries c p has in subst (λ (z : Placement). IsInPlace m (Complete c) z) o.1 (own (owns h rows nearly primaries c k o.0)))
    (own_two h rows primaries c)
    (λ x p a has. let o = own_has h primaries c p has in subst (λ (z : Placement). AreClear m (complete_place h rows c x) z) o.1 (own_clear m first last (component x) (place x) (bits x) (complete_place h rows c x) refl (stands x a).0 (put_is x a) (owns h rows nearly primaries c k o.0).free_bit))
  where
    m : Measures
    m = measures_of h rows

    k : HasRow h rows nearly primaries c
    k = row_of h rows nearly primaries c laid lt

    first : Stage
    first = start_stage c k.laid.has_pointer

    last : Stage
    last = end_stage h rows primaries c (mid_stage h rows primaries c k.class k.laid.has_pointer k.row)

    items : List Item
    items = all_items h primaries c k.class k.row

    component : Item → Component
    component = component_item h rows primaries c

    place : Item → ℕ
    place = place_item h rows c

    bits : Item → Bits
    bits = bits_item h rows primaries k.row.member_bits c

    widths : AreFields h rows primaries k.class
    widths = fields h rows primaries c k.class keeps k.there

    fits : (x : Item) → Has items x → HasFitWidth (component x)
    fits = all_fit h rows primaries c k.class k.row widths

    put : ArePut h rows primaries k.row.member_bits c first last items
    put = all_put h rows primaries c k.class k.laid.has_pointer k.row k.laid.placed

    low : (b : ClassId) → b.0 < c.0 → IsFine h rows b
    low b less = fine h rows nearly primaries b keeps laid (omega arith)

    view : (x : Item) → Has items x → IsItem h c k.class x
    view x has = all_view h primaries c k.class k.row x keeps k.there (primary_possible h nearly _ c (primary_of primaries c) keeps k.laid.is_primary) has

    put_is : (x : Item) → Has items x → IsPut first last (component x) (place x) (bits x)
    put_is x has = put_in h rows primaries k.row.member_bits c first last items x (start_known c k.laid.has_pointer) fits put has

    stands : (x : Item) → Has items x → Stands m (component x) (place x) (bits x) (complete_place h rows c x) × (rank_of (complete_place h rows c x).node < 2 * c.0 + 2)
    stands x has = complete_stands h rows primaries c k.class k.row first last x keeps k.there k.row_there low (view x has) (put_is x has)

    size_is : size_in_row (slice_get rows c.0) ≡ k.row.size
    size_is = ap size_in_row k.row_there

    align_is : align_in (slice_get rows c.0) ≡ k.row.align
    align_is = ap align_in k.row_there

    here : IsFine h rows c
    here = fine h rows nearly primaries c keeps laid lt

    each : (x : Item) → Has items x → IsInPlace m (Complete c) (complete_place h rows c x)
    each x has =
        let f = row_fine h rows primaries c k.class k.laid.has_pointer k.row widths k.laid.placed in
        let s = stands x has in
        let p = put_is x has in
        let l = f.last_size in
        let r = le-max_right 1 (size_in_row (slice_get rows c.0)) in
        let a = p.align in
        let b = f.align in
        in_place m (Complete c) first last (component x) (place x) (bits x) (complete_place h rows c x) s.0 p s.1 refl (omega (arith, l, r, size_is))
        (λ other. let e : (if is_empty h c then 0 else size_in_row (slice_get rows c.0)) ≡ size_in_row (slice_get rows c.0) = ap (λ b. if b then 0 else size_in_row (slice_get rows c.0)) (item_has_data h rows primaries c k.class x keeps k.there (view x has) other) in omega (arith, l, e, size_is))
        (align_divides (component x).align (align_in (slice_get rows c.0)) (item_align h rows primaries c k.class x keeps k.there low (view x has)) here.align (omega (arith, a, b, align_is)))

    own : Owns h c first → IsInPlace m (Complete c) (one_at Pointer 0 8)
    own o =
        let n = here.dynamic o.dynamic in
        let s = here.nvsize in
        let a = here.dynamic_align o.dynamic in
        let b = here.aligns in
        let r = le-max_right 1 (size_in_row (slice_get rows c.0)) in
        let e : (if is_empty h c then 0 else size_in_row (slice_get rows c.0)) ≡ size_in_row (slice_get rows c.0) = ap (λ b. if b then 0 else size_in_row (slice_get rows c.0)) (dynamic_has_data h keeps c o.dynamic) in
        own_in_place h rows (Complete c) (omega arith) refl (omega (arith, n, s, r)) (omega (arith, e, n, s)) (align_divides 8 (align_in (slice_get rows c.0)) eight_bytes here.align (omega (arith, a, b)))
