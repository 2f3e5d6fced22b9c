-- In a layout by the rules of any hierarchy each subobject is arranged.
use Rattle.std.proofs.Common.{◌≡◌, ℕ, ◌+◌, ◌*◌, ◌<◌, ⊎_elim, Bool, false, Option, Some, None, List, [], ◌∷◌, ◌++◌, map, length, refl, ap, subst, sym, ◌∙◌, arith}
use Rattle.std.specs.Prelude.{if◌then◌else◌, filter}
use Rattle.std.specs.List.{slice_get}
use Rattle.std.proofs.Math.Nat.{le-max_right}
use Rattle.std.proofs.lemmas.Bool.{not-true}
use Rattle.cxx_hierarchy.specs.declared.records.ClassId.{ClassId}
use Rattle.cxx_hierarchy.specs.declared.records.Base.{Base}
use Rattle.cxx_hierarchy.specs.declared.records.Member.{Member}
use Rattle.cxx_hierarchy.specs.declared.records.FieldType.TheVariants.{Object}
use Rattle.cxx_hierarchy.specs.Classes.{Class, Classes, class_at, bases_of, bases_in, members_in as class_members_in}
use Rattle.cxx_hierarchy.specs.Hierarchies.{IsHierarchy}
use Rattle.cxx_hierarchy.specs.VirtualBases.{IsDirectBase}
use Rattle.cxx_subobject.specs.declared.Subobject.{Subobject}
use Rattle.cxx_subobject.specs.Subobjects.{subobject, shared_base}
use Rattle.cxx_subobject.proofs.TreeLemmas.{has_filter}
use Rattle.abi_primary.specs.declared.Primary.{Primary}
use Rattle.abi_primary.specs.declared.Primary.TheVariants.{Virtual}
use Rattle.abi_layout.specs.declared.component.Component.{Component}
use Rattle.abi_layout.specs.declared.component.Stage.{Stage}
use Rattle.abi_sound.specs.declared.class_layout.Bits.{Bits}
use Rattle.abi_sound.specs.declared.class_layout.ClassLayout.{ClassLayout}
use Rattle.abi_layout.specs.declared.placed_bases.PlacedBase.{PlacedBase}
use Rattle.abi_layout.specs.declared.placed_bases.PlacedBase.TheVariants.{Own, VirtualBase}
use Rattle.cxx_hierarchy.specs.Declarations.{is_plain_base}
use Rattle.abi_sound.specs.Places.{nvalign_in, member_places_in, direct_base_place}
use Rattle.abi_layout.specs.Kinds.{is_empty}
use Rattle.abi_layout.specs.Placements.{nvsize_in}
use Rattle.abi_layout.specs.Holding.{virtual_primary_base, holds_base}
use Rattle.abi_layout.specs.PlacedBases.{subobject_of}
use Rattle.abi_layout.specs.Brought.{brought_by}
use Rattle.abi_layout.specs.Layouts.{primary_of, fronts, placed_place, object_parts, start_stage, IsLaidBy}
use Rattle.abi_layout.specs.invariants.Alignments.{eight_bytes}
use Rattle.abi_layout.proofs.rules.Stages.{Has, split, has_left, has_right, has_map, has_cases, HasFitWidth, IsPut}
use Rattle.abi_layout.proofs.rules.KindLemmas.{from_filter}
use Rattle.abi_layout.proofs.algorithm.SettledLemmas.{base_below}
use Rattle.cxx_subobject.proofs.PathLemmas.{virtual_below}
use Rattle.abi_layout.proofs.lists.Bounds.{align_divides}
use Rattle.abi_layout.proofs.lists.Pairs.{Pairs, pairs_among, pairs_append, pairs_weaker, pairs_map, pairs_by_number, has_mapped}
use Rattle.abi_layout.proofs.sound.ObjectTree.{Within, Pointer, Placement, Measures, IsInPlace, AreClear, IsArranged, one_at, own_pointer, inner_base, placed_members, members_at, virtual_start, contents_of, rank_of, measures_of}
use Rattle.abi_layout.proofs.sound.ObjectKinds.{dynamic_has_data}
use Rattle.abi_layout.proofs.rules.AgreeingParts.{primary_is_virtual}
use Rattle.abi_layout.proofs.sound.ObjectPrimaries.{HasRow, row_of, virtual_primary_of, virtual_at_start}
use Rattle.abi_layout.proofs.sound.ObjectItems.{AreApart, apart_back, pairs_placed, Item, a_base, a_member, place_item, component_item, bits_or, bits_item, AreFields, start_known, front_fit, member_items, base_items, front_items, ArePut, mid_stage, front_put, placement_of, members_are, member_item, members_differ}
use Rattle.abi_layout.proofs.sound.ObjectFine.{plain_edge, IsItem, is_own, is_virtual_base, is_member, plain_front, virtual_front, IsFine, fine, type_fine, object_below, fields, item_align, row_fine, put_in}
use Rattle.abi_layout.proofs.sound.ObjectRows.{item_has_data, own_has, own_two, Owns, owns, type_falls, narrow, first_of}
use Rattle.abi_layout.proofs.sound.ObjectPlaced.{Stands, in_place, clear_of, base_stands, pointer_stands, member_stands, own_in_place, own_clear, arranged_by, laid_out}

-- the placements of a subobject, by the items of its class
abbrev base_at : Classes → List ClassLayout → List Primary → ClassId → Subobject → ClassId → PlacedBase → Placement
base_at h rows primaries c s d (Own b) = one_at (Within c (subobject s.root (s.path ++ b ∷ [])) b) (direct_base_place h rows d b) (nvsize_in (slice_get rows b.0))
base_at h rows primaries c s d (VirtualBase v) = one_at (if holds_base h primaries c s v then Within c (shared_base v) v else Pointer) 0 (nvsize_in (slice_get rows v.0))

abbrev within_place : Classes → List ClassLayout → List Primary → ClassId → Subobject → ClassId → Item → Placement
within_place h rows primaries c s d = placement_of rows d (base_at h rows primaries c s d)

abbrev own_item : Base ClassId → Item
own_item base = a_base (Own base.class)

abbrev virtual_items : Option ClassId → List Item
virtual_items None = []
virtual_items (Some v) = a_base (VirtualBase v) ∷ []

-- the items of a class in the order in which a subobject has them
abbrev inner_items : List Primary → ClassId → Class → ClassLayout → List Item
inner_items primaries d class row = member_items 0 class.members row.member_places ++ (map own_item (filter is_plain_base class.bases) ++ virtual_items (virtual_primary_base primaries d))

own_are : (h : Classes) (rows : List ClassLayout) (primaries : List Primary) (c : ClassId) (s : Subobject) (d : ClassId) (bases : List (Base ClassId)) → map (within_place h rows primaries c s d) (map own_item bases) ≡ map (inner_base h rows c s d) bases
own_are h rows primaries c s d [] = refl
own_are h rows primaries c s d (base ∷ bases) = ap (λ xs. inner_base h rows c s d base ∷ xs) (own_are h rows primaries c s d bases)

virtual_are : (h : Classes) (rows : List ClassLayout) (primaries : List Primary) (c : ClassId) (s : Subobject) (d : ClassId) (o : Option ClassId) → map (within_place h rows primaries c s d) (virtual_items o) ≡ virtual_start h rows primaries c s o
virtual_are h rows primaries c s d None = refl
virtual_are h rows primaries c s d (Some v) = refl

within_is : (h : Classes) (rows : List ClassLayout) (nearly : List Bool) (primaries : List Primary) (c : ClassId) (s : Subobject) (d : ClassId) (k : HasRow h rows nearly primaries d) → contents_of h rows primaries (Within c s d) ≡ map (within_place h rows primaries c s d) (inner_items primaries d k.class k.row) ++ own_pointer h primaries d
within_is h rows nearly primaries c s d k =
    let members : members_at h rows d ≡ placed_members rows d 0 k.class.members k.row.member_places =
    ap (λ (o : Option Class). placed_members rows d 0 (class_members_in o) (member_places_in (slice_get rows d.0))) k.there ∙ ap (λ (o : Option ClassLayout). placed_members rows d 0 k.class.members (member_places_in o)) k.row_there in
    let bases : map (inner_base h rows c s d) (filter is_plain_base (bases_of h d)) ≡ map (inner_base h rows c s d) (filter is_plain_base k.class.bases) = ap (λ (o : Option Class). map (inner_base h rows c s d) (filter is_plain_base (bases_in o))) k.there in
    laid_out (within_place h rows primaries c s d) (member_items 0 k.class.members k.row.member_places) (map own_item (filter is_plain_base k.class.bases)) (virtual_items (virtual_primary_base primaries d))
    (members_at h rows d) (map (inner_base h rows c s d) (filter is_plain_base (bases_of h d))) (virtual_start h rows primaries c s (virtual_primary_base primaries d)) (own_pointer h primaries d)
    (members_are rows d (base_at h rows primaries c s d) 0 k.class.members k.row.member_places ∙ sym members) (own_are h rows primaries c s d (filter is_plain_base k.class.bases) ∙ sym bases) (virtual_are h rows primaries c s d (virtual_primary_base primaries d))

virtual_item : (o : Option ClassId) (x : Item) → Has (virtual_items o) x → (v : ClassId) × (o ≡ Some v) × (a_base (VirtualBase v) ≡ x)
virtual_item None x has = absurd has
virtual_item (Some v) x has = ⊎_elim (λ e. (v, refl, e)) (λ r. absurd r) has

-- what a subobject has is one of the items of its class
data IsInner (h : Classes) (primaries : List Primary) (d : ClassId) (class : Class) : Item → Type 0 where
  inner_member : (n : ℕ) (member : Member ClassId) (place : ℕ) → Has class.members member → IsInner h primaries d class (a_member n member place)
  inner_own : (b : ClassId) → IsDirectBase h d false b → IsInner h primaries d class (a_base (Own b))
  inner_virtual : (v : ClassId) → primary_of primaries d ≡ Virtual v → IsInner h primaries d class (a_base (VirtualBase v))

-- a plain base that is listed
record IsPlain (bases : List (Base ClassId)) (x : Item) : Type 0 where
  base : Base ClassId
  has : Has bases base
  way : base.is_virtual ≡ false
  is : own_item base ≡ x

plain_item : (bases : List (Base ClassId)) (x : Item) → Has (map own_item (filter is_plain_base bases)) x → IsPlain bases x
plain_item bases x has =
    let r = has_mapped own_item (filter is_plain_base bases) x has in
    let f = has_filter is_plain_base bases r.0 r.1 in
    record { base = r.0; has = f.0; way = not-true r.0.is_virtual f.1; is = r.2 }

inner_view : (h : Classes) (primaries : List Primary) (d : ClassId) (class : Class) (row : ClassLayout) (x : Item) → class_at h d ≡ Some class → Has (inner_items primaries d class row) x → IsInner h primaries d class x
inner_view h primaries d class row x at has = ⊎_elim
    (λ m. let k = member_item 0 class.members row.member_places x m in subst (IsInner h primaries d class) k.is (inner_member k.number k.member k.place k.has))
    (λ r. ⊎_elim
    (λ b. let k = plain_item class.bases x b in subst (IsInner h primaries d class) k.is (inner_own k.base.class (plain_edge h d class k.base at k.has k.way)))
    (λ v. let k = virtual_item (virtual_primary_base primaries d) x v in subst (IsInner h primaries d class) k.2 (inner_virtual k.0 (primary_is_virtual primaries d k.0 k.1)))
    (has_cases (map own_item (filter is_plain_base class.bases)) (virtual_items (virtual_primary_base primaries d)) x r))
    (has_cases (member_items 0 class.members row.member_places) (map own_item (filter is_plain_base class.bases) ++ virtual_items (virtual_primary_base primaries d)) x has)

inner_among : (primaries : List Primary) (d : ClassId) (class : Class) (row : ClassLayout) (x : Item) → Has (inner_items primaries d class row) x → Has (front_items primaries d class row) x
inner_among primaries d class row x has = ⊎_elim
    (λ m. has_right (base_items (fronts primaries d class)) (member_items 0 class.members row.member_places) x m)
    (λ r. has_left (base_items (fronts primaries d class)) (member_items 0 class.members row.member_places) x (⊎_elim
    (λ b. let k = plain_item class.bases x b in subst (λ (y : Item). Has (base_items (fronts primaries d class)) y) k.is (has_map a_base (fronts primaries d class) (Own k.base.class) (plain_front (primary_of primaries d) class.bases k.base k.has k.way)))
    (λ v. let k = virtual_item (virtual_primary_base primaries d) x v in subst (λ (y : Item). Has (base_items (fronts primaries d class)) y) k.2 (has_map a_base (fronts primaries d class) (VirtualBase k.0) (virtual_front primaries d k.0 class (primary_is_virtual primaries d k.0 k.1))))
    (has_cases (map own_item (filter is_plain_base class.bases)) (virtual_items (virtual_primary_base primaries d)) x r)))
    (has_cases (member_items 0 class.members row.member_places) (map own_item (filter is_plain_base class.bases) ++ virtual_items (virtual_primary_base primaries d)) x has)

pairs_filter : {X : Type 0} (R : X → X → Type 0) (p : X → Bool) (xs : List X) → Pairs R xs → Pairs R (filter p xs)
pairs_filter R p [] all = tt
pairs_filter R p (x ∷ xs) all = split (p x) (λ b. Pairs R (if b then x ∷ filter p xs else filter p xs)) (λ t. (λ y has. all.0 y (from_filter p xs y has), pairs_filter R p xs all.1)) (λ f. pairs_filter R p xs all.1)

-- no item stands twice among those of a subobject
inner_differ : (h : Classes) (primaries : List Primary) (d : ClassId) (class : Class) (row : ClassLayout) → IsHierarchy h → class_at h d ≡ Some class → Pairs (λ x y. x ≡ y → ⊥) (inner_items primaries d class row)
inner_differ h primaries d class row keeps at =
    pairs_append (λ x y. x ≡ y → ⊥) (member_items 0 class.members row.member_places) (map own_item plain ++ virtual_items (virtual_primary_base primaries d)) (members_differ 0 class.members row.member_places)
    (pairs_append (λ x y. x ≡ y → ⊥) (map own_item plain) (virtual_items (virtual_primary_base primaries d))
    (pairs_map (λ x y. x ≡ y → ⊥) own_item plain (pairs_filter (λ x y. own_item x ≡ own_item y → ⊥) is_plain_base class.bases (pairs_by_number (λ x y. own_item x ≡ own_item y → ⊥) class.bases once)))
    (virtual_once (virtual_primary_base primaries d))
    (λ x y a b same. let k = plain_item class.bases x a in let l = virtual_item (virtual_primary_base primaries d) y b in own_not_virtual k.base.class l.0 (k.is ∙ (same ∙ sym l.2))))
    (λ x y a b same. let k = member_item 0 class.members row.member_places x a in ⊎_elim
    (λ o. let l = plain_item class.bases y o in member_not_base k.number k.member k.place (Own l.base.class) (k.is ∙ (same ∙ sym l.is)))
    (λ v. let l = virtual_item (virtual_primary_base primaries d) y v in member_not_base k.number k.member k.place (VirtualBase l.0) (k.is ∙ (same ∙ sym l.2)))
    (has_cases (map own_item plain) (virtual_items (virtual_primary_base primaries d)) y b))
  where
    plain : List (Base ClassId)
    plain = filter is_plain_base class.bases

    same_own : (a b : ClassId) → a_base (Own a) ≡ a_base (Own b) → a ≡ b
    same_own a b e = cc

    own_not_virtual : (a b : ClassId) → a_base (Own a) ≡ a_base (VirtualBase b) → ⊥
    own_not_virtual a b e = cc

    member_not_base : (n : ℕ) (member : Member ClassId) (place : ℕ) (base : PlacedBase) → a_member n member place ≡ a_base base → ⊥
    member_not_base n member place base e = cc

    once : (i j : ℕ) (x y : Base ClassId) → i < j → slice_get class.bases i ≡ Some x → slice_get class.bases j ≡ Some y → own_item x ≡ own_item y → ⊥
    once i j x y lt a b same =
        let f = keeps.once d i j x y (subst (λ (o : Option Class). slice_get (bases_in o) i ≡ Some x) (sym at) a) (subst (λ (o : Option Class). slice_get (bases_in o) j ≡ Some y) (sym at) b) (same_own x.class y.class same) in
        omega arith

    virtual_once : (o : Option ClassId) → Pairs (λ (x y : Item). x ≡ y → ⊥) (virtual_items o)
    virtual_once None = tt
    virtual_once (Some v) = (λ y has. absurd has, tt)

-- each item of a subobject is a base or a member of its class
inner_item : (h : Classes) (rows : List ClassLayout) (nearly : List Bool) (primaries : List Primary) (d : ClassId) (class : Class) (x : Item) → IsHierarchy h → IsLaidBy h (length h) rows nearly primaries → d.0 < length h → IsInner h primaries d class x → IsItem h d class x
inner_item h rows nearly primaries d class _ keeps laid lt (inner_member n member place has) = is_member n member place has
inner_item h rows nearly primaries d class _ keeps laid lt (inner_own b edge) = is_own b edge
inner_item h rows nearly primaries d class _ keeps laid lt (inner_virtual v e) = is_virtual_base v (virtual_primary_of h rows nearly primaries d v keeps laid lt e).0

within_stands : (h : Classes) (rows : List ClassLayout) (nearly : List Bool) (primaries : List Primary) (c : ClassId) (s : Subobject) (d : ClassId) (class : Class) (row : ClassLayout) (first last : Stage) (x : Item) → IsHierarchy h → IsLaidBy h (length h) rows nearly primaries → d.0 < length h → class_at h d ≡ Some class → slice_get rows d.0 ≡ Some row → ((b : ClassId) → b.0 < d.0 → IsFine h rows b) → IsInner h primaries d class x
    → IsPut first last (component_item h rows primaries d x) (place_item h rows d x) (bits_item h rows primaries row.member_bits d x)
    → Stands (measures_of h rows) (component_item h rows primaries d x) (place_item h rows d x) (bits_item h rows primaries row.member_bits d x) (within_place h rows primaries c s d x) × (rank_of (within_place h rows primaries c s d x).node < 2 * d.0 + 1)
within_stands h rows nearly primaries c s d class row first last _ keeps laid lt at there low (inner_member n member place has) put =
    let below = λ (e : ClassId) (is : member.ty ≡ Object e). object_below h d class member e keeps at has is in
    let f = type_falls d n member.width member.ty below in
    (member_stands h rows first last (object_parts h rows primaries) d n member place (bits_or (slice_get row.member_bits n)) (type_fine h rows d low member.ty below) (narrow h d class member keeps at has) put (first_of rows d row n there), f)
within_stands h rows nearly primaries c s d class row first last _ keeps laid lt at there low (inner_own b edge) put =
    let l = base_below h d b keeps edge in
    let place : direct_base_place h rows d b ≡ placed_place h rows d (Own b) = omega arith in (
      subst (λ p. Stands (measures_of h rows) (component_item h rows primaries d (a_base (Own b))) p (bits_item h rows primaries row.member_bits d (a_base (Own b))) (within_place h rows primaries c s d (a_base (Own b)))) place
          (base_stands h rows c (subobject s.root (s.path ++ b ∷ [])) b (brought_by h rows primaries (object_parts h rows primaries) d (subobject_of d (Own b)) b) (direct_base_place h rows d b) (low b l)),
      omega arith,
    )
within_stands h rows nearly primaries c s d class row first last _ keeps laid lt at there low (inner_virtual v e) put =
    let x = virtual_primary_of h rows nearly primaries d v keeps laid lt e in
    let l = virtual_below h keeps d v x.0 in
    let place : 0 ≡ placed_place h rows d (VirtualBase v) = sym (virtual_at_start h rows nearly primaries d v keeps laid lt e) in
    let parts = brought_by h rows primaries (object_parts h rows primaries) d (shared_base v) v in
    split (holds_base h primaries c s v) (λ t. Stands (measures_of h rows) (component_item h rows primaries d (a_base (VirtualBase v))) (placed_place h rows d (VirtualBase v)) (bits_item h rows primaries row.member_bits d (a_base (VirtualBase v))) (one_at (if t then Within c (shared_base v) v else Pointer) 0 (nvsize_in (slice_get rows v.0))) × (rank_of (if t then Within c (shared_base v) v else Pointer) < 2 * d.0 + 1))
    (λ t. (subst (λ p. Stands (measures_of h rows) (component_item h rows primaries d (a_base (VirtualBase v))) p (bits_item h rows primaries row.member_bits d (a_base (VirtualBase v))) (one_at (Within c (shared_base v) v) 0 (nvsize_in (slice_get rows v.0)))) place (base_stands h rows c (shared_base v) v parts 0 (low v l)), omega arith))
    (λ f. (subst (λ p. Stands (measures_of h rows) (component_item h rows primaries d (a_base (VirtualBase v))) p (bits_item h rows primaries row.member_bits d (a_base (VirtualBase v))) (one_at Pointer 0 (nvsize_in (slice_get rows v.0)))) place (pointer_stands h rows v parts 0 (low v l) x.1 (dynamic_has_data h keeps v x.1)), omega arith))

-- a subobject is arranged
pub within_arranged : (h : Classes) (rows : List ClassLayout) (nearly : List Bool) (primaries : List Primary) (c : ClassId) (s : Subobject) (d : ClassId) → IsHierarchy h → IsLaidBy h (length h) rows nearly primaries → d.0 < length h → IsArranged (contents_of h rows primaries) (measures_of h rows) (Within c s d)
within_arranged h rows nearly primaries c s d keeps laid lt =
    arranged_by (contents_of h rows primaries) m (Within c s d) placement items (own_pointer h primaries d) (within_is h rows nearly primaries c s d k)
    (λ x has. each x has)
    (pairs_weaker (AreApart component place bits) (λ x y. AreClear m (placement x) (placement y)) items
    (λ x y a b apart. clear_of m component place bits x y (placement x) (placement y) (stands x a).0 (stands y b).0 apart)
    (pairs_among (AreApart component place bits) front items (λ x y r. apart_back component place bits x y r) (pairs_placed component place bits first front (start_known d k.laid.has_pointer) fits put.placed put.lie) (λ y has. inner_among primaries d k.class k.row y has) (inner_differ h primaries d k.class k.row keeps k.there)))
    (λ p has. let o = own_has h primaries d p has in subst (λ (z : Placement). IsInPlace m (Within c s d) z) o.1 (own (owns h rows nearly primaries d k o.0)))
    (own_two h rows primaries d)
    (λ x p a has. let o = own_has h primaries d p has in subst (λ (z : Placement). AreClear m (placement x) z) o.1 (own_clear m first last (component x) (place x) (bits x) (placement x) refl (stands x a).0 (put_is x a) (owns h rows nearly primaries d k o.0).free_bit))
  where
    m : Measures
    m = measures_of h rows

    k : HasRow h rows nearly primaries d
    k = row_of h rows nearly primaries d laid lt

    first : Stage
    first = start_stage d k.laid.has_pointer

    last : Stage
    last = mid_stage h rows primaries d k.class k.laid.has_pointer k.row

    front : List Item
    front = front_items primaries d k.class k.row

    items : List Item
    items = inner_items primaries d k.class k.row

    component : Item → Component
    component = component_item h rows primaries d

    place : Item → ℕ
    place = place_item h rows d

    placement : Item → Placement
    placement = within_place h rows primaries c s d

    bits : Item → Bits
    bits = bits_item h rows primaries k.row.member_bits d

    widths : AreFields h rows primaries k.class
    widths = fields h rows primaries d k.class keeps k.there

    fits : (x : Item) → Has front x → HasFitWidth (component x)
    fits = front_fit h rows primaries d k.class k.row widths

    put : ArePut h rows primaries k.row.member_bits d first last front
    put = front_put h rows primaries d k.class k.laid.has_pointer k.row k.laid.placed

    low : (b : ClassId) → b.0 < d.0 → IsFine h rows b
    low b less = fine h rows nearly primaries b keeps laid (omega arith)

    view : (x : Item) → Has items x → IsInner h primaries d k.class x
    view x has = inner_view h primaries d k.class k.row x k.there has

    item : (x : Item) → Has items x → IsItem h d k.class x
    item x has = inner_item h rows nearly primaries d k.class x keeps laid lt (view x has)

    put_is : (x : Item) → Has items x → IsPut first last (component x) (place x) (bits x)
    put_is x has = put_in h rows primaries k.row.member_bits d first last front x (start_known d k.laid.has_pointer) fits put (inner_among primaries d k.class k.row x has)

    stands : (x : Item) → Has items x → Stands m (component x) (place x) (bits x) (placement x) × (rank_of (placement x).node < 2 * d.0 + 1)
    stands x has = within_stands h rows nearly primaries c s d k.class k.row first last x keeps laid lt k.there k.row_there low (view x has) (put_is x has)

    size_is : nvsize_in (slice_get rows d.0) ≡ k.row.nvsize
    size_is = ap nvsize_in k.row_there

    align_is : nvalign_in (slice_get rows d.0) ≡ k.row.nvalign
    align_is = ap nvalign_in k.row_there

    here : IsFine h rows d
    here = fine h rows nearly primaries d keeps laid lt

    each : (x : Item) → Has items x → IsInPlace m (Within c s d) (placement x)
    each x has =
        let f = row_fine h rows primaries d k.class k.laid.has_pointer k.row widths k.laid.placed in
        let t = stands x has in
        let p = put_is x has in
        let l = f.mid_size in
        let r = le-max_right 1 (nvsize_in (slice_get rows d.0)) in
        let a = p.align in
        let b = f.nvalign in
        in_place m (Within c s d) first last (component x) (place x) (bits x) (placement x) t.0 p t.1 refl (omega (arith, l, r, size_is))
        (λ other. let e : (if is_empty h d then 0 else nvsize_in (slice_get rows d.0)) ≡ nvsize_in (slice_get rows d.0) = ap (λ b. if b then 0 else nvsize_in (slice_get rows d.0)) (item_has_data h rows primaries d k.class x keeps k.there (item x has) other) in omega (arith, l, e, size_is))
        (align_divides (component x).align (nvalign_in (slice_get rows d.0)) (item_align h rows primaries d k.class x keeps k.there low (item x has)) here.nvalign (omega (arith, a, b, align_is)))

    own : Owns h d first → IsInPlace m (Within c s d) (one_at Pointer 0 8)
    own o =
        let n = here.dynamic o.dynamic in
        let a = here.dynamic_align o.dynamic in
        let r = le-max_right 1 (nvsize_in (slice_get rows d.0)) in
        let e : (if is_empty h d then 0 else nvsize_in (slice_get rows d.0)) ≡ nvsize_in (slice_get rows d.0) = ap (λ b. if b then 0 else nvsize_in (slice_get rows d.0)) (dynamic_has_data h keeps d o.dynamic) in
        own_in_place h rows (Within c s d) (omega arith) refl (omega (arith, n, r)) (omega (arith, e, n)) (align_divides 8 (nvalign_in (slice_get rows d.0)) eight_bytes here.nvalign (omega (arith, a)))
