-- The row of a class whose bases are placed, with the places of its virtual bases, is the row of the class.
use Rattle.std.proofs.Common.{◌≡◌, ℕ, zero, suc, ◌+◌, Bool, Option, Some, None, List, [], ◌∷◌, ◌++◌, map, length, get_or, replicate, refl, ap, subst, sym, ◌∙◌, append_assoc, arith}
use Rattle.std.specs.Prelude.{filter, slice_set}
use Rattle.std.specs.List.{slice_get}
use Rattle.std.proofs.lemmas.List.{length-map}
use Rattle.cxx_hierarchy.specs.declared.records.ClassId.{ClassId}
use Rattle.cxx_hierarchy.specs.declared.records.Base.{Base}
use Rattle.cxx_hierarchy.specs.Classes.{Class, Classes, class_at}
use Rattle.cxx_hierarchy.specs.Hierarchies.{IsHierarchy}
use Rattle.cxx_hierarchy.specs.VirtualBases.{HasVirtualBase}
use Rattle.cxx_subobject.specs.declared.Subobject.{Subobject}
use Rattle.cxx_subobject.specs.Subobjects.{whole_of}
use Rattle.abi_emptybase.specs.declared.Part.{Part}
use Rattle.abi_primary.specs.declared.Primary.{Primary}
use Rattle.abi_primary.specs.declared.Primary.TheVariants.{Virtual}
use Rattle.abi_primary.specs.Holder.{holder_of}
use Rattle.abi_layout.specs.declared.arrangement.Arrangement.{Arrangement}
use Rattle.abi_layout.specs.declared.component.Component.{Component}
use Rattle.abi_layout.specs.declared.component.Stage.{Stage}
use Rattle.abi_layout.specs.declared.known.Known.{Known}
use Rattle.abi_sound.specs.declared.class_layout.ClassLayout.{ClassLayout}
use Rattle.abi_layout.specs.declared.placed_bases.PlacedBase.{PlacedBase}
use Rattle.abi_layout.specs.declared.placed_bases.PlacedBase.TheVariants.{Own, VirtualBase}
use Rattle.cxx_hierarchy.specs.Declarations.{is_plain_base}
use Rattle.abi_layout.specs.Kinds.{empty_kind, pod_kind}
use Rattle.abi_layout.specs.Placements.{placed_part, parts_at, IsLeastFreePlace, IsComponentAt, stage_after_all}
use Rattle.abi_layout.specs.invariants.Alignments.{LieUpTo}
use Rattle.abi_layout.specs.invariants.Known.{empties_in, pods_in, known_parts_of, members_by, AreAllSized}
use Rattle.cxx_subobject.specs.VirtualBases.{virtual_bases}
use Rattle.abi_layout.specs.invariants.Scenes.{IsLayoutScene}
use Rattle.abi_layout.specs.PlacedBases.{front_bases, is_free, free_bases, placed_component, subobject_of, IsPossible}
use Rattle.abi_layout.specs.invariants.OwnPlaces.{own_place, own_places}
use Rattle.abi_layout.specs.Repeats.{SomeRepeats}
use Rattle.abi_layout.specs.invariants.Arrangements.{row_from, IsArranged, IsWithinLimit, components_by}
use Rattle.abi_layout.specs.Layouts.{placed_place, virtual_place, primary_of, fronts, start_stage, IsLayoutBy}
use Rattle.abi_layout.specs.invariants.Settled.{held_at, EndsWithinLimit, CanSettle, free_table, AreVirtualPlaces}
use Rattle.abi_layout.specs.invariants.ClassRows.{filled_row, AreSmaller, IsOneOrOther, IsClassRow, row_parts, IsRowAdded}
use Rattle.abi_layout.proofs.lists.LastItems.{last_one}
use Rattle.abi_layout.proofs.rules.PlacedCounts.{placed_length}
use Rattle.abi_layout.proofs.rules.PartLemmas.{stage_parts}
use Rattle.cxx_subobject.proofs.PathLemmas.{virtual_below}
use Rattle.abi_layout.proofs.rules.RowPlaces.{class_placed_can, class_placed_room}
use Rattle.cxx_subobject.proofs.VirtualBaseLemmas.{virtual_listed}
use Rattle.abi_layout.proofs.rules.RowPlacesTable.{virtual_place_is, below_of, holders_are, IsVirtualTable, settled_table, held_place}
use Rattle.abi_layout.proofs.rules.RowPlacesFree.{free_at, table_length, frees_once, free_facts}
use Rattle.abi_layout.proofs.rules.RowPlacesSmall.{brought_of, first_at_start}
use Rattle.abi_layout.proofs.rules.RowPlacesFronts.{map_is, own_front_place, virtual_first, first_place, whole_holds}

virtual_index : (ws : List ClassId) (i : ℕ) (x : PlacedBase) → slice_get (map (λ (w : ClassId). VirtualBase w) ws) i ≡ Some x → (v : ClassId) × (slice_get ws i ≡ Some v) × (VirtualBase v ≡ x)
virtual_index [] i x e = let f : None ≡ Some x = e in cc
virtual_index (w ∷ ws) zero x e = let same : VirtualBase w ≡ x = cc in (w, refl, same)
virtual_index (w ∷ ws) (suc i) x e = virtual_index ws i x e

-- the places of the bases by the row of the class: those before the members, and those behind them
pub record ArePlacesBy (h : Classes) (c : ClassId) (rows : List ClassLayout) (ps : List Primary) (class : Class) (front_places free_places : List ℕ) : Type 0 where
  pub fronts_are : map (placed_place h rows c) (fronts ps c class) ≡ front_places
  pub frees_are : map (placed_place h rows c) (free_bases h ps c) ≡ free_places

-- a class's row, with the virtual places by the table, gives its bases the places at which they were put
pub places_from : (h : Classes) (c : ClassId) (class : Class) (rows : List ClassLayout) (ps : List Primary) (first : Stage) (f : PlacedBase → Component) (ms : List Component) (pod : Bool) (a : Arrangement) (r s : ClassLayout) (table : List ℕ)
    → IsHierarchy h → length rows ≡ c.0 → class_at h c ≡ Some class → IsPossible h c (primary_of ps c) → ((v : ClassId) (p : ℕ) → primary_of ps c ≡ Virtual v → IsComponentAt first (f (VirtualBase v)) p → p ≡ 0)
    → IsLayoutBy first (map f (fronts ps c class)) ms (map f (free_bases h ps c)) a.front_places a.free_places pod r → r.base_places ≡ own_places (fronts ps c class) a.front_places class.bases
    → IsVirtualTable h ps c (rows ++ r ∷ []) (free_table c.0 (free_bases h ps c) a.free_places) table → s.virtual_places ≡ map (λ (v : ClassId). get_or table v.0 0) (virtual_bases h c)
    → r.base_places ≡ s.base_places → s.virtual_bases ≡ virtual_bases h c → ArePlacesBy h c (rows ++ s ∷ []) ps class a.front_places a.free_places
places_from h c class rows ps first f ms pod a r s table keeps size e possible at_start laid are made places same bases = record {
  fronts_are = map_is (placed_place h (rows ++ s ∷ []) c) (fronts ps c class) a.front_places
      (placed_length first (map f (fronts ps c class)) a.front_places laid.fronts_placed ∙ length-map (fronts ps c class) f)
      (λ i x p at place. front i x p at place);
  frees_are = map_is (placed_place h (rows ++ s ∷ []) c) (free_bases h ps c) a.free_places
      (placed_length (stage_after_all (stage_after_all first (map f (fronts ps c class)) a.front_places) ms r.member_places) (map f (free_bases h ps c)) a.free_places laid.frees_placed ∙ length-map (free_bases h ps c) f)
      (λ i x p at place. let w = virtual_index frees i x at in ap (placed_place h (rows ++ s ∷ []) c) (sym w.2) ∙ free i w.0 p w.1 place);
}
  where
    frees : List ClassId
    frees = filter (λ (v : ClassId). is_free (holder_of h ps c v)) (virtual_bases h c)

    there : slice_get (rows ++ s ∷ []) c.0 ≡ Some s
    there = ap (slice_get (rows ++ s ∷ [])) (sym size) ∙ last_one rows s

    primary_at_start : (v : ClassId) → primary_of ps c ≡ Virtual v → virtual_place (rows ++ s ∷ []) c v ≡ 0
    primary_at_start v is =
        let has : HasVirtualBase h c v = subst (IsPossible h c) is possible in
        held_place h ps rows c r s (free_table c.0 (free_bases h ps c) a.free_places) table keeps same there bases places made v (whole_of c) (virtual_listed h keeps c v has) (whole_holds h ps c v is)

    front : (i : ℕ) (x : PlacedBase) (p : ℕ) → slice_get (fronts ps c class) i ≡ Some x → slice_get a.front_places i ≡ Some p → placed_place h (rows ++ s ∷ []) c x ≡ p
    front i (Own b) p at place =
        let is = own_front_place h (rows ++ s ∷ []) c class s (primary_of ps c) a.front_places i b p keeps e possible there (sym same ∙ are) at place in
        omega arith
    front i (VirtualBase v) p at place =
        let which = virtual_first (primary_of ps c) class.bases i v at in
        let zero_place = primary_at_start v which.0 in
        let lies = first_place first f (fronts ps c class) a.front_places (VirtualBase v) p laid.fronts_placed (subst (λ n. slice_get (fronts ps c class) n ≡ Some (VirtualBase v)) which.1 at) (subst (λ n. slice_get a.front_places n ≡ Some p) which.1 place) in
        let start = at_start v p which.0 lies in
        omega arith

    free : (i : ℕ) (v : ClassId) (p : ℕ) → slice_get frees i ≡ Some v → slice_get a.free_places i ≡ Some p → placed_place h (rows ++ s ∷ []) c (VirtualBase v) ≡ p
    free i v p at place =
        let facts = free_facts h ps c i v at in
        let lt = below_of h c v keeps facts.listed in
        let by_table = virtual_place_is h (rows ++ s ∷ []) c s table there bases places v facts.listed in
        let kept = made.kept v lt facts.unheld in
        let count = table_length c.0 [] [] in
        let put : (let n : ℕ = get_or (free_table c.0 (free_bases h ps c) a.free_places) v.0 0 in n) ≡ p = free_at (replicate c.0 0) frees a.free_places i v p (frees_once h ps c) at place (omega arith) in
        omega arith

-- a table by which the virtual places of a scene are
scene_table : (h : Classes) (c : ClassId) (rows items : List ClassLayout) (known : List Known) (members : List (List Part)) (ps : List Primary) (list : List Subobject) (holders : List (Option ℕ)) (free_places places : List ℕ) → IsLayoutScene h c rows known members ps list holders
    → (virtuals : AreVirtualPlaces h items list holders (free_table c.0 (free_bases h ps c) free_places) (virtual_bases h c) places) → IsVirtualTable h ps c items (free_table c.0 (free_bases h ps c) free_places) virtuals.table
scene_table h c rows items known members ps list holders free_places places scene virtuals =
    settled_table h ps c items list holders (free_table c.0 (free_bases h ps c) free_places) virtuals.table scene.tells scene.holders_are (table_length c.0 (free_bases h ps c) free_places) virtuals.settled

-- so with the places of a scene
pub places_by : (h : Classes) (c : ClassId) (class : Class) (rows : List ClassLayout) (known : List Known) (members : List (List Part)) (ps : List Primary) (list : List Subobject) (holders : List (Option ℕ)) (has_pointer : Bool) (a : Arrangement) (r s : ClassLayout)
    → IsHierarchy h → IsLayoutScene h c rows known members ps list holders → class_at h c ≡ Some class → IsPossible h c (primary_of ps c) → IsOneOrOther (primary_of ps c) has_pointer → AreSmaller c known
    → IsLayoutBy (start_stage c has_pointer) (components_by h rows known ps c (fronts ps c class)) (members_by rows known class) (components_by h rows known ps c (free_bases h ps c)) a.front_places a.free_places (pod_kind (pods_in known) class) r
    → r.base_places ≡ own_places (fronts ps c class) a.front_places class.bases → AreVirtualPlaces h (rows ++ r ∷ []) list holders (free_table c.0 (free_bases h ps c) a.free_places) (virtual_bases h c) s.virtual_places
    → r.base_places ≡ s.base_places → s.virtual_bases ≡ virtual_bases h c → ArePlacesBy h c (rows ++ s ∷ []) ps class a.front_places a.free_places
places_by h c class rows known members ps list holders has_pointer a r s keeps scene e possible pointer smaller laid are virtuals same bases =
    places_from h c class rows ps (start_stage c has_pointer) f (members_by rows known class) (pod_kind (pods_in known) class) a r s virtuals.table keeps scene.row_each e possible at_start laid are
    (scene_table h c rows (rows ++ r ∷ []) known members ps list holders a.free_places s.virtual_places scene virtuals) virtuals.are same bases
  where
    f : PlacedBase → Component
    f = placed_component (empties_in known) h rows ps (known_parts_of known) c

    at_start : (v : ClassId) (p : ℕ) → primary_of ps c ≡ Virtual v → IsLeastFreePlace (start_stage c has_pointer) (f (VirtualBase v)) p → p ≡ 0
    at_start v p is place =
        let has : HasVirtualBase h c v = subst (IsPossible h c) is possible in
        first_at_start c (f (VirtualBase v)) p (brought_of h c rows known ps keeps scene.before smaller (v.0 + 1) (subobject_of c (VirtualBase v)) v (virtual_below h keeps c v has))
        (subst (λ b. IsLeastFreePlace (start_stage c b) (f (VirtualBase v)) p) (pointer.without v is) place)

-- the class subobjects of the last stage, by the components
parts_of_stage : (first : Stage) (fs ms vs : List Component) (ps qs rs : List ℕ) → (stage_after_all (stage_after_all (stage_after_all first fs ps) ms qs) vs rs).parts ≡ first.parts ++ (parts_at fs ps ++ (parts_at ms qs ++ parts_at vs rs))
parts_of_stage first fs ms vs ps qs rs =
    stage_parts (stage_after_all (stage_after_all first fs ps) ms qs) vs rs
    ∙ (ap (λ (xs : List Part). xs ++ parts_at vs rs) (stage_parts (stage_after_all first fs ps) ms qs ∙ ap (λ (xs : List Part). xs ++ parts_at ms qs) (stage_parts first fs ps))
    ∙ (append_assoc (first.parts ++ parts_at fs ps) (parts_at ms qs) (parts_at vs rs)
    ∙ append_assoc first.parts (parts_at fs ps) (parts_at ms qs ++ parts_at vs rs)))

-- the row of the class, and its class subobjects
pub record IsRowWithParts (h : Classes) (c : ClassId) (rows : List ClassLayout) (known : List Known) (ps : List Primary) (class : Class) (has_pointer : Bool) (row : ClassLayout) (parts : List Part) : Type 0 where
  pub is : IsClassRow h c rows known ps class has_pointer row
  pub parts_are : parts ≡ row_parts h c rows known ps class row

-- the row with the virtual bases' places is the row of the class
row_here : (h : Classes) (c : ClassId) (class : Class) (rows : List ClassLayout) (known : List Known) (members : List (List Part)) (ps : List Primary) (list : List Subobject) (holders : List (Option ℕ)) (has_pointer : Bool) (a : Arrangement) (base_places places : List ℕ) (held : List (Option Subobject))
    → IsHierarchy h → IsLayoutScene h c rows known members ps list holders → class_at h c ≡ Some class → IsPossible h c (primary_of ps c) → IsOneOrOther (primary_of ps c) has_pointer → AreSmaller c known
    → IsArranged (start_stage c has_pointer) (components_by h rows known ps c (fronts ps c class)) (members_by rows known class) (components_by h rows known ps c (free_bases h ps c)) (pod_kind (pods_in known) class) a
    → base_places ≡ own_places (fronts ps c class) a.front_places class.bases
    → AreVirtualPlaces h (rows ++ row_from a (primary_of ps c) base_places [] [] [] ∷ []) list holders (free_table c.0 (free_bases h ps c) a.free_places) (virtual_bases h c) places
    → held ≡ map (λ (v : ClassId). held_at list (get_or holders v.0 None)) (virtual_bases h c)
    → IsRowWithParts h c rows known ps class has_pointer (row_from a (primary_of ps c) base_places (virtual_bases h c) places held) a.parts
row_here h c class rows known members ps list holders has_pointer a base_places places held keeps scene e possible pointer smaller arranged are virtuals held_are = record {
  is = record {
    primary = refl;
    placed = subst (λ ns. IsLayoutBy first fs ms vs ns (map (placed_place h (rows ++ s ∷ []) c) (free_bases h ps c)) pod s) (sym by.fronts_are)
        (subst (λ ns. IsLayoutBy first fs ms vs a.front_places ns pod s) (sym by.frees_are) (arranged.laid (primary_of ps c) base_places (virtual_bases h c) places held));
    bases = are ∙ ap (λ ns. own_places (fronts ps c class) ns class.bases) (sym by.fronts_are);
    each_base = ap (λ (ns : List ℕ). length ns) are ∙ length-map (filter is_plain_base class.bases) (λ (base : Base ClassId). own_place (fronts ps c class) a.front_places base.class);
    virtuals = refl;
    each_virtual = ap (λ (ns : List ℕ). length ns) virtuals.are ∙ length-map (virtual_bases h c) (λ (v : ClassId). get_or virtuals.table v.0 0);
    holders = held_are ∙ holders_are h ps c list holders keeps scene.tells scene.holders_are;
    held = λ v holder has is. held_place h ps rows c r s (free_table c.0 (free_bases h ps c) a.free_places) virtuals.table keeps refl there refl virtuals.are (scene_table h c rows (rows ++ r ∷ []) known members ps list holders a.free_places places scene virtuals) v holder has is;
  };
  parts_are = arranged.parts ∙ (parts_of_stage first fs ms vs a.front_places a.member_places a.free_places
      ∙ ap (λ ns. placed_part c 0 ∷ (parts_at fs ns ++ (parts_at ms a.member_places ++ parts_at vs a.free_places))) (sym by.fronts_are)
      ∙ ap (λ ns. placed_part c 0 ∷ (parts_at fs (map (placed_place h (rows ++ s ∷ []) c) (fronts ps c class)) ++ (parts_at ms a.member_places ++ parts_at vs ns))) (sym by.frees_are));
}
  where
    first : Stage
    first = start_stage c has_pointer

    fs : List Component
    fs = components_by h rows known ps c (fronts ps c class)

    ms : List Component
    ms = members_by rows known class

    vs : List Component
    vs = components_by h rows known ps c (free_bases h ps c)

    pod : Bool
    pod = pod_kind (pods_in known) class

    r : ClassLayout
    r = row_from a (primary_of ps c) base_places [] [] []

    s : ClassLayout
    s = row_from a (primary_of ps c) base_places (virtual_bases h c) places held

    there : slice_get (rows ++ s ∷ []) c.0 ≡ Some s
    there = ap (slice_get (rows ++ s ∷ [])) (sym scene.row_each) ∙ last_one rows s

    by : ArePlacesBy h c (rows ++ s ∷ []) ps class a.front_places a.free_places
    by = places_by h c class rows known members ps list holders has_pointer a r s keeps scene e possible pointer smaller (arranged.laid (primary_of ps c) base_places [] [] []) are virtuals refl refl

-- the same for the primary base that the list of primary bases has
pub row_is : (h : Classes) (c : ClassId) (class : Class) (rows : List ClassLayout) (known : List Known) (members : List (List Part)) (ps : List Primary) (list : List Subobject) (holders : List (Option ℕ)) (primary : Primary) (has_pointer : Bool) (a : Arrangement) (base_places places : List ℕ) (held : List (Option Subobject))
    → IsHierarchy h → IsLayoutScene h c rows known members ps list holders → class_at h c ≡ Some class → primary_of ps c ≡ primary → IsPossible h c primary → IsOneOrOther primary has_pointer → AreSmaller c known
    → IsArranged (start_stage c has_pointer) (components_by h rows known ps c (front_bases primary class.bases)) (members_by rows known class) (components_by h rows known ps c (free_bases h ps c)) (pod_kind (pods_in known) class) a
    → base_places ≡ own_places (front_bases primary class.bases) a.front_places class.bases
    → AreVirtualPlaces h (rows ++ row_from a primary base_places [] [] [] ∷ []) list holders (free_table c.0 (free_bases h ps c) a.free_places) (virtual_bases h c) places
    → held ≡ map (λ (v : ClassId). held_at list (get_or holders v.0 None)) (virtual_bases h c)
    → IsRowWithParts h c rows known ps class has_pointer (row_from a primary base_places (virtual_bases h c) places held) a.parts
row_is h c class rows known members ps list holders primary has_pointer a base_places places held keeps scene e own =
    subst (λ (p : Primary). IsPossible h c p → IsOneOrOther p has_pointer → AreSmaller c known
    → IsArranged (start_stage c has_pointer) (components_by h rows known ps c (front_bases p class.bases)) (members_by rows known class) (components_by h rows known ps c (free_bases h ps c)) (pod_kind (pods_in known) class) a
    → base_places ≡ own_places (front_bases p class.bases) a.front_places class.bases
    → AreVirtualPlaces h (rows ++ row_from a p base_places [] [] [] ∷ []) list holders (free_table c.0 (free_bases h ps c) a.free_places) (virtual_bases h c) places
    → held ≡ map (λ (v : ClassId). held_at list (get_or holders v.0 None)) (virtual_bases h c)
    → IsRowWithParts h c rows known ps class has_pointer (row_from a p base_places (virtual_bases h c) places held) a.parts) own
    (row_here h c class rows known members ps list holders has_pointer a base_places places held keeps scene e)

-- a write to the last item
pub set_last : {X : Type 0} (xs : List X) (x y : X) (i : ℕ) → i ≡ length xs → slice_set (xs ++ x ∷ []) i y ≡ xs ++ y ∷ []
set_last [] x y zero e = refl
set_last [] x y (suc i) e = absurd (omega arith)
set_last (z ∷ xs) x y zero e = absurd (omega arith)
set_last (z ∷ xs) x y (suc i) e = ap (λ ys. z ∷ ys) (set_last xs x y i (omega arith))

-- what is known of a class whose bases are placed
pub record IsClassPlaced (h : Classes) (c : ClassId) (class : Class) (rows : List ClassLayout) (known : List Known) (members : List (List Part)) (ps : List Primary) (list : List Subobject) (holders : List (Option ℕ)) (primary : Primary) (has_pointer : Bool) (a : Arrangement) (base_places : List ℕ) : Type 0 where
  pub keeps : IsHierarchy h
  pub scene : IsLayoutScene h c rows known members ps list holders
  pub sized : AreAllSized rows known
  pub there : class_at h c ≡ Some class
  pub own : primary_of ps c ≡ primary
  pub arranged : IsArranged (start_stage c has_pointer) (components_by h rows known ps c (front_bases primary class.bases)) (members_by rows known class) (components_by h rows known ps c (free_bases h ps c)) (pod_kind (pods_in known) class) a
  pub within : IsWithinLimit a
  pub bases : base_places ≡ own_places (front_bases primary class.bases) a.front_places class.bases
  pub brings : a.member_parts ≡ parts_at (members_by rows known class) a.member_places
  pub fronts_apart : SomeRepeats (components_by h rows known ps c (front_bases primary class.bases)) → ⊥
  pub frees_apart : SomeRepeats (components_by h rows known ps c (free_bases h ps c)) → ⊥

-- the same where the rows are read through a copy of their list
pub class_placed_by : (h : Classes) (c : ClassId) (class : Class) (rows copy : List ClassLayout) (known : List Known) (members : List (List Part)) (ps : List Primary) (list : List Subobject) (holders : List (Option ℕ)) (primary : Primary) (has_pointer : Bool) (a : Arrangement) (base_places : List ℕ)
    → copy ≡ rows → IsHierarchy h → IsLayoutScene h c rows known members ps list holders → AreAllSized rows known → class_at h c ≡ Some class → primary_of ps c ≡ primary
    → IsArranged (start_stage c has_pointer) (components_by h copy known ps c (front_bases primary class.bases)) (members_by copy known class) (components_by h copy known ps c (free_bases h ps c)) (pod_kind (pods_in known) class) a
    → IsWithinLimit a → base_places ≡ own_places (front_bases primary class.bases) a.front_places class.bases → a.member_parts ≡ parts_at (members_by copy known class) a.member_places
    → (SomeRepeats (components_by h copy known ps c (front_bases primary class.bases)) → ⊥) → (SomeRepeats (components_by h copy known ps c (free_bases h ps c)) → ⊥)
    → IsClassPlaced h c class rows known members ps list holders primary has_pointer a base_places
class_placed_by h c class rows copy known members ps list holders primary has_pointer a base_places same keeps scene sized there own arranged within bases brings fronts_apart frees_apart =
    subst (λ (xs : List ClassLayout). IsLayoutScene h c xs known members ps list holders → AreAllSized xs known → IsClassPlaced h c class xs known members ps list holders primary has_pointer a base_places) same
    (λ scene_here sized_here. record {
      keeps = keeps;
      scene = scene_here;
      sized = sized_here;
      there = there;
      own = own;
      arranged = arranged;
      within = within;
      bases = bases;
      brings = brings;
      fronts_apart = fronts_apart;
      frees_apart = frees_apart;
    }) scene sized

-- what the virtual bases' places need, along equations of lists
pub can_by : (h : Classes) (c : ClassId) (class : Class) (rows items : List ClassLayout) (known : List Known) (members : List (List Part)) (ps : List Primary) (list : List Subobject) (holders table : List (Option ℕ)) (primary : Primary) (has_pointer : Bool) (a : Arrangement) (base_places : List ℕ)
    → IsClassPlaced h c class rows known members ps list holders primary has_pointer a base_places → items ≡ rows ++ row_from a primary base_places [] [] [] ∷ [] → table ≡ holders → CanSettle h items list table
can_by h c class rows items known members ps list holders table primary has_pointer a base_places o e t =
    subst (λ (xs : List (Option ℕ)). CanSettle h items list xs) (sym t) (subst (λ (xs : List ClassLayout). CanSettle h xs list holders) (sym e)
    (class_placed_can h c class rows known members ps list holders primary has_pointer a base_places o.keeps o.scene o.sized o.there o.own o.arranged o.within o.bases))

pub room_by : (h : Classes) (c : ClassId) (class : Class) (rows items : List ClassLayout) (known : List Known) (members : List (List Part)) (ps : List Primary) (list : List Subobject) (holders : List (Option ℕ)) (primary : Primary) (has_pointer : Bool) (a : Arrangement) (base_places : List ℕ) (free : List PlacedBase) (free_places : List ℕ)
    → IsClassPlaced h c class rows known members ps list holders primary has_pointer a base_places → items ≡ rows ++ row_from a primary base_places [] [] [] ∷ [] → free ≡ free_bases h ps c → free_places ≡ a.free_places → EndsWithinLimit items (free_table c.0 free free_places)
room_by h c class rows items known members ps list holders primary has_pointer a base_places free free_places o e f p =
    subst (λ (xs : List ClassLayout). EndsWithinLimit xs (free_table c.0 free free_places)) (sym e) (subst (λ (bs : List PlacedBase). EndsWithinLimit (rows ++ row_from a primary base_places [] [] [] ∷ []) (free_table c.0 bs free_places)) (sym f)
    (subst (λ ns. EndsWithinLimit (rows ++ row_from a primary base_places [] [] [] ∷ []) (free_table c.0 (free_bases h ps c) ns)) (sym p)
    (class_placed_room h c class rows known members ps list holders primary has_pointer a base_places o.keeps o.scene o.sized o.there o.own o.arranged o.within o.bases)))

-- the virtual places by equal lists
pub virtuals_by : (h : Classes) (c : ClassId) (rows items : List ClassLayout) (list : List Subobject) (holders table : List (Option ℕ)) (free bs : List PlacedBase) (free_places ns : List ℕ) (vs ws : List ClassId) (places : List ℕ) → items ≡ rows → table ≡ holders → free ≡ bs → free_places ≡ ns → vs ≡ ws
    → AreVirtualPlaces h items list table (free_table c.0 free free_places) vs places → AreVirtualPlaces h rows list holders (free_table c.0 bs ns) ws places
virtuals_by h c rows items list holders table free bs free_places ns vs ws places e t f p v are =
    subst (λ (xs : List ClassId). AreVirtualPlaces h rows list holders (free_table c.0 bs ns) xs places) v
    (subst (λ xs. AreVirtualPlaces h rows list holders (free_table c.0 bs xs) vs places) p
    (subst (λ (xs : List PlacedBase). AreVirtualPlaces h rows list holders (free_table c.0 xs free_places) vs places) f
    (subst (λ (xs : List (Option ℕ)). AreVirtualPlaces h rows list xs (free_table c.0 free free_places) vs places) t
    (subst (λ (xs : List ClassLayout). AreVirtualPlaces h xs list table (free_table c.0 free free_places) vs places) e are))))

-- the row of the class, and what else is known of it
pub row_added : (h : Classes) (c : ClassId) (class : Class) (rows items new : List ClassLayout) (known : List Known) (members : List (List Part)) (ps : List Primary) (list : List Subobject) (holders : List (Option ℕ)) (primary : Primary) (has_pointer : Bool) (a : Arrangement) (base_places places : List ℕ) (vs : List ClassId) (held : List (Option Subobject)) (empty pod : Bool) (parts brought : List Part)
    → IsClassPlaced h c class rows known members ps list holders primary has_pointer a base_places → IsPossible h c primary → IsOneOrOther primary has_pointer → AreSmaller c known
    → AreVirtualPlaces h (rows ++ row_from a primary base_places [] [] [] ∷ []) list holders (free_table c.0 (free_bases h ps c) a.free_places) (virtual_bases h c) places
    → vs ≡ virtual_bases h c → held ≡ map (λ (v : ClassId). held_at list (get_or holders v.0 None)) vs
    → items ≡ rows ++ row_from a primary base_places [] [] [] ∷ []
    → ((row : ClassLayout) → slice_get items c.0 ≡ Some row → new ≡ slice_set items c.0 (filled_row row vs places held))
    → empty ≡ empty_kind (empties_in known) class → pod ≡ pod_kind (pods_in known) class → parts ≡ a.parts → brought ≡ a.member_parts
    → IsRowAdded h c rows known ps class has_pointer new (record { known = record { is_empty = empty; is_pod = pod; parts = parts }; members = brought })
row_added h c class rows items new known members ps list holders primary has_pointer a base_places places vs held empty pod parts brought o possible pointer smaller virtuals v held_are e filled is_empty is_pod parts_are brought_are =
    let r = row_from a primary base_places [] [] [] in
    let s = row_from a primary base_places (virtual_bases h c) places held in
    let each = sym o.scene.row_each in
    let there : slice_get items c.0 ≡ Some r = ap (λ (xs : List ClassLayout). slice_get xs c.0) e ∙ (ap (slice_get (rows ++ r ∷ [])) each ∙ last_one rows r) in
    let by = row_is h c class rows known members ps list holders primary has_pointer a base_places places held o.keeps o.scene o.there o.own possible pointer smaller o.arranged o.bases virtuals (held_are ∙ ap (map (λ (x : ClassId). held_at list (get_or holders x.0 None))) v) in
    record {
      row = s;
      rows_are = filled r there ∙ (ap (λ (xs : List ClassLayout). slice_set xs c.0 (filled_row r vs places held)) e
          ∙ (set_last rows r (filled_row r vs places held) c.0 each
          ∙ ap (λ (xs : List ClassId). rows ++ filled_row r xs places held ∷ []) v));
      is = by.is;
      is_empty = is_empty;
      is_pod = is_pod;
      parts = parts_are ∙ by.parts_are;
      members = brought_are ∙ o.brings;
      sized = record { align = o.within.align; nvalign = o.within.nvalign; nvsize = o.within.nvsize; size = o.within.size; parts = subst (LieUpTo a.size) (sym parts_are) o.within.parts };
      within = subst (LieUpTo a.nvsize) (sym brought_are) o.within.members;
      fronts_apart = subst (λ (p : Primary). SomeRepeats (components_by h rows known ps c (front_bases p class.bases)) → ⊥) (sym o.own) o.fronts_apart;
      frees_apart = o.frees_apart;
    }
