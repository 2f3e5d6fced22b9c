-- A class has a row, by the rows of the classes before it.
use Rattle.std.proofs.Common.{◌≡◌, ℕ, ◌+◌, ◌≤◌, ⊎_elim, Bool, true, false, Some, List, [], ◌∷◌, ◌++◌, map, take, length, get_or, refl, ap, subst, sym, ◌∙◌, arith}
use Rattle.std.specs.Prelude.{if◌then◌else◌, max, filter}
use Rattle.std.specs.List.{slice_get}
use Rattle.std.proofs.lemmas.Bool.{cases_order}
use Rattle.std.proofs.lemmas.List.{length-map, get_or_past}
use Rattle.cxx_hierarchy.specs.declared.records.ClassId.{ClassId}
use Rattle.cxx_hierarchy.specs.declared.records.Base.{Base}
use Rattle.cxx_hierarchy.specs.declared.records.Member.{Member}
use Rattle.cxx_hierarchy.specs.declared.records.FieldType.{FieldType}
use Rattle.cxx_hierarchy.specs.declared.records.FieldType.TheVariants.{Value, Object}
use Rattle.cxx_hierarchy.specs.Classes.{Class, Classes, class_at}
use Rattle.cxx_hierarchy.specs.Hierarchies.{IsHierarchy}
use Rattle.cxx_hierarchy.specs.VirtualBases.{HasVirtualBase}
use Rattle.abi_emptybase.specs.declared.Part.{Part}
use Rattle.abi_primary.specs.declared.Primary.{Primary}
use Rattle.abi_primary.specs.declared.Primary.TheVariants.{None as NoPrimary, Virtual}
use Rattle.abi_primary.specs.PrimaryBase.{IsPrimary}
use Rattle.abi_primary.specs.Holder.{holder_of}
use Rattle.abi_layout.specs.declared.arrangement.Arrangement.{Arrangement}
use Rattle.abi_layout.specs.declared.component.Component.{Component}
use Rattle.abi_layout.specs.declared.component.Stage.{Stage}
use Rattle.abi_sound.specs.declared.class_layout.ClassLayout.{ClassLayout}
use Rattle.abi_layout.specs.declared.placed_bases.PlacedBase.{PlacedBase}
use Rattle.abi_layout.specs.declared.placed_bases.PlacedBase.TheVariants.{Own, VirtualBase}
use Rattle.abi_sound.specs.Sound.{Divides}
use Rattle.cxx_hierarchy.specs.Declarations.{is_plain_base}
use Rattle.abi_sound.specs.Places.{align_in, nvalign_in}
use Rattle.abi_layout.specs.Kinds.{is_empty, is_pod}
use Rattle.abi_layout.specs.Placements.{IsLeastFreePlace, behind, stage_after_all, bits_at, align_of_type, member_component}
use Rattle.cxx_subobject.specs.VirtualBases.{virtual_bases}
use Rattle.abi_layout.specs.PlacedBases.{free_bases, placed_component, subobject_of, IsPossible}
use Rattle.abi_layout.specs.invariants.OwnPlaces.{own_place, own_places}
use Rattle.abi_layout.specs.invariants.Arrangements.{row_from, IsArranged}
use Rattle.abi_layout.specs.invariants.Settled.{free_table}
use Rattle.abi_layout.specs.Layouts.{placed_place, primary_of, fronts, front_components, free_components, object_parts, start_stage, IsArrangedBy, HasPointer, IsLaidRow}
use Rattle.abi_layout.proofs.rules.Existence.{rounded, rounded_is_next, ArePositive, places_exist, align_grows}
use Rattle.abi_layout.proofs.rules.PlacingLemmas.{align_small}
use Rattle.abi_layout.proofs.lists.Positives.{value_align}
use Rattle.abi_layout.proofs.lists.LastItems.{last_one}
use Rattle.abi_layout.proofs.lists.Lists.{has_here, has_later}
use Rattle.abi_layout.proofs.algorithm.RowLemmas.{AreBitFields, bit_field_fits}
use Rattle.abi_layout.proofs.algorithm.SceneFits.{bit_fields}
use Rattle.cxx_subobject.proofs.PathLemmas.{virtual_below}
use Rattle.abi_layout.proofs.sound.ObjectStarts.{AreUnder, objects_fall, brought_under, no_conflict}
use Rattle.abi_layout.proofs.rules.RowPlacesTable.{held_place}
use Rattle.abi_layout.proofs.rules.RowPlacesFree.{table_length}
use Rattle.abi_layout.proofs.rules.RowPlacesFinal.{ArePlacesBy, places_from}
use Rattle.abi_layout.proofs.rules.AgreeingRows.{AgreeTo, agree_push}
use Rattle.abi_layout.proofs.rules.AgreeingParts.{ArePossible, before_by}
use Rattle.abi_layout.proofs.rules.AgreeingClasses.{arranged_agrees}
use Rattle.abi_layout.proofs.rules.SomeLayoutTable.{HasVirtualTable, virtual_table_exists}

-- an arrangement of components
pub record HasArrangement (first : Stage) (fs ms vs : List Component) (pod : Bool) : Type 0 where
  pub arrangement : Arrangement
  pub arranged : IsArranged first fs ms vs pod arrangement

-- components with alignments that are not 0 can be arranged
pub arrangement_exists : (first : Stage) (fs ms vs : List Component) (pod : Bool) → 1 ≤ first.align → ArePositive fs → ArePositive ms → ArePositive vs → HasArrangement first fs ms vs pod
arrangement_exists first fs ms vs pod positive f m v =
    let front = places_exist first fs f in
    let after_fronts = stage_after_all first fs front.places in
    let member = places_exist after_fronts ms m in
    let mid = stage_after_all after_fronts ms member.places in
    let free = places_exist mid vs v in
    let last = stage_after_all mid vs free.places in
    let above : 1 ≤ last.align = let x = align_grows first fs front.places in let y = align_grows after_fronts ms member.places in let z = align_grows mid vs free.places in omega arith in
    let size = rounded (max 1 last.size) last.align in
    record {
      arrangement = record {
        front_places = front.places;
        member_places = member.places;
        member_bits = bits_at after_fronts ms member.places;
        free_places = free.places;
        size = size;
        align = last.align;
        dsize = if pod then size else last.dsize;
        nvsize = if pod then size else mid.size;
        nvalign = mid.align;
        parts = last.parts;
        member_parts = [];
      };
      arranged = record {
        laid = λ primary base_places bases places holders. record {
          fronts_placed = front.placed;
          members_placed = member.placed;
          bits = refl;
          frees_placed = free.placed;
          nvalign = refl;
          nvsize = refl;
          align = refl;
          size = rounded_is_next (max 1 last.size) last.align above;
          dsize = refl;
        };
        parts = refl;
      };
    }

-- the classes before c have rows, and these and c have primary bases
pub record IsReady (h : Classes) (c : ClassId) (class : Class) (rows : List ClassLayout) (ps : List Primary) (has_pointer : Bool) : Type 0 where
  pub keeps : IsHierarchy h
  pub there : class_at h c ≡ Some class
  pub row_each : length rows ≡ c.0
  pub primary_each : length ps ≡ c.0 + 1
  pub possible : ArePossible h (c.0 + 1) ps
  pub without : (v : ClassId) → primary_of ps c ≡ Virtual v → has_pointer ≡ false
  pub nvaligns : (i : ℕ) → 1 ≤ nvalign_in (slice_get rows i)
  pub aligns : (i : ℕ) → 1 ≤ align_in (slice_get rows i)

placed_positive : (h : Classes) (rows : List ClassLayout) (ps : List Primary) (parts : ClassId → List Part) (c : ClassId) → ((i : ℕ) → 1 ≤ nvalign_in (slice_get rows i)) → (bases : List PlacedBase) → ArePositive (map (placed_component (is_empty h) h rows ps parts c) bases)
placed_positive h rows ps parts c each [] = tt
placed_positive h rows ps parts c each (Own b ∷ bases) = (record { align = each b.0; width = λ n e. cc }, placed_positive h rows ps parts c each bases)
placed_positive h rows ps parts c each (VirtualBase v ∷ bases) = (record { align = each v.0; width = λ n e. cc }, placed_positive h rows ps parts c each bases)

type_positive : (rows : List ClassLayout) → ((i : ℕ) → 1 ≤ align_in (slice_get rows i)) → (type : FieldType ClassId) → 1 ≤ align_of_type rows type
type_positive rows each (Value type) = (align_small _ (value_align type)).0
type_positive rows each (Object d) = each d.0

members_positive : (rows : List ClassLayout) (parts : ClassId → List Part) → ((i : ℕ) → 1 ≤ align_in (slice_get rows i)) → (ms : List (Member ClassId)) → AreBitFields ms → ArePositive (map (member_component rows parts) ms)
members_positive rows parts each [] bits = tt
members_positive rows parts each (m ∷ ms) bits = (
  record { align = type_positive rows each m.ty; width = λ n e. (bit_field_fits rows parts m n (bits m n (has_here m ms) e)).most },
  members_positive rows parts each ms (λ x n h e. bits x n (has_later m ms x h) e),
)

pub start_positive : (c : ClassId) (b : Bool) → 1 ≤ (start_stage c b).align
start_positive c true = omega arith
start_positive c false = omega arith

-- the components of class c are arranged so
abbrev pub IsClassArranged : Classes → List ClassLayout → List Primary → ClassId → Class → Bool → Arrangement → Type 0
IsClassArranged h rows ps c class has_pointer a =
    IsArranged (start_stage c has_pointer) (front_components h rows ps (object_parts h rows ps) c class) (map (member_component rows (object_parts h rows ps)) class.members) (free_components h rows ps (object_parts h rows ps) c) (is_pod h c) a

-- the components of a class can be arranged
pub class_arranged : (h : Classes) (c : ClassId) (class : Class) (rows : List ClassLayout) (ps : List Primary) (has_pointer : Bool) → IsReady h c class rows ps has_pointer
    → HasArrangement (start_stage c has_pointer) (front_components h rows ps (object_parts h rows ps) c class) (map (member_component rows (object_parts h rows ps)) class.members) (free_components h rows ps (object_parts h rows ps) c) (is_pod h c)
class_arranged h c class rows ps has_pointer ready =
    arrangement_exists (start_stage c has_pointer) (front_components h rows ps (object_parts h rows ps) c class) (map (member_component rows (object_parts h rows ps)) class.members) (free_components h rows ps (object_parts h rows ps) c) (is_pod h c)
    (start_positive c has_pointer) (placed_positive h rows ps (object_parts h rows ps) c ready.nvaligns (fronts ps c class)) (members_positive rows (object_parts h rows ps) ready.aligns class.members (bit_fields h c class ready.keeps ready.there)) (placed_positive h rows ps (object_parts h rows ps) c ready.nvaligns (free_bases h ps c))

-- primary bases of the first classes, and of none behind them
pub each_possible : (h : Classes) (n : ℕ) (ps : List Primary) → length ps ≡ n → ArePossible h n ps → (c : ClassId) → IsPossible h c (primary_of ps c)
each_possible h n ps size possible c = ⊎_elim
    (λ e. past (omega arith))
    (λ o. ⊎_elim (λ lt. possible.each c lt) (λ gt. past (omega arith)) o)
    (cases_order c.0 n)
  where
    past : n ≤ c.0 → IsPossible h c (primary_of ps c)
    past le = let e : primary_of ps c ≡ NoPrimary = get_or_past ps c.0 NoPrimary (omega arith) in subst (IsPossible h c) (sym e) tt

-- a virtual primary base lies at the start of its class
virtual_at_start : (h : Classes) (c : ClassId) (class : Class) (rows : List ClassLayout) (ps : List Primary) (has_pointer : Bool) → IsReady h c class rows ps has_pointer → (v : ClassId) (p : ℕ) → primary_of ps c ≡ Virtual v
    → IsLeastFreePlace (start_stage c has_pointer) (placed_component (is_empty h) h rows ps (object_parts h rows ps) c (VirtualBase v)) p → p ≡ 0
virtual_at_start h c class rows ps has_pointer ready v p is place =
    let f : PlacedBase → Component = placed_component (is_empty h) h rows ps (object_parts h rows ps) c in
    let before = before_by h (c.0 + 1) ps ready.keeps ready.primary_each ready.possible in
    let has : HasVirtualBase h c v = subst (IsPossible h c) is (ready.possible.each c (omega arith)) in
    let lt = virtual_below h ready.keeps c v has in
    let under : AreUnder (v.0 + 1) (f (VirtualBase v)).parts = brought_under h rows ps (object_parts h rows ps) c ready.keeps before
    (λ d. objects_fall h rows ps ready.keeps before (λ e k at. each_possible h (c.0 + 1) ps ready.primary_each ready.possible e) (d.0 + 1) d) (v.0 + 1) (subobject_of c (VirtualBase v)) v in
    let first = subst (λ b. IsLeastFreePlace (start_stage c b) (f (VirtualBase v)) p) (ready.without v is) place in
    let multiple : Divides (f (VirtualBase v)).align 0 = record { times = 0; is = omega arith } in
    let le = first.least 0 (behind 0 (omega arith) multiple) (no_conflict c (v.0 + 1) 0 (f (VirtualBase v)).parts (omega arith) under) in
    omega arith

-- the row of a class, by the rows of the classes before it
pub record HasNextRow (h : Classes) (c : ClassId) (class : Class) (rows : List ClassLayout) (nearly : List Bool) (ps : List Primary) : Type 0 where
  pub row : ClassLayout
  pub is : IsLaidRow h (rows ++ row ∷ []) nearly ps c class row

-- an arrangement gives the row
pub row_of_arrangement : (h : Classes) (c : ClassId) (class : Class) (rows : List ClassLayout) (nearly : List Bool) (ps : List Primary) (has_pointer : Bool) (a : Arrangement) → IsReady h c class rows ps has_pointer → IsPrimary h nearly (take c.0 ps) c (primary_of ps c) → HasPointer h ps c has_pointer
    → IsClassArranged h rows ps c class has_pointer a → HasNextRow h c class rows nearly ps
row_of_arrangement h c class rows nearly ps has_pointer a ready is_primary pointer arranged = record {
  row = s;
  is = record {
    is_primary = is_primary;
    primary = refl;
    has_pointer = has_pointer;
    pointer = pointer;
    placed = subst (λ ns. IsArrangedBy h (rows ++ s ∷ []) ps c class has_pointer ns (map (placed_place h (rows ++ s ∷ []) c) (free_bases h ps c)) s) (sym by.fronts_are)
        (subst (λ ns. IsArrangedBy h (rows ++ s ∷ []) ps c class has_pointer a.front_places ns s) (sym by.frees_are)
        (arranged_agrees h rows (rows ++ s ∷ []) ps ps c class has_pointer a.front_places a.free_places s ready.keeps ready.there agree alike ready.possible (arranged.laid (primary_of ps c) base_places (virtual_bases h c) places (map (holder_of h ps c) (virtual_bases h c)))));
    each_base = length-map (filter is_plain_base class.bases) (λ (base : Base ClassId). own_place (fronts ps c class) a.front_places base.class);
    virtuals = refl;
    each_virtual = length-map (virtual_bases h c) (λ (v : ClassId). get_or made.table v.0 0);
    holders = refl;
    held = λ v holder has is. held_place h ps rows c r s old made.table ready.keeps refl there refl refl made.is v holder has is;
  };
}
  where
    base_places : List ℕ
    base_places = own_places (fronts ps c class) a.front_places class.bases

    old : List ℕ
    old = free_table c.0 (free_bases h ps c) a.free_places

    r : ClassLayout
    r = row_from a (primary_of ps c) base_places [] [] []

    made : HasVirtualTable h ps c (rows ++ r ∷ []) old
    made = virtual_table_exists h ps c (rows ++ r ∷ []) old ready.keeps ready.possible (table_length c.0 (free_bases h ps c) a.free_places)

    places : List ℕ
    places = map (λ (v : ClassId). get_or made.table v.0 0) (virtual_bases h c)

    s : ClassLayout
    s = row_from a (primary_of ps c) base_places (virtual_bases h c) places (map (holder_of h ps c) (virtual_bases h c))

    there : slice_get (rows ++ s ∷ []) c.0 ≡ Some s
    there = ap (slice_get (rows ++ s ∷ [])) (sym ready.row_each) ∙ last_one rows s

    by : ArePlacesBy h c (rows ++ s ∷ []) ps class a.front_places a.free_places
    by = places_from h c class rows ps (start_stage c has_pointer) (placed_component (is_empty h) h rows ps (object_parts h rows ps) c) (map (member_component rows (object_parts h rows ps)) class.members) (is_pod h c) a r s made.table ready.keeps ready.row_each ready.there (ready.possible.each c (omega arith))
        (virtual_at_start h c class rows ps has_pointer ready) (arranged.laid (primary_of ps c) base_places [] [] []) refl made.is refl refl refl

    agree : AgreeTo c.0 rows (rows ++ s ∷ [])
    agree = let e = ready.row_each in agree_push c.0 rows s (omega arith)

    alike : AgreeTo (c.0 + 1) ps ps
    alike = record { each = λ i lt. refl }

-- every class has a row
pub row_exists : (h : Classes) (c : ClassId) (class : Class) (rows : List ClassLayout) (nearly : List Bool) (ps : List Primary) (has_pointer : Bool) → IsReady h c class rows ps has_pointer → IsPrimary h nearly (take c.0 ps) c (primary_of ps c) → HasPointer h ps c has_pointer → HasNextRow h c class rows nearly ps
row_exists h c class rows nearly ps has_pointer ready is_primary pointer =
    let made = class_arranged h c class rows ps has_pointer ready in
    row_of_arrangement h c class rows nearly ps has_pointer made.arrangement ready is_primary pointer made.arranged
