-- The components of the next class have an arrangement.
use Rattle.std.proofs.Common.{◌≡◌, ℕ, ◌≤◌, Bool, true, false, Option, Some, None, List, [], ◌∷◌, map, length, refl, arith}
use Rattle.std.specs.Prelude.{if◌then◌else◌, max}
use Rattle.std.specs.List.{slice_get}
use Rattle.std.proofs.lemmas.Option.{slice_get_within}
use Rattle.cxx_hierarchy.specs.declared.records.ClassId.{ClassId}
use Rattle.cxx_hierarchy.specs.declared.records.Member.{Member}
use Rattle.cxx_hierarchy.specs.declared.records.FieldType.{FieldType}
use Rattle.cxx_hierarchy.specs.declared.records.FieldType.TheVariants.{Value, Object}
use Rattle.cxx_hierarchy.specs.Classes.{Classes}
use Rattle.abi_primary.specs.declared.Primary.{Primary}
use Rattle.abi_primary.specs.declared.Primary.TheVariants.{None as NoPrimary}
use Rattle.abi_layout.specs.declared.component.Component.{Component}
use Rattle.abi_layout.specs.declared.component.Stage.{Stage}
use Rattle.abi_layout.specs.declared.known.Known.{Known}
use Rattle.abi_sound.specs.declared.class_layout.ClassLayout.{ClassLayout}
use Rattle.abi_layout.specs.declared.placed_bases.PlacedBase.{PlacedBase}
use Rattle.abi_sound.specs.Places.{align_in, nvalign_in}
use Rattle.abi_layout.specs.Placements.{stage_after_all, bits_at, align_of_type, member_component}
use Rattle.abi_layout.specs.invariants.Known.{known_parts_of, AreAllSized}
use Rattle.abi_layout.specs.PlacedBases.{class_of_placed}
use Rattle.abi_layout.specs.Layouts.{IsLayoutBy}
use Rattle.abi_layout.specs.invariants.Arrangements.{components_by}
use Rattle.abi_layout.proofs.lists.Lists.{get_within, has_here, has_later}
use Rattle.abi_layout.proofs.rules.PlacingLemmas.{align_small}
use Rattle.abi_layout.proofs.algorithm.RowLemmas.{value_alignment, AreBitFields, bit_field_fits}
use Rattle.abi_layout.proofs.rules.Existence.{rounded, rounded_is_next, ArePositive, places_exist, align_grows}

nvalign_positive : (rows : List ClassLayout) (known : List Known) → AreAllSized rows known → length known ≡ length rows → (i : ℕ) (o : Option ClassLayout) → slice_get rows i ≡ o → 1 ≤ nvalign_in o
nvalign_positive rows known sized same i None e = omega arith
nvalign_positive rows known sized same i (Some row) e =
    let lt = slice_get_within rows i row e in
    let k = get_within known i (omega arith) in
    (align_small row.nvalign (sized.each i row k.0 e k.1).nvalign).0

align_positive : (rows : List ClassLayout) (known : List Known) → AreAllSized rows known → length known ≡ length rows → (i : ℕ) (o : Option ClassLayout) → slice_get rows i ≡ o → 1 ≤ align_in o
align_positive rows known sized same i None e = omega arith
align_positive rows known sized same i (Some row) e =
    let lt = slice_get_within rows i row e in
    let k = get_within known i (omega arith) in
    (align_small row.align (sized.each i row k.0 e k.1).align).0

type_positive : (rows : List ClassLayout) (known : List Known) → AreAllSized rows known → length known ≡ length rows → (type : FieldType ClassId) → 1 ≤ align_of_type rows type
type_positive rows known sized same (Value type) = (align_small _ (value_alignment type)).0
type_positive rows known sized same (Object d) = align_positive rows known sized same d.0 (slice_get rows d.0) refl

-- no alignment of a base or a member is 0
pub bases_positive : (h : Classes) (c : ClassId) (rows : List ClassLayout) (known : List Known) (ps : List Primary) → AreAllSized rows known → length known ≡ length rows → (bases : List PlacedBase) → ArePositive (components_by h rows known ps c bases)
bases_positive h c rows known ps sized same [] = tt
bases_positive h c rows known ps sized same (base ∷ bases) = (record { align = nvalign_positive rows known sized same (class_of_placed base).0 (slice_get rows (class_of_placed base).0) refl; width = λ n e. cc }, bases_positive h c rows known ps sized same bases)

pub members_positive : (rows : List ClassLayout) (known : List Known) → AreAllSized rows known → length known ≡ length rows → (members : List (Member ClassId)) → AreBitFields members → ArePositive (map (member_component rows (known_parts_of known)) members)
members_positive rows known sized same [] bits = tt
members_positive rows known sized same (member ∷ members) bits = (
  record { align = type_positive rows known sized same member.ty; width = λ n e. (bit_field_fits rows (known_parts_of known) member n (bits member n (has_here member members) e)).most },
  members_positive rows known sized same members (λ x n h e. bits x n (has_later member members x h) e),
)

-- a row by these components, and where they lie
pub record HasArranged (first : Stage) (fs ms vs : List Component) (pod : Bool) : Type 0 where
  pub front_places : List ℕ
  pub free_places : List ℕ
  pub row : ClassLayout
  pub laid : IsLayoutBy first fs ms vs front_places free_places pod row

-- components without an alignment of 0 have an arrangement
pub arranged_exists : (first : Stage) (fs ms vs : List Component) (pod : Bool) → 1 ≤ first.align → ArePositive fs → ArePositive ms → ArePositive vs → HasArranged first fs ms vs pod
arranged_exists first fs ms vs pod positive f m v =
    let front = places_exist first fs f in
    let behind = stage_after_all first fs front.places in
    let member = places_exist behind ms m in
    let middle = stage_after_all behind ms member.places in
    let free = places_exist middle vs v in
    let last = stage_after_all middle vs free.places in
    let above : 1 ≤ last.align =
    let x = align_grows first fs front.places in
    let y = align_grows behind ms member.places in
    let z = align_grows middle vs free.places in
    omega arith in
    let size = rounded (max 1 last.size) last.align in
    record {
      front_places = front.places;
      free_places = free.places;
      row = record { size = size; align = last.align; dsize = if pod then size else last.dsize; nvsize = if pod then size else middle.size; nvalign = middle.align; primary = NoPrimary; base_places = []; virtual_bases = []; virtual_places = []; holders = []; member_places = member.places; member_bits = bits_at behind ms member.places };
      laid = record { fronts_placed = front.placed; members_placed = member.placed; bits = refl; frees_placed = free.placed; nvalign = refl; nvsize = refl; align = refl; size = rounded_is_next (max 1 last.size) last.align above; dsize = refl };
    }

pub start_positive : (b : Bool) → 1 ≤ (if b then 8 else 1)
start_positive true = omega arith
start_positive false = omega arith
