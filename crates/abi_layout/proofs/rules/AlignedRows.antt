-- The alignments of a layout are those of LP64.
use Rattle.std.proofs.Common.{◌≡◌, ℕ, zero, suc, ◌+◌, ◌<◌, ◌≤◌, ⊎_elim, Bool, true, false, Option, Some, None, List, [], ◌∷◌, map, length, refl, subst, sym, arith}
use Rattle.std.specs.Prelude.{All}
use Rattle.std.specs.List.{slice_get, Contains}
use Rattle.std.proofs.lemmas.Bool.{cases_order}
use Rattle.std.proofs.lemmas.Option.{slice_get_within}
use Rattle.std.proofs.lemmas.List.Elements.{All-head, All-tail}
use Rattle.cxx_hierarchy.specs.declared.records.ClassId.{ClassId}
use Rattle.cxx_hierarchy.specs.declared.records.Member.{Member}
use Rattle.cxx_hierarchy.specs.declared.records.FieldType.{FieldType}
use Rattle.cxx_hierarchy.specs.declared.records.FieldType.TheVariants.{Value, Object}
use Rattle.cxx_hierarchy.specs.Classes.{Class, Classes, class_at, members_in}
use Rattle.cxx_hierarchy.specs.Hierarchies.{IsHierarchy}
use Rattle.abi_emptybase.specs.declared.Part.{Part}
use Rattle.abi_primary.specs.declared.Primary.{Primary}
use Rattle.abi_sound.specs.declared.class_layout.ClassLayout.{ClassLayout}
use Rattle.abi_sound.specs.Places.{align_in, nvalign_in}
use Rattle.abi_layout.specs.declared.component.Component.{Component}
use Rattle.abi_layout.specs.declared.component.Stage.{Stage}
use Rattle.abi_layout.specs.declared.placed_bases.PlacedBase.{PlacedBase}
use Rattle.abi_layout.specs.Limits.{IsAlignment, byte, eight_bytes}
use Rattle.abi_layout.specs.AbiLayouts.{IsAlignedRow}
use Rattle.abi_layout.specs.Kinds.{is_empty}
use Rattle.abi_layout.specs.Placements.{stage_after, stage_after_all, align_of_type, member_component}
use Rattle.abi_layout.specs.PlacedBases.{class_of_placed, free_bases, placed_component, IsPossible}
use Rattle.abi_layout.specs.Layouts.{primary_of, placed_place, fronts, front_components, free_components, object_parts, start_stage, IsLaidRow, IsLaidBy}
use Rattle.abi_layout.proofs.lists.Lists.{number, get_within, has_here, has_later}
use Rattle.abi_layout.proofs.lists.Positives.{value_align, greater_align}
use Rattle.abi_layout.proofs.algorithm.PlacedClassLemmas.{fronts_below, frees_below}
use Rattle.abi_layout.proofs.rules.AgreeingClasses.{laid_possible}

-- the alignments of the classes before n
record AreAlignedTo (rows : List ClassLayout) (n : ℕ) : Type 0 where
  align : (d : ℕ) → d < n → IsAlignment (align_in (slice_get rows d))
  nvalign : (d : ℕ) → d < n → IsAlignment (nvalign_in (slice_get rows d))

abbrev AllAligned : List Component → Type 0
AllAligned [] = Unit {0}
AllAligned (c ∷ cs) = IsAlignment c.align × AllAligned cs

-- the alignment of a stage behind components
stage_aligned : (stage : Stage) (cs : List Component) (ps : List ℕ) → IsAlignment stage.align → AllAligned cs → IsAlignment (stage_after_all stage cs ps).align
stage_aligned stage [] ps start all = start
stage_aligned stage (c ∷ cs) [] start all = start
stage_aligned stage (c ∷ cs) (p ∷ ps) start all = stage_aligned (stage_after stage c p) cs ps (greater_align stage.align c.align start all.0) all.1

bases_aligned : (h : Classes) (rows : List ClassLayout) (ps : List Primary) (parts : ClassId → List Part) (c : ClassId) → AreAlignedTo rows c.0 → (bases : List PlacedBase) → All (λ (base : PlacedBase). (class_of_placed base).0 < c.0) bases
    → AllAligned (map (placed_component (is_empty h) h rows ps parts c) bases)
bases_aligned h rows ps parts c before [] below = tt
bases_aligned h rows ps parts c before (base ∷ bases) below = (
  before.nvalign (class_of_placed base).0 (All-head (λ (base : PlacedBase). (class_of_placed base).0 < c.0) base bases below),
  bases_aligned h rows ps parts c before bases (All-tail (λ (base : PlacedBase). (class_of_placed base).0 < c.0) base bases below),
)

type_aligned : (rows : List ClassLayout) (n : ℕ) (type : FieldType ClassId) → AreAlignedTo rows n → ((d : ClassId) → type ≡ Object d → d.0 < n) → IsAlignment (align_of_type rows type)
type_aligned rows n (Value type) before falls = value_align type
type_aligned rows n (Object d) before falls = before.align d.0 (falls d refl)

members_aligned : (rows : List ClassLayout) (parts : ClassId → List Part) (n : ℕ) (members : List (Member ClassId)) → AreAlignedTo rows n → ((m : Member ClassId) (d : ClassId) → Contains members m → m.ty ≡ Object d → d.0 < n)
    → AllAligned (map (member_component rows parts) members)
members_aligned rows parts n [] before falls = tt
members_aligned rows parts n (m ∷ members) before falls = (
  type_aligned rows n m.ty before (λ d e. falls m d (has_here m members) e),
  members_aligned rows parts n members before (λ x d has e. falls x d (has_later m members x has) e),
)

start_aligned : (c : ClassId) (has_pointer : Bool) → IsAlignment (start_stage c has_pointer).align
start_aligned c true = eight_bytes
start_aligned c false = byte

-- a row, where the rows before are aligned
row_aligned : (h : Classes) (rows : List ClassLayout) (nearly : List Bool) (ps : List Primary) (c : ClassId) (class : Class) (row : ClassLayout) → IsHierarchy h → class_at h c ≡ Some class → IsPossible h c (primary_of ps c) → AreAlignedTo rows c.0
    → IsLaidRow h rows nearly ps c class row → IsAlignedRow row
row_aligned h rows nearly ps c class row keeps there possible before is = record {
  align = subst IsAlignment (sym is.placed.align) (stage_aligned inner vs free_places inner_is (bases_aligned h rows ps parts c before (free_bases h ps c) (frees_below h ps c keeps)));
  nvalign = subst IsAlignment (sym is.placed.nvalign) inner_is;
}
  where
    parts : ClassId → List Part
    parts = object_parts h rows ps

    fs : List Component
    fs = front_components h rows ps parts c class

    ms : List Component
    ms = map (member_component rows parts) class.members

    vs : List Component
    vs = free_components h rows ps parts c

    front_places : List ℕ
    front_places = map (placed_place h rows c) (fronts ps c class)

    free_places : List ℕ
    free_places = map (placed_place h rows c) (free_bases h ps c)

    first : Stage
    first = start_stage c is.has_pointer

    inner : Stage
    inner = stage_after_all (stage_after_all first fs front_places) ms row.member_places

    inner_is : IsAlignment inner.align
    inner_is = stage_aligned (stage_after_all first fs front_places) ms row.member_places
        (stage_aligned first fs front_places (start_aligned c is.has_pointer) (bases_aligned h rows ps parts c before (fronts ps c class) (fronts_below h c class (primary_of ps c) keeps there possible)))
        (members_aligned rows parts c.0 class.members before (λ m d has e. keeps.objects c d m (subst (λ (o : Option Class). Contains (members_in o) m) (sym there) has) e))

-- one row more
aligned_more : (h : Classes) (count : ℕ) (rows : List ClassLayout) (nearly : List Bool) (ps : List Primary) → IsHierarchy h → count ≤ length h → IsLaidBy h count rows nearly ps → (n : ℕ) → AreAlignedTo rows n → AreAlignedTo rows (suc n)
aligned_more h count rows nearly ps keeps le laid n before = record {
  align = λ d lt. ⊎_elim
      (λ same. subst (λ k. IsAlignment (align_in (slice_get rows k))) (sym same) (here (slice_get rows n) refl).0)
      (λ o. ⊎_elim (λ l. before.align d l) (λ g. absurd (omega arith)) o)
      (cases_order d n);
  nvalign = λ d lt. ⊎_elim
      (λ same. subst (λ k. IsAlignment (nvalign_in (slice_get rows k))) (sym same) (here (slice_get rows n) refl).1)
      (λ o. ⊎_elim (λ l. before.nvalign d l) (λ g. absurd (omega arith)) o)
      (cases_order d n);
}
  where
    here : (o : Option ClassLayout) → slice_get rows n ≡ o → IsAlignment (align_in o) × IsAlignment (nvalign_in o)
    here None e = (byte, byte)
    here (Some row) e =
        let each = laid.one_each in
        let lt = slice_get_within rows n row e in
        let class = get_within h n (omega arith) in
        let possible = laid_possible h count count rows nearly ps (omega arith) le laid in
        let is = row_aligned h rows nearly ps (number n) class.0 row keeps class.1 (possible.each (number n) (omega arith)) before (laid.row (number n) class.0 row class.1 e) in
        (is.align, is.nvalign)

-- the rows of the first n classes
aligned_to : (h : Classes) (count : ℕ) (rows : List ClassLayout) (nearly : List Bool) (ps : List Primary) → IsHierarchy h → count ≤ length h → IsLaidBy h count rows nearly ps → (n : ℕ) → AreAlignedTo rows n
aligned_to h count rows nearly ps keeps le laid zero = record { align = λ d lt. absurd (omega arith); nvalign = λ d lt. absurd (omega arith) }
aligned_to h count rows nearly ps keeps le laid (suc n) = aligned_more h count rows nearly ps keeps le laid n (aligned_to h count rows nearly ps keeps le laid n)

-- each row
pub rows_aligned : (h : Classes) (rows : List ClassLayout) (nearly : List Bool) (ps : List Primary) → IsHierarchy h → IsLaidBy h (length h) rows nearly ps → (n : ℕ) (row : ClassLayout) → slice_get rows n ≡ Some row → IsAlignedRow row
rows_aligned h rows nearly ps keeps laid n row e =
    let all = aligned_to h (length h) rows nearly ps keeps (omega arith) laid (n + 1) in
    record {
      align = subst (λ (o : Option ClassLayout). IsAlignment (align_in o)) e (all.align n (omega arith));
      nvalign = subst (λ (o : Option ClassLayout). IsAlignment (nvalign_in o)) e (all.nvalign n (omega arith));
    }
