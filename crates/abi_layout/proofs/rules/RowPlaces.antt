-- Where the bases of a class are placed, its virtual bases can be settled.
use Rattle.std.proofs.Common.{◌≡◌, ℕ, zero, suc, ◌+◌, ◌<◌, ◌≤◌, Bool, true, false, Option, Some, None, List, [], ◌∷◌, ◌++◌, get_or, refl, ap, subst, sym, ◌∙◌, arith}
use Rattle.std.specs.Prelude.{if◌then◌else◌}
use Rattle.std.specs.List.{slice_get}
use Rattle.std.proofs.Math.Nat.{le-max_right}
use Rattle.cxx_hierarchy.specs.declared.records.ClassId.{ClassId}
use Rattle.cxx_hierarchy.specs.Classes.{Class, Classes, class_at}
use Rattle.cxx_hierarchy.specs.Hierarchies.{IsHierarchy}
use Rattle.cxx_subobject.specs.declared.Subobject.{Subobject}
use Rattle.abi_emptybase.specs.declared.Part.{Part}
use Rattle.abi_primary.specs.declared.Primary.{Primary}
use Rattle.abi_primary.specs.declared.Primary.TheVariants.{None as NoPrimary, Direct, Virtual}
use Rattle.abi_layout.specs.declared.arrangement.Arrangement.{Arrangement}
use Rattle.abi_layout.specs.declared.component.Component.{Component}
use Rattle.abi_layout.specs.declared.component.Stage.{Stage}
use Rattle.abi_layout.specs.declared.known.Known.{Known}
use Rattle.abi_sound.specs.declared.class_layout.ClassLayout.{ClassLayout}
use Rattle.abi_layout.specs.declared.placed_bases.PlacedBase.TheVariants.{VirtualBase}
use Rattle.abi_layout.specs.Kinds.{pod_kind}
use Rattle.abi_layout.specs.Placements.{nvsize_in, stage_after_all}
use Rattle.abi_layout.specs.invariants.Known.{empties_in, pods_in, known_parts_of, members_by, AreAllSized}
use Rattle.abi_layout.specs.Holding.{virtual_primary_base, virtual_in}
use Rattle.abi_layout.specs.invariants.Scenes.{IsLayoutScene}
use Rattle.abi_layout.specs.PlacedBases.{front_bases, free_bases, placed_component}
use Rattle.abi_layout.specs.invariants.OwnPlaces.{own_places}
use Rattle.abi_layout.specs.invariants.Arrangements.{row_from, IsArranged, IsWithinLimit, components_by}
use Rattle.abi_layout.specs.Layouts.{primary_of, start_stage, IsLayoutBy}
use Rattle.abi_layout.specs.invariants.Settled.{EndsWithinLimit, CanSettle, free_table}
use Rattle.abi_layout.proofs.lists.LastItems.{same_before, longer}
use Rattle.abi_layout.proofs.rules.PlacingLemmas.{size_grows}
use Rattle.abi_layout.proofs.algorithm.CanSettleLemmas.{AreNested, can_settle}
use Rattle.abi_layout.proofs.rules.NestedLemmas.{nested_more, virtual_takes}
use Rattle.abi_layout.proofs.algorithm.RoomLemmas.{free_room}
use Rattle.abi_layout.proofs.algorithm.PlacedClassLemmas.{frees_below}

-- the bases before the members end within the class without its virtual bases
pub fronts_end : (first : Stage) (fs ms vs : List Component) (ps rs : List ℕ) (pod : Bool) (row : ClassLayout) → IsLayoutBy first fs ms vs ps rs pod row → (stage_after_all first fs ps).size ≤ row.nvsize
fronts_end first fs ms vs ps rs pod row laid =
    let a = size_grows (stage_after_all first fs ps) ms row.member_places in
    let b = size_grows (stage_after_all (stage_after_all first fs ps) ms row.member_places) vs rs in
    let m = le-max_right 1 (stage_after_all (stage_after_all (stage_after_all first fs ps) ms row.member_places) vs rs).size in
    let s = laid.size.behind in
    subst (λ n. (stage_after_all first fs ps).size ≤ n) (sym laid.nvsize) (by_kind pod (omega arith) (omega arith))
  where
    by_kind : (b : Bool) → (stage_after_all first fs ps).size ≤ row.size → (stage_after_all first fs ps).size ≤ (stage_after_all (stage_after_all first fs ps) ms row.member_places).size → (stage_after_all first fs ps).size ≤ (if b then row.size else (stage_after_all (stage_after_all first fs ps) ms row.member_places).size)
    by_kind true x y = x
    by_kind false x y = y

-- and all components within its size
pub all_end : (first : Stage) (fs ms vs : List Component) (ps rs : List ℕ) (pod : Bool) (row : ClassLayout) → IsLayoutBy first fs ms vs ps rs pod row → (stage_after_all (stage_after_all (stage_after_all first fs ps) ms row.member_places) vs rs).size ≤ row.size
all_end first fs ms vs ps rs pod row laid =
    let m = le-max_right 1 (stage_after_all (stage_after_all (stage_after_all first fs ps) ms row.member_places) vs rs).size in
    let s = laid.size.behind in
    omega arith

primary_known : (ps : List Primary) (c : ClassId) (v : ClassId) → virtual_primary_base ps c ≡ Some v → primary_of ps c ≡ Virtual v
primary_known ps c v e = at ps c.0 e
  where
    at : (qs : List Primary) (n : ℕ) → virtual_in (slice_get qs n) ≡ Some v → get_or qs n NoPrimary ≡ Virtual v
    at [] n e = let f : None ≡ Some v = e in cc
    at (NoPrimary ∷ qs) zero e = let f : None ≡ Some v = e in cc
    at (Direct b ∷ qs) zero e = let f : None ≡ Some v = e in cc
    at (Virtual w ∷ qs) zero e = let same : w ≡ v = cc in ap (λ x. Virtual x) same
    at (q ∷ qs) (suc n) e = at qs n e

-- with the row of a class whose bases are placed each class ends behind its bases
pub class_placed_nested : (h : Classes) (c : ClassId) (class : Class) (rows : List ClassLayout) (known : List Known) (members : List (List Part)) (ps : List Primary) (list : List Subobject) (holders : List (Option ℕ)) (primary : Primary) (has_pointer : Bool) (a : Arrangement) (base_places : List ℕ)
    → IsHierarchy h → IsLayoutScene h c rows known members ps list holders → AreAllSized rows known → class_at h c ≡ Some class → primary_of ps c ≡ primary
    → IsArranged (start_stage c has_pointer) (components_by h rows known ps c (front_bases primary class.bases)) (members_by rows known class) (components_by h rows known ps c (free_bases h ps c)) (pod_kind (pods_in known) class) a
    → IsWithinLimit a → base_places ≡ own_places (front_bases primary class.bases) a.front_places class.bases
    → AreNested h (c.0 + 1) (rows ++ row_from a primary base_places [] [] [] ∷ []) ps
class_placed_nested h c class rows known members ps list holders primary has_pointer a base_places keeps scene sized e own arranged within are =
    let row = row_from a primary base_places [] [] [] in
    let laid = arranged.laid primary base_places [] [] [] in
    let n = within.nvsize in
    let s = within.size in
    nested_more h c class rows known members ps list holders row primary (start_stage c has_pointer) a.front_places keeps scene sized e are laid.fronts_placed
    (fronts_end (start_stage c has_pointer) (components_by h rows known ps c (front_bases primary class.bases)) (members_by rows known class) (components_by h rows known ps c (free_bases h ps c)) a.front_places a.free_places (pod_kind (pods_in known) class) row laid)
    (omega arith) (λ v p. sym own ∙ primary_known ps c v p)

-- its virtual bases that are held can be settled
pub class_placed_can : (h : Classes) (c : ClassId) (class : Class) (rows : List ClassLayout) (known : List Known) (members : List (List Part)) (ps : List Primary) (list : List Subobject) (holders : List (Option ℕ)) (primary : Primary) (has_pointer : Bool) (a : Arrangement) (base_places : List ℕ)
    → IsHierarchy h → IsLayoutScene h c rows known members ps list holders → AreAllSized rows known → class_at h c ≡ Some class → primary_of ps c ≡ primary
    → IsArranged (start_stage c has_pointer) (components_by h rows known ps c (front_bases primary class.bases)) (members_by rows known class) (components_by h rows known ps c (free_bases h ps c)) (pod_kind (pods_in known) class) a
    → IsWithinLimit a → base_places ≡ own_places (front_bases primary class.bases) a.front_places class.bases
    → CanSettle h (rows ++ row_from a primary base_places [] [] [] ∷ []) list holders
class_placed_can h c class rows known members ps list holders primary has_pointer a base_places keeps scene sized e own arranged within are =
    let l = longer rows (row_from a primary base_places [] [] []) in
    let r = scene.row_each in
    can_settle h c (rows ++ row_from a primary base_places [] [] [] ∷ []) ps list holders keeps
    (class_placed_nested h c class rows known members ps list holders primary has_pointer a base_places keeps scene sized e own arranged within are)
    scene.before (omega arith) scene.tells scene.holders_are

-- and those that no subobject holds end within the limit of sizes
pub class_placed_room : (h : Classes) (c : ClassId) (class : Class) (rows : List ClassLayout) (known : List Known) (members : List (List Part)) (ps : List Primary) (list : List Subobject) (holders : List (Option ℕ)) (primary : Primary) (has_pointer : Bool) (a : Arrangement) (base_places : List ℕ)
    → IsHierarchy h → IsLayoutScene h c rows known members ps list holders → AreAllSized rows known → class_at h c ≡ Some class → primary_of ps c ≡ primary
    → IsArranged (start_stage c has_pointer) (components_by h rows known ps c (front_bases primary class.bases)) (members_by rows known class) (components_by h rows known ps c (free_bases h ps c)) (pod_kind (pods_in known) class) a
    → IsWithinLimit a → base_places ≡ own_places (front_bases primary class.bases) a.front_places class.bases
    → EndsWithinLimit (rows ++ row_from a primary base_places [] [] [] ∷ []) (free_table c.0 (free_bases h ps c) a.free_places)
class_placed_room h c class rows known members ps list holders primary has_pointer a base_places keeps scene sized e own arranged within are =
    let row = row_from a primary base_places [] [] [] in
    let laid = arranged.laid primary base_places [] [] [] in
    let fs = components_by h rows known ps c (front_bases primary class.bases) in
    let ms = members_by rows known class in
    let vs = components_by h rows known ps c (free_bases h ps c) in
    let ends = all_end (start_stage c has_pointer) fs ms vs a.front_places a.free_places (pod_kind (pods_in known) class) row laid in
    let small = within.size in
    let nested = class_placed_nested h c class rows known members ps list holders primary has_pointer a base_places keeps scene sized e own arranged within are in
    free_room (placed_component (empties_in known) h rows ps (known_parts_of known) c) (rows ++ row ∷ []) c (stage_after_all (stage_after_all (start_stage c has_pointer) fs a.front_places) ms a.member_places) (free_bases h ps c) a.free_places
    (λ x. refl) (λ v lt. takes v lt row) (frees_below h ps c keeps) laid.frees_placed (omega arith) nested.small
  where
    takes : (v : ClassId) → v.0 < c.0 → (row : ClassLayout) → nvsize_in (slice_get (rows ++ row ∷ []) v.0) ≤ (placed_component (empties_in known) h rows ps (known_parts_of known) c (VirtualBase v)).takes
    takes v lt row =
        let row_each = scene.row_each in
        let known_each = scene.known_each in
        let enough = virtual_takes h rows known ps c v sized (omega arith) (omega arith) in
        let same : nvsize_in (slice_get rows v.0) ≡ nvsize_in (slice_get (rows ++ row ∷ []) v.0) = ap nvsize_in (same_before rows row v.0 (omega arith)) in
        omega arith
