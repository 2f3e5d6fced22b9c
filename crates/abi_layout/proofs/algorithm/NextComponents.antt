-- The components of the next class by what is known of the classes before it are those of the rules.
use Rattle.std.proofs.Common.{◌≡◌, ℕ, zero, suc, ◌+◌, ◌<◌, Bool, Some, None, List, [], ◌∷◌, ◌++◌, map, take, length, refl, ap, subst, sym, ◌∙◌, arith}
use Rattle.std.specs.Prelude.{All, IsTrue, ◌↔◌, if◌then◌else◌}
use Rattle.std.specs.List.{slice_get}
use Rattle.std.proofs.lemmas.Option.{slice_get_within}
use Rattle.std.proofs.lemmas.List.Elements.{All-head, All-tail}
use Rattle.cxx_hierarchy.specs.declared.records.ClassId.{ClassId}
use Rattle.cxx_hierarchy.specs.Classes.{Class, Classes, class_at}
use Rattle.cxx_hierarchy.specs.Hierarchies.{IsHierarchy}
use Rattle.abi_emptybase.specs.declared.Part.{Part}
use Rattle.abi_primary.specs.declared.Primary.{Primary}
use Rattle.abi_primary.specs.declared.Primary.TheVariants.{None as NoPrimary}
use Rattle.abi_primary.specs.Kinds.{IsDynamic}
use Rattle.abi_primary.specs.PrimaryBase.{IsPrimary}
use Rattle.abi_layout.specs.declared.component.Component.{Component}
use Rattle.abi_layout.specs.declared.known.Known.{Known}
use Rattle.abi_sound.specs.declared.class_layout.ClassLayout.{ClassLayout}
use Rattle.abi_layout.specs.declared.placed_bases.PlacedBase.{PlacedBase}
use Rattle.abi_layout.specs.Kinds.{pod_kind, is_empty, is_pod}
use Rattle.abi_sound.specs.Places.{size_in_row, nvalign_in}
use Rattle.abi_layout.specs.Placements.{nvsize_in, member_component}
use Rattle.abi_layout.specs.invariants.Known.{empties_in, pods_in, known_parts_of, members_by}
use Rattle.abi_layout.specs.Brought.{brought_by}
use Rattle.abi_layout.specs.PlacedBases.{class_of_placed, subobject_of, free_bases, placed_component, IsPossible}
use Rattle.abi_layout.specs.Layouts.{primary_of, fronts, object_parts, IsLaidBy}
use Rattle.abi_layout.specs.invariants.Arrangements.{components_by}
use Rattle.abi_layout.specs.Refusals.{IsNextToLayOut}
use Rattle.abi_layout.specs.invariants.LaidSoFar.{IsLaidSoFar}
use Rattle.abi_layout.proofs.lists.LastItems.{longer}
use Rattle.abi_layout.proofs.rules.PartLemmas.{Agree}
use Rattle.abi_layout.proofs.algorithm.PlacedClassLemmas.{fronts_below, frees_below}
use Rattle.abi_layout.proofs.rules.AgreeingRows.{AgreeTo, agree_less, agree_push}
use Rattle.abi_layout.proofs.rules.AgreeingParts.{ArePossible, possible_less, possible_agrees, all_placed_agree, members_same, object_parts_agree}
use Rattle.abi_layout.proofs.rules.AgreeingClasses.{laid_possible, next_possible, primary_possible}
use Rattle.abi_layout.proofs.algorithm.NextPrimary.{last_primary}
use Rattle.abi_layout.proofs.algorithm.NextKinds.{next_pod}

-- the classes before c are laid out, and the primary base of c is this one
pub record IsNextKnown (h : Classes) (c : ClassId) (class : Class) (rows : List ClassLayout) (known : List Known) (members : List (List Part)) (nearly : List Bool) (ps : List Primary) (primary : Primary) (has_pointer : Bool) : Type 0 where
  pub keeps : IsHierarchy h
  pub there : class_at h c ≡ Some class
  pub so_far : IsLaidSoFar h c.0 rows known members nearly ps
  pub is_primary : IsPrimary h nearly ps c primary
  pub pointer : IsTrue has_pointer ↔ (IsDynamic h c × (primary ≡ NoPrimary))

pub take_front : {X : Type 0} (n : ℕ) (xs ys : List X) → n ≡ length xs → take n (xs ++ ys) ≡ xs
take_front zero [] [] e = refl
take_front zero [] (y ∷ ys) e = refl
take_front (suc n) [] ys e = absurd (omega arith)
take_front zero (x ∷ xs) ys e = absurd (omega arith)
take_front (suc n) (x ∷ xs) ys e = ap (λ zs. x ∷ zs) (take_front n xs ys (omega arith))

-- the primary bases, with that of c
pub primaries_alike : (c : ClassId) (ps : List Primary) (primary : Primary) → length ps ≡ c.0 → AgreeTo c.0 ps (ps ++ primary ∷ [])
primaries_alike c ps primary count = agree_push c.0 ps primary (omega arith)

-- the next class, as the rules see it
abbrev pub next_class : (h : Classes) (c : ClassId) (class : Class) (rows : List ClassLayout) (known : List Known) (members : List (List Part)) (nearly : List Bool) (ps : List Primary) (primary : Primary) (has_pointer : Bool) → IsNextKnown h c class rows known members nearly ps primary has_pointer → IsNextToLayOut h c
next_class h c class rows known members nearly ps primary has_pointer next =
    let count = next.so_far.by.primary_each in
    let front : take c.0 (ps ++ primary ∷ []) ≡ ps = take_front c.0 ps (primary ∷ []) (sym count) in
    let last : primary_of (ps ++ primary ∷ []) c ≡ primary = last_primary ps c primary count in
    record {
      class = class;
      there = next.there;
      rows = rows;
      nearly = nearly;
      primaries = ps ++ primary ∷ [];
      laid = subst (λ (qs : List Primary). IsLaidBy h c.0 rows nearly qs) (sym front) next.so_far.by;
      primary_each = let l = longer ps primary in omega arith;
      is_primary = subst (λ (qs : List Primary). IsPrimary h nearly qs c (primary_of (ps ++ primary ∷ []) c)) (sym front) (subst (λ (p : Primary). IsPrimary h nearly ps c p) (sym last) next.is_primary);
      has_pointer = has_pointer;
      pointer = subst (λ (p : Primary). IsTrue has_pointer ↔ (IsDynamic h c × (p ≡ NoPrimary))) (sym last) next.pointer;
    }

-- the primary bases are bases
pub next_are_bases : (h : Classes) (c : ClassId) (class : Class) (rows : List ClassLayout) (known : List Known) (members : List (List Part)) (nearly : List Bool) (ps : List Primary) (primary : Primary) (has_pointer : Bool) → IsNextKnown h c class rows known members nearly ps primary has_pointer → ArePossible h (c.0 + 1) (ps ++ primary ∷ [])
next_are_bases h c class rows known members nearly ps primary has_pointer next =
    let count = next.so_far.by.primary_each in
    let lt = slice_get_within h c.0 class next.there in
    next_possible h c (ps ++ primary ∷ []) (possible_agrees h c.0 ps (ps ++ primary ∷ []) (primaries_alike c ps primary count) (laid_possible h c.0 c.0 rows nearly ps (omega arith) (omega arith) next.so_far.by))
    (subst (IsPossible h c) (sym (last_primary ps c primary count)) (primary_possible h nearly ps c primary next.is_primary))

abbrev component_made : Bool → ℕ → ℕ → ℕ → List Part → Component
component_made empty align size nvsize parts = record { is_empty = empty; align = align; takes = if empty then size else nvsize; width = None; parts = parts }

kinds_same : (f g : ClassId → Bool) (h : Classes) (rows : List ClassLayout) (ps : List Primary) (parts : ClassId → List Part) (c : ClassId) (bases : List PlacedBase) → ((d : ClassId) → d.0 < c.0 → f d ≡ g d) → All (λ (base : PlacedBase). (class_of_placed base).0 < c.0) bases
    → map (placed_component f h rows ps parts c) bases ≡ map (placed_component g h rows ps parts c) bases
kinds_same f g h rows ps parts c [] same all = refl
kinds_same f g h rows ps parts c (base ∷ bases) same all =
    let d = class_of_placed base in
    let here : placed_component f h rows ps parts c base ≡ placed_component g h rows ps parts c base =
    ap (λ b. component_made b (nvalign_in (slice_get rows d.0)) (size_in_row (slice_get rows d.0)) (nvsize_in (slice_get rows d.0)) (brought_by h rows ps parts c (subobject_of c base) d)) (same d (All-head (λ (x : PlacedBase). (class_of_placed x).0 < c.0) base bases all)) in
    let rest = kinds_same f g h rows ps parts c bases same (All-tail (λ (x : PlacedBase). (class_of_placed x).0 < c.0) base bases all) in
    cc

-- the components and the kind of the next class, by what is known and by the rules
pub record IsNextSame (h : Classes) (c : ClassId) (class : Class) (rows : List ClassLayout) (known : List Known) (qs : List Primary) : Type 0 where
  pub fronts_are : components_by h rows known qs c (fronts qs c class) ≡ map (placed_component (is_empty h) h rows qs (object_parts h rows qs) c) (fronts qs c class)
  pub members_are : members_by rows known class ≡ map (member_component rows (object_parts h rows qs)) class.members
  pub frees_are : components_by h rows known qs c (free_bases h qs c) ≡ map (placed_component (is_empty h) h rows qs (object_parts h rows qs) c) (free_bases h qs c)
  pub pod : pod_kind (pods_in known) class ≡ is_pod h c

-- what is known of the parts of the classes before c
pub next_agree : (h : Classes) (c : ClassId) (class : Class) (rows : List ClassLayout) (known : List Known) (members : List (List Part)) (nearly : List Bool) (ps : List Primary) (primary : Primary) (has_pointer : Bool) → IsNextKnown h c class rows known members nearly ps primary has_pointer → Agree h c.0 rows rows (known_parts_of known) (object_parts h rows (ps ++ primary ∷ []))
next_agree h c class rows known members nearly ps primary has_pointer next = record {
  row = λ d lt. refl;
  of_class = λ d lt is.
      let count = next.so_far.by.primary_each in
      let within = slice_get_within h c.0 class next.there in
      next.so_far.parts d lt is
      ∙ object_parts_agree h rows rows ps (ps ++ primary ∷ []) d next.keeps (record { each = λ i less. refl }) (agree_less (d.0 + 1) c.0 ps (ps ++ primary ∷ []) (omega arith) (primaries_alike c ps primary count))
      (laid_possible h c.0 (d.0 + 1) rows nearly ps (omega arith) (omega arith) next.so_far.by);
}

pub next_same : (h : Classes) (c : ClassId) (class : Class) (rows : List ClassLayout) (known : List Known) (members : List (List Part)) (nearly : List Bool) (ps : List Primary) (primary : Primary) (has_pointer : Bool) → IsNextKnown h c class rows known members nearly ps primary has_pointer → IsNextSame h c class rows known (ps ++ primary ∷ [])
next_same h c class rows known members nearly ps primary has_pointer next = record {
  fronts_are = bases_are (fronts qs c class) (fronts_below h c class (primary_of qs c) next.keeps next.there (possible.each c (omega arith)));
  members_are = members_same h rows rows (known_parts_of known) (object_parts h rows qs) c class next.keeps next.there agree;
  frees_are = bases_are (free_bases h qs c) (frees_below h qs c next.keeps);
  pod = next_pod h next.keeps c class (pods_in known) next.there next.so_far.pods;
}
  where
    qs : List Primary
    qs = ps ++ primary ∷ []

    possible : ArePossible h (c.0 + 1) qs
    possible = next_are_bases h c class rows known members nearly ps primary has_pointer next

    agree : Agree h c.0 rows rows (known_parts_of known) (object_parts h rows qs)
    agree = next_agree h c class rows known members nearly ps primary has_pointer next

    bases_are : (bases : List PlacedBase) → All (λ (base : PlacedBase). (class_of_placed base).0 < c.0) bases → components_by h rows known qs c bases ≡ map (placed_component (is_empty h) h rows qs (object_parts h rows qs) c) bases
    bases_are bases below =
        all_placed_agree (empties_in known) h c.0 rows rows qs qs (known_parts_of known) (object_parts h rows qs) c bases next.keeps agree (record { each = λ i lt. refl }) (possible_less h c.0 (c.0 + 1) qs (omega arith) possible) (omega arith) below
        ∙ kinds_same (empties_in known) (is_empty h) h rows qs (object_parts h rows qs) c bases next.so_far.empties below
