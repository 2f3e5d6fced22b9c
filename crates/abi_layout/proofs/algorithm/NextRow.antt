-- The row of the next class is the one of the rules.
use Rattle.std.proofs.Common.{◌≡◌, ℕ, ◌+◌, ◌<◌, ◌⊎◌, ⊎_elim, inl, inr, Bool, Option, Some, List, [], ◌∷◌, ◌++◌, map, take, length, refl, ap, subst, sym, ◌∙◌, arith}
use Rattle.std.specs.Prelude.{Contains, IsTrue, ◌↔◌}
use Rattle.std.specs.Option.{option_map}
use Rattle.std.specs.List.{slice_get}
use Rattle.std.proofs.lemmas.Bool.{cases_order}
use Rattle.std.proofs.lemmas.Option.{slice_get-map, slice_get_read}
use Rattle.std.proofs.lemmas.List.Elements.{Contains-append_cases}
use Rattle.cxx_hierarchy.specs.declared.records.ClassId.{ClassId}
use Rattle.cxx_hierarchy.specs.Classes.{Class, Classes, class_at}
use Rattle.abi_emptybase.specs.declared.Part.{Part}
use Rattle.abi_primary.specs.declared.Primary.{Primary}
use Rattle.abi_primary.specs.NearlyEmpty.{IsNearlyEmpty}
use Rattle.abi_layout.specs.declared.component.Component.{Component}
use Rattle.abi_layout.specs.declared.known.Known.{Known}
use Rattle.abi_sound.specs.declared.class_layout.ClassLayout.{ClassLayout}
use Rattle.abi_layout.specs.declared.placed_bases.PlacedBase.{PlacedBase}
use Rattle.abi_layout.specs.Kinds.{is_empty}
use Rattle.abi_sound.specs.Places.{member_places_in}
use Rattle.abi_layout.specs.Placements.{placed_part, parts_at, member_component}
use Rattle.abi_layout.specs.invariants.Known.{members_by}
use Rattle.abi_layout.specs.PlacedBases.{free_bases, placed_component}
use Rattle.abi_layout.specs.Repeats.{SomeRepeats}
use Rattle.abi_layout.specs.Layouts.{primary_of, placed_place, fronts, front_components, free_components, object_parts, is_shifted, IsLaidRow, IsLaidBy, BringsTwice}
use Rattle.abi_layout.specs.invariants.Arrangements.{components_by}
use Rattle.abi_layout.specs.Refusals.{AreBroughtOnce}
use Rattle.abi_layout.specs.invariants.ClassRows.{IsClassRow, row_parts}
use Rattle.abi_layout.proofs.lists.Lists.{number}
use Rattle.abi_layout.proofs.lists.LastItems.{last_one}
use Rattle.abi_layout.proofs.rules.AgreeingRows.{AgreeTo, agree_less, agree_turned, agree_push}
use Rattle.abi_layout.proofs.rules.AgreeingParts.{ArePossible, possible_less, object_parts_is}
use Rattle.abi_layout.proofs.rules.AgreeingClasses.{is_primary_agrees, nearly_empty_agrees, components_agree, arranged_agrees, brings_twice_agrees}
use Rattle.abi_layout.proofs.rules.AgreeingFirst.{one_more}
use Rattle.abi_layout.proofs.algorithm.NextComponents.{IsNextKnown, next_class, next_are_bases, primaries_alike, next_same}
use Rattle.abi_layout.proofs.algorithm.NextRefused.{by_rules}

same_list : {X : Type 0} (n : ℕ) (xs : List X) → AgreeTo n xs xs
same_list n xs = record { each = λ i lt. refl }

-- the last of the rows
pub last_row : (rows : List ClassLayout) (row : ClassLayout) (n : ℕ) → length rows ≡ n → slice_get (rows ++ row ∷ []) n ≡ Some row
last_row rows row n count = subst (λ i. slice_get (rows ++ row ∷ []) i ≡ Some row) count (last_one rows row)

pub row_is : (h : Classes) (c : ClassId) (class : Class) (rows : List ClassLayout) (known : List Known) (members : List (List Part)) (nearly : List Bool) (ps : List Primary) (primary : Primary) (has_pointer : Bool) → IsNextKnown h c class rows known members nearly ps primary has_pointer
    → (row : ClassLayout) (is : Bool) → IsClassRow h c rows known (ps ++ primary ∷ []) class has_pointer row → IsLaidRow h (rows ++ row ∷ []) (nearly ++ is ∷ []) (ps ++ primary ∷ []) c class row
row_is h c class rows known members nearly ps primary has_pointer next row is of_row = record {
  is_primary = let near_each = next.so_far.by.tells.one_each in is_primary_agrees h nearly (nearly ++ is ∷ []) (take c.0 qs) c (primary_of qs c) next.keeps (agree_push c.0 nearly is (omega arith)) (next_class h c class rows known members nearly ps primary has_pointer next).is_primary;
  primary = of_row.primary;
  has_pointer = has_pointer;
  pointer = (next_class h c class rows known members nearly ps primary has_pointer next).pointer;
  placed =
      let row_each = next.so_far.by.one_each in
      arranged_agrees h rows all qs qs c class has_pointer front_places free_places row next.keeps next.there (agree_push c.0 rows row (omega arith)) (same_list (c.0 + 1) qs) (next_are_bases h c class rows known members nearly ps primary has_pointer next)
      (by_rules h c class rows known members nearly ps primary has_pointer next front_places free_places row of_row.placed);
  each_base = of_row.each_base;
  virtuals = of_row.virtuals;
  each_virtual = of_row.each_virtual;
  holders = of_row.holders;
  held = of_row.held;
}
  where
    qs : List Primary
    qs = ps ++ primary ∷ []

    all : List ClassLayout
    all = rows ++ row ∷ []

    front_places : List ℕ
    front_places = map (placed_place h all c) (fronts qs c class)

    free_places : List ℕ
    free_places = map (placed_place h all c) (free_bases h qs c)

-- with the next class the layout goes on
pub laid_more : (h : Classes) (c : ClassId) (class : Class) (rows : List ClassLayout) (known : List Known) (members : List (List Part)) (nearly : List Bool) (ps : List Primary) (primary : Primary) (has_pointer : Bool) → IsNextKnown h c class rows known members nearly ps primary has_pointer
    → (row : ClassLayout) (is : Bool) → IsClassRow h c rows known (ps ++ primary ∷ []) class has_pointer row → (IsTrue is ↔ IsNearlyEmpty h nearly (is_shifted h (rows ++ row ∷ []) c) c) → IsLaidBy h (c.0 + 1) (rows ++ row ∷ []) (nearly ++ is ∷ []) (ps ++ primary ∷ [])
laid_more h c class rows known members nearly ps primary has_pointer next row is of_row told =
    let near_each = next.so_far.by.tells.one_each in
    let near = agree_push c.0 nearly is (omega arith) in
    let shifted = is_shifted h (rows ++ row ∷ []) c in
    one_more h c.0 rows nearly ps c class row is primary next.keeps next.so_far.by next.there refl (row_is h c class rows known members nearly ps primary has_pointer next row is of_row)
    (λ t. nearly_empty_agrees h nearly (nearly ++ is ∷ []) shifted c next.keeps near (told.0 t), λ e. told.1 (nearly_empty_agrees h (nearly ++ is ∷ []) nearly shifted c next.keeps (agree_turned c.0 nearly (nearly ++ is ∷ []) near) e))

abbrev parts_made : ClassId → (fs ms vs : List Component) (ps qs rs : List ℕ) → List Part
parts_made c fs ms vs ps qs rs = placed_part c 0 ∷ (parts_at fs ps ++ (parts_at ms qs ++ parts_at vs rs))

-- the class subobjects of an object of it
pub row_parts_are : (h : Classes) (c : ClassId) (class : Class) (rows : List ClassLayout) (known : List Known) (members : List (List Part)) (nearly : List Bool) (ps : List Primary) (primary : Primary) (has_pointer : Bool) → IsNextKnown h c class rows known members nearly ps primary has_pointer
    → (row : ClassLayout) → row_parts h c rows known (ps ++ primary ∷ []) class row ≡ object_parts h (rows ++ row ∷ []) (ps ++ primary ∷ []) c
row_parts_are h c class rows known members nearly ps primary has_pointer next row =
    let qs = ps ++ primary ∷ [] in
    let all = rows ++ row ∷ [] in
    let row_each = next.so_far.by.one_each in
    let possible = next_are_bases h c class rows known members nearly ps primary has_pointer next in
    let known_same = next_same h c class rows known members nearly ps primary has_pointer next in
    let same = components_agree h rows all qs qs c class next.keeps next.there (agree_push c.0 rows row (omega arith)) (same_list (c.0 + 1) qs) possible in
    let front_places = map (placed_place h all c) (fronts qs c class) in
    let free_places = map (placed_place h all c) (free_bases h qs c) in
    let fs = front_components h all qs (object_parts h all qs) c class in
    let ms = map (member_component all (object_parts h all qs)) class.members in
    let vs = free_components h all qs (object_parts h all qs) c in
    ap (λ (xs : List Component). parts_made c xs (members_by rows known class) (components_by h rows known qs c (free_bases h qs c)) front_places row.member_places free_places) (known_same.fronts_are ∙ same.fronts)
    ∙ (ap (λ (xs : List Component). parts_made c fs xs (components_by h rows known qs c (free_bases h qs c)) front_places row.member_places free_places) (known_same.members_are ∙ same.members)
    ∙ (ap (λ (xs : List Component). parts_made c fs ms xs front_places row.member_places free_places) (known_same.frees_are ∙ same.frees)
    ∙ (ap (λ (o : Option ClassLayout). parts_made c fs ms vs front_places (member_places_in o) free_places) (sym (last_row rows row c.0 row_each))
    ∙ sym (object_parts_is h all qs c class next.keeps next.there possible))))

-- a base that brings a pair twice is a component that repeats
repeats_at : (f : PlacedBase → Component) (bases : List PlacedBase) (base : PlacedBase) → Contains bases base → Rattle.abi_layout.specs.Repeats.HasRepeat (f base).parts → SomeRepeats (map f bases)
repeats_at f bases base (i, lt, e) repeated = record {
  number = i;
  component = f base;
  there = slice_get-map f bases i ∙ ap (option_map f) (slice_get_read bases (length bases) i base refl lt (sym e));
  repeated = repeated;
}

pub repeats_of : (h : Classes) (c : ClassId) (class : Class) (rows : List ClassLayout) (qs : List Primary) → BringsTwice h rows qs c class
    → SomeRepeats (map (placed_component (is_empty h) h rows qs (object_parts h rows qs) c) (fronts qs c class)) ⊎ SomeRepeats (map (placed_component (is_empty h) h rows qs (object_parts h rows qs) c) (free_bases h qs c))
repeats_of h c class rows qs twice =
    let f = placed_component (is_empty h) h rows qs (object_parts h rows qs) c in
    ⊎_elim (λ has. inl (repeats_at f (fronts qs c class) twice.base has twice.repeated)) (λ has. inr (repeats_at f (free_bases h qs c) twice.base has twice.repeated))
    (Contains-append_cases (fronts qs c class) (free_bases h qs c) twice.base twice.placed)

-- no base of a class up to the next one brings a pair twice
pub apart_more : (h : Classes) (c : ClassId) (class : Class) (rows : List ClassLayout) (known : List Known) (members : List (List Part)) (nearly : List Bool) (ps : List Primary) (primary : Primary) (has_pointer : Bool) → IsNextKnown h c class rows known members nearly ps primary has_pointer
    → (row : ClassLayout) → (SomeRepeats (components_by h rows known (ps ++ primary ∷ []) c (fronts (ps ++ primary ∷ []) c class)) → ⊥) → (SomeRepeats (components_by h rows known (ps ++ primary ∷ []) c (free_bases h (ps ++ primary ∷ []) c)) → ⊥) → AreBroughtOnce h (c.0 + 1) (rows ++ row ∷ []) (ps ++ primary ∷ [])
apart_more h c class rows known members nearly ps primary has_pointer next row fronts_apart frees_apart = record {
  each = λ d k lt e twice. ⊎_elim
      (λ same. let id : d ≡ c = ap number same in
      let kind : k ≡ class = let f : class_at h c ≡ Some k = subst (λ (x : ClassId). class_at h x ≡ Some k) id e in let g = next.there in cc in
      here (subst (λ (x : Class). BringsTwice h all qs c x) kind (subst (λ (x : ClassId). BringsTwice h all qs x k) id twice)))
      (λ o. ⊎_elim (λ l. before d k l e twice) (λ g. absurd (omega arith)) o)
      (cases_order d.0 c.0);
}
  where
    qs : List Primary
    qs = ps ++ primary ∷ []

    all : List ClassLayout
    all = rows ++ row ∷ []

    possible : ArePossible h (c.0 + 1) qs
    possible = next_are_bases h c class rows known members nearly ps primary has_pointer next

    agree : AgreeTo c.0 all rows
    agree = let row_each = next.so_far.by.one_each in agree_turned c.0 rows all (agree_push c.0 rows row (omega arith))

    here : BringsTwice h all qs c class → ⊥
    here twice =
        let same = next_same h c class rows known members nearly ps primary has_pointer next in
        ⊎_elim (λ x. fronts_apart (subst SomeRepeats (sym same.fronts_are) x)) (λ x. frees_apart (subst SomeRepeats (sym same.frees_are) x))
        (repeats_of h c class rows qs (brings_twice_agrees h all rows qs qs c class next.keeps next.there agree (same_list (c.0 + 1) qs) possible twice))

    before : (d : ClassId) (k : Class) → d.0 < c.0 → class_at h d ≡ Some k → BringsTwice h all qs d k → ⊥
    before d k lt e twice =
        let alike = agree_turned c.0 ps qs (primaries_alike c ps primary next.so_far.by.primary_each) in
        next.so_far.apart.each d k lt e
        (brings_twice_agrees h all rows qs ps d k next.keeps e (agree_less d.0 c.0 all rows (omega arith) agree) (agree_less (d.0 + 1) c.0 qs ps (omega arith) alike) (possible_less h (d.0 + 1) (c.0 + 1) qs (omega arith) possible) twice)
