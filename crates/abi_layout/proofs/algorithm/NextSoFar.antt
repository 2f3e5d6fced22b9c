-- With the next class one class more is known.
use Rattle.std.proofs.Common.{◌≡◌, ℕ, ◌+◌, ◌<◌, ◌⊎◌, ⊎_elim, inl, inr, Bool, Option, Some, List, [], ◌∷◌, ◌++◌, map, length, ap, subst, sym, ◌∙◌, arith}
use Rattle.std.specs.Prelude.{Contains, IsTrue, ◌↔◌, All}
use Rattle.std.specs.List.{slice_get}
use Rattle.std.proofs.lemmas.Bool.{cases_order}
use Rattle.std.proofs.lemmas.Option.{slice_get_within}
use Rattle.std.proofs.lemmas.List.Elements.{All-head, All-tail}
use Rattle.cxx_hierarchy.specs.declared.records.ClassId.{ClassId}
use Rattle.cxx_hierarchy.specs.Classes.{Class, Classes, members_in as members_named}
use Rattle.abi_emptybase.specs.declared.Part.{Part}
use Rattle.abi_primary.specs.declared.Primary.{Primary}
use Rattle.abi_primary.specs.NearlyEmpty.{IsNearlyEmpty}
use Rattle.abi_layout.specs.declared.component.Component.{Component}
use Rattle.abi_layout.specs.declared.known.Known.{Known}
use Rattle.abi_layout.specs.declared.laid_row.ClassFacts.{ClassFacts}
use Rattle.abi_sound.specs.declared.class_layout.ClassLayout.{ClassLayout}
use Rattle.abi_layout.specs.declared.placed_bases.PlacedBase.{PlacedBase}
use Rattle.abi_layout.specs.Kinds.{is_empty, is_pod}
use Rattle.abi_sound.specs.Places.{member_places_in}
use Rattle.abi_layout.specs.Placements.{nvsize_in, placed_part, parts_at, member_component}
use Rattle.abi_layout.specs.invariants.Alignments.{LieUpTo}
use Rattle.abi_layout.specs.invariants.Known.{is_empty_in, is_pod_in, parts_known, empties_in, pods_in, known_parts_of, members_by, IsSized, AreAllSized, IsMemberType, KeepsEnough}
use Rattle.abi_layout.specs.Brought.{parts_in_members, brought_by}
use Rattle.abi_layout.specs.PlacedBases.{class_of_placed, subobject_of, free_bases}
use Rattle.abi_layout.specs.Layouts.{primary_of, placed_place, fronts, object_parts, is_shifted}
use Rattle.abi_layout.specs.invariants.Arrangements.{components_by}
use Rattle.abi_layout.specs.invariants.ClassRows.{row_parts, IsRowAdded}
use Rattle.abi_layout.specs.invariants.LaidSoFar.{IsLaidSoFar}
use Rattle.abi_layout.proofs.lists.Lists.{number}
use Rattle.abi_layout.proofs.lists.LastItems.{longer, same_before, last_one, old_or_last}
use Rattle.abi_layout.proofs.rules.PartLemmas.{Agree}
use Rattle.abi_layout.proofs.rules.KindLemmas.{has_of}
use Rattle.abi_layout.proofs.rules.Stages.{Has}
use Rattle.abi_layout.proofs.algorithm.PlacedClassLemmas.{fronts_below, frees_below}
use Rattle.abi_layout.proofs.algorithm.CanSettleLemmas.{AreNested}
use Rattle.abi_layout.proofs.rules.RowPlacesSmall.{AreOf, of_each, of_both, of_moved, of_members, brought_of}
use Rattle.abi_layout.proofs.rules.AgreeingRows.{agree_less, agree_push}
use Rattle.abi_layout.proofs.rules.AgreeingParts.{member_parts_agree, members_same, object_parts_agree}
use Rattle.abi_layout.proofs.rules.AgreeingClasses.{laid_possible}
use Rattle.abi_layout.proofs.algorithm.NextKinds.{next_empty, next_pod}
use Rattle.abi_layout.proofs.algorithm.NextComponents.{IsNextKnown, primaries_alike, next_are_bases}
use Rattle.abi_layout.proofs.algorithm.NextScene.{next_before, next_nested}
use Rattle.abi_layout.proofs.algorithm.NextRow.{last_row, laid_more, row_parts_are, apart_more}

-- what the list tells of the classes before c, and of c with one entry more
pub told_more : {A : Type 0} (f : Option Known → A) (g : ClassId → A) (c : ClassId) (known : List Known) (k : Known) → length known ≡ c.0 → ((d : ClassId) → d.0 < c.0 → f (slice_get known d.0) ≡ g d) → f (Some k) ≡ g c → (d : ClassId) → d.0 < c.0 + 1 → f (slice_get (known ++ k ∷ []) d.0) ≡ g d
told_more f g c known k count before here d lt = ⊎_elim
    (λ same.
    let id : d ≡ c = ap number same in
    let there : slice_get (known ++ k ∷ []) d.0 ≡ Some k = ap (slice_get (known ++ k ∷ [])) (same ∙ sym count) ∙ last_one known k in
    ap f there ∙ (here ∙ ap g (sym id)))
    (λ o. ⊎_elim (λ l. sym (ap f (same_before known k d.0 (omega arith))) ∙ before d l) (λ g. absurd (omega arith)) o)
    (cases_order d.0 c.0)

-- one row more, of a class of a size
sized_more : (rows : List ClassLayout) (known : List Known) (row : ClassLayout) (k : Known) → length known ≡ length rows → AreAllSized rows known → IsSized row k.parts → AreAllSized (rows ++ row ∷ []) (known ++ k ∷ [])
sized_more rows known row k count all here = record { each = λ i r q e f. at i r q (old_or_last rows row i r e) (old_or_last known k i q f) }
  where
    at : (i : ℕ) (r : ClassLayout) (q : Known) → (slice_get rows i ≡ Some r) ⊎ ((i ≡ length rows) × (row ≡ r)) → (slice_get known i ≡ Some q) ⊎ ((i ≡ length known) × (k ≡ q)) → IsSized r q.parts
    at i r q (inl e) (inl f) = all.each i r q e f
    at i r q (inl e) (inr f) = let lt = slice_get_within rows i r e in let g = f.0 in absurd (omega arith)
    at i r q (inr e) (inl f) = let lt = slice_get_within known i q f in let g = e.0 in absurd (omega arith)
    at i r q (inr e) (inr f) = subst (λ (z : ClassLayout). IsSized z q.parts) e.1 (subst (λ (z : Known). IsSized row z.parts) f.1 here)

-- where components of classes before lie, these are
of_placed : (h : Classes) (c : ClassId) (rows : List ClassLayout) (known : List Known) (qs : List Primary) → ((base : PlacedBase) → (class_of_placed base).0 < c.0 → AreOf c.0 (brought_by h rows qs (known_parts_of known) c (subobject_of c base) (class_of_placed base)))
    → (bases : List PlacedBase) (places : List ℕ) → All (λ (base : PlacedBase). (class_of_placed base).0 < c.0) bases → AreOf c.0 (parts_at (components_by h rows known qs c bases) places)
of_placed h c rows known qs each [] places all = tt
of_placed h c rows known qs each (base ∷ bases) [] all = tt
of_placed h c rows known qs each (base ∷ bases) (place ∷ places) all =
    let parts = brought_by h rows qs (known_parts_of known) c (subobject_of c base) (class_of_placed base) in
    of_both c.0 (map (Rattle.abi_emptybase.specs.Table.moved_part place) parts) (parts_at (components_by h rows known qs c bases) places)
    (of_moved c.0 place parts (each base (All-head (λ (x : PlacedBase). (class_of_placed x).0 < c.0) base bases all)))
    (of_placed h c rows known qs each bases places (All-tail (λ (x : PlacedBase). (class_of_placed x).0 < c.0) base bases all))

part_of : (n : ℕ) (parts : List Part) (part : Part) → AreOf n parts → Has parts part → part.class < n
part_of n [] part of has = absurd has
part_of n (x ∷ parts) part of has = ⊎_elim (λ e. subst (λ (y : Part). y.class < n) e of.0) (λ r. part_of n parts part of.1 r) has

-- what an object of the next class brings is of classes up to it
row_parts_of : (h : Classes) (c : ClassId) (class : Class) (rows : List ClassLayout) (known : List Known) (members : List (List Part)) (nearly : List Bool) (ps : List Primary) (primary : Primary) (has_pointer : Bool) → IsNextKnown h c class rows known members nearly ps primary has_pointer
    → (row : ClassLayout) (part : Part) → Contains (row_parts h c rows known (ps ++ primary ∷ []) class row) part → part.class < c.0 + 1
row_parts_of h c class rows known members nearly ps primary has_pointer next row part has = ⊎_elim
    (λ e. let same : c.0 ≡ part.class = ap (λ (x : Part). x.class) e in omega arith)
    (λ r. let lt = part_of c.0 below part (of_both c.0 front (own ++ free) (at_bases (fronts qs c class) front_places (fronts_below h c class (primary_of qs c) next.keeps next.there (possible.each c (omega arith)))) (of_both c.0 own free at_members (at_bases (free_bases h qs c) free_places (frees_below h qs c next.keeps)))) r in omega arith)
    (has_of (placed_part c 0 ∷ below) part has)
  where
    qs : List Primary
    qs = ps ++ primary ∷ []

    front_places : List ℕ
    front_places = map (placed_place h (rows ++ row ∷ []) c) (fronts qs c class)

    free_places : List ℕ
    free_places = map (placed_place h (rows ++ row ∷ []) c) (free_bases h qs c)

    front : List Part
    front = parts_at (components_by h rows known qs c (fronts qs c class)) front_places

    own : List Part
    own = parts_at (members_by rows known class) row.member_places

    free : List Part
    free = parts_at (components_by h rows known qs c (free_bases h qs c)) free_places

    below : List Part
    below = front ++ (own ++ free)

    possible : Rattle.abi_layout.proofs.rules.AgreeingParts.ArePossible h (c.0 + 1) qs
    possible = next_are_bases h c class rows known members nearly ps primary has_pointer next

    at_bases : (bases : List PlacedBase) (places : List ℕ) → All (λ (base : PlacedBase). (class_of_placed base).0 < c.0) bases → AreOf c.0 (parts_at (components_by h rows known qs c bases) places)
    at_bases bases places all = of_placed h c rows known qs (λ base lt. brought_of h c rows known qs next.keeps (next_before h c class rows known members nearly ps primary has_pointer next) next.so_far.smaller ((class_of_placed base).0 + 1) (subobject_of c base) (class_of_placed base) lt) bases places all

    at_members : AreOf c.0 own
    at_members = of_members c.0 rows (known_parts_of known) class.members row.member_places
        (λ m d in_class object. let falls = next.keeps.objects c d m (subst (λ (o : Option Class). Contains (members_named o) m) (sym next.there) in_class) object in of_each c.0 (known_parts_of known d) (λ x in_it. next.so_far.smaller.smaller d x falls in_it))

-- with the next class one class more is known
pub so_far_more : (h : Classes) (c : ClassId) (class : Class) (rows : List ClassLayout) (known : List Known) (members : List (List Part)) (nearly : List Bool) (ps : List Primary) (primary : Primary) (has_pointer : Bool) → IsNextKnown h c class rows known members nearly ps primary has_pointer
    → (rows_new : List ClassLayout) (facts : ClassFacts) (kept : Known) (is : Bool) → IsRowAdded h c rows known (ps ++ primary ∷ []) class has_pointer rows_new facts → KeepsEnough h c facts.known kept → (IsTrue is ↔ IsNearlyEmpty h nearly (is_shifted h rows_new c) c)
    → IsLaidSoFar h (c.0 + 1) rows_new (known ++ kept ∷ []) (members ++ facts.members ∷ []) (nearly ++ is ∷ []) (ps ++ primary ∷ [])
so_far_more h c class rows known members nearly ps primary has_pointer next rows_new facts kept is added keeping told =
    subst (λ (xs : List ClassLayout). IsLaidSoFar h (c.0 + 1) xs (known ++ kept ∷ []) (members ++ facts.members ∷ []) (nearly ++ is ∷ []) (ps ++ primary ∷ [])) (sym added.rows_are)
    (made (subst (λ (xs : List ClassLayout). IsTrue is ↔ IsNearlyEmpty h nearly (is_shifted h xs c) c) added.rows_are told))
  where
    qs : List Primary
    qs = ps ++ primary ∷ []

    row : ClassLayout
    row = added.row

    all : List ClassLayout
    all = rows ++ row ∷ []

    after : List Known
    after = known ++ kept ∷ []

    row_there : slice_get all c.0 ≡ Some row
    row_there = last_row rows row c.0 next.so_far.by.one_each

    known_old : (d : ClassId) → d.0 < c.0 → slice_get known d.0 ≡ slice_get after d.0
    known_old d lt = let count = next.so_far.known_each in same_before known kept d.0 (omega arith)

    row_old : (d : ClassId) → d.0 < c.0 → slice_get rows d.0 ≡ slice_get all d.0
    row_old d lt = let count = next.so_far.by.one_each in same_before rows row d.0 (omega arith)

    agree : Agree h c.0 rows all (known_parts_of known) (known_parts_of after)
    agree = record { row = row_old; of_class = λ d lt is. ap parts_known (known_old d lt) }

    kept_there : (d : ClassId) → d.0 ≡ c.0 → slice_get after d.0 ≡ Some kept
    kept_there d same = let count = next.so_far.known_each in ap (slice_get after) (same ∙ sym count) ∙ last_one known kept

    parts_old : (d : ClassId) → d.0 < c.0 → IsMemberType h d → known_parts_of known d ≡ object_parts h all qs d
    parts_old d lt is =
        let row_each = next.so_far.by.one_each in
        let within = slice_get_within h c.0 class next.there in
        next.so_far.parts d lt is
        ∙ object_parts_agree h rows all ps qs d next.keeps (agree_less (d.0 + 1) c.0 rows all (omega arith) (agree_push c.0 rows row (omega arith))) (agree_less (d.0 + 1) c.0 ps qs (omega arith) (primaries_alike c ps primary next.so_far.by.primary_each))
        (laid_possible h c.0 (d.0 + 1) rows nearly ps (omega arith) (omega arith) next.so_far.by)

    parts_are : (d : ClassId) → d.0 < c.0 + 1 → IsMemberType h d → known_parts_of after d ≡ object_parts h all qs d
    parts_are d lt is = ⊎_elim
        (λ same.
        let id : d ≡ c = ap number same in
        ap parts_known (kept_there d same)
        ∙ (keeping.parts (subst (IsMemberType h) id is)
        ∙ (added.parts ∙ (row_parts_are h c class rows known members nearly ps primary has_pointer next row ∙ ap (object_parts h all qs) (sym id)))))
        (λ o. ⊎_elim (λ l. sym (ap parts_known (known_old d l)) ∙ parts_old d l is) (λ g. absurd (omega arith)) o)
        (cases_order d.0 c.0)

    members_are : facts.members ≡ parts_in_members h all (known_parts_of after) c
    members_are =
        added.members
        ∙ (ap (λ (xs : List Component). parts_at xs row.member_places) (members_same h rows all (known_parts_of known) (known_parts_of after) c class next.keeps next.there agree)
        ∙ (ap (λ (o : Option ClassLayout). parts_at (map (member_component all (known_parts_of after)) class.members) (member_places_in o)) (sym row_there)
        ∙ ap (λ (o : Option Class). parts_at (map (member_component all (known_parts_of after)) (members_named o)) (member_places_in (slice_get all c.0))) (sym next.there)))

    brings : (d : ClassId) (parts : List Part) → slice_get (members ++ facts.members ∷ []) d.0 ≡ Some parts → parts ≡ parts_in_members h all (known_parts_of after) d
    brings d parts e = ⊎_elim
        (λ old.
        let lt = slice_get_within members d.0 parts old in
        let count = next.so_far.member_each in
        next.so_far.brings d parts old ∙ member_parts_agree h c.0 rows all (known_parts_of known) (known_parts_of after) d next.keeps agree (omega arith))
        (λ new.
        let count = next.so_far.member_each in
        let id : c ≡ d = ap number (let same : c.0 ≡ d.0 = sym (new.0 ∙ count) in same) in
        sym new.1 ∙ (members_are ∙ ap (parts_in_members h all (known_parts_of after)) id))
        (old_or_last members facts.members d.0 parts e)

    nested : AreNested h (c.0 + 1) all qs
    nested = next_nested h c class rows known members nearly ps primary has_pointer next row added.is (let a = added.sized.nvsize in let b = added.sized.size in omega arith)

    by_members : (d : ClassId) (parts : List Part) → slice_get (members ++ facts.members ∷ []) d.0 ≡ Some parts → LieUpTo (nvsize_in (slice_get all d.0)) parts
    by_members d parts e = ⊎_elim
        (λ old.
        let lt = slice_get_within members d.0 parts old in
        let count = next.so_far.member_each in
        subst (λ (o : Option ClassLayout). LieUpTo (nvsize_in o) parts) (row_old d (omega arith)) (next.so_far.inside.by_members d parts old))
        (λ new.
        let count = next.so_far.member_each in
        let there : Some row ≡ slice_get all d.0 = sym row_there ∙ ap (slice_get all) (sym (new.0 ∙ count)) in
        subst (λ (o : Option ClassLayout). LieUpTo (nvsize_in o) parts) there (subst (λ (xs : List Part). LieUpTo row.nvsize xs) new.1 added.within))
        (old_or_last members facts.members d.0 parts e)

    kept_of : (part : Part) → Contains kept.parts part → part.class < c.0 + 1
    kept_of part has = ⊎_elim
        (λ e. row_parts_of h c class rows known members nearly ps primary has_pointer next row part (subst (λ (xs : List Part). Contains xs part) (e ∙ added.parts) has))
        (λ e. absurd (has_of [] part (subst (λ (xs : List Part). Contains xs part) e has)))
        keeping.less

    kept_sized : IsSized row kept.parts
    kept_sized = ⊎_elim
        (λ e. subst (λ (xs : List Part). IsSized row xs) (sym e) added.sized)
        (λ e. subst (λ (xs : List Part). IsSized row xs) (sym e) (record { align = added.sized.align; nvalign = added.sized.nvalign; nvsize = added.sized.nvsize; size = added.sized.size; parts = tt }))
        keeping.less

    smaller : (d : ClassId) (part : Part) → d.0 < c.0 + 1 → Contains (known_parts_of after d) part → part.class < c.0 + 1
    smaller d part lt has = ⊎_elim
        (λ same. kept_of part (subst (λ (xs : List Part). Contains xs part) (ap parts_known (kept_there d same)) has))
        (λ o. ⊎_elim
        (λ l. let less = next.so_far.smaller.smaller d part l (subst (λ (o : Option Known). Contains (parts_known o) part) (sym (known_old d l)) has) in omega arith)
        (λ g. absurd (omega arith)) o)
        (cases_order d.0 c.0)

    made : (IsTrue is ↔ IsNearlyEmpty h nearly (is_shifted h all c) c) → IsLaidSoFar h (c.0 + 1) all after (members ++ facts.members ∷ []) (nearly ++ is ∷ []) qs
    made tells = record {
      by = laid_more h c class rows known members nearly ps primary has_pointer next row is added.is tells;
      apart = apart_more h c class rows known members nearly ps primary has_pointer next row added.fronts_apart added.frees_apart;
      known_each = let l = longer known kept in let count = next.so_far.known_each in omega arith;
      member_each = let l = longer members facts.members in let count = next.so_far.member_each in omega arith;
      empties = told_more is_empty_in (is_empty h) c known kept next.so_far.known_each next.so_far.empties (keeping.is_empty ∙ (added.is_empty ∙ next_empty h next.keeps c class (empties_in known) next.there next.so_far.empties));
      pods = told_more is_pod_in (is_pod h) c known kept next.so_far.known_each next.so_far.pods (keeping.is_pod ∙ (added.is_pod ∙ next_pod h next.keeps c class (pods_in known) next.there next.so_far.pods));
      parts = parts_are;
      brings = brings;
      sized = sized_more rows known row kept (next.so_far.known_each ∙ sym next.so_far.by.one_each) next.so_far.sized kept_sized;
      before = next_before h c class rows known members nearly ps primary has_pointer next;
      inside = record {
        by_members = by_members;
        by_bases = nested.by_bases;
        by_primary = nested.by_primary;
      };
      smaller = record { smaller = smaller };
    }
