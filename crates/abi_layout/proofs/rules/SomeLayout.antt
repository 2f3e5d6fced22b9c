-- Every hierarchy has a layout.
use Rattle.std.proofs.Common.{◌≡◌, ℕ, zero, suc, ◌+◌, ◌<◌, ◌≤◌, Bool, true, false, Option, Some, None, List, [], ◌∷◌, ◌++◌, map, take, length, refl, ap, subst, sym, ◌∙◌, arith}
use Rattle.std.specs.Prelude.{IsTrue, ◌↔◌, ◌&&◌}
use Rattle.std.specs.List.{slice_get}
use Rattle.std.proofs.lemmas.List.{take_all, take-append-le}
use Rattle.std.proofs.lemmas.Option.{slice_get_within, get_or_from_slice_get}
use Rattle.cxx_hierarchy.specs.declared.records.ClassId.{ClassId}
use Rattle.cxx_hierarchy.specs.Classes.{Class, Classes, class_at}
use Rattle.cxx_hierarchy.specs.Hierarchies.{IsHierarchy}
use Rattle.abi_primary.specs.declared.Primary.{Primary}
use Rattle.abi_primary.specs.declared.Primary.TheVariants.{None as NoPrimary, Virtual}
use Rattle.abi_primary.specs.NearlyEmpty.{IsNearlyEmpty}
use Rattle.abi_primary.specs.PrimaryBase.{IsPrimary}
use Rattle.abi_sound.specs.declared.class_layout.ClassLayout.{ClassLayout}
use Rattle.abi_sound.specs.Places.{align_in, nvalign_in}
use Rattle.abi_layout.specs.Kinds.{is_kind}
use Rattle.abi_layout.specs.Placements.{stage_after_all, member_component}
use Rattle.abi_layout.specs.Layouts.{primary_of, placed_place, fronts, front_components, free_components, object_parts, start_stage, IsLaidRow, is_shifted, IsLaidBy, AreFirstLaid}
use Rattle.abi_layout.specs.PlacedBases.{free_bases}
use Rattle.abi_layout.proofs.rules.Existence.{align_grows}
use Rattle.abi_layout.proofs.lists.Lists.{number, get_within}
use Rattle.abi_layout.proofs.lists.LastItems.{longer, last_one}
use Rattle.abi_layout.proofs.sound.ObjectTree.{dynamic_kind, is_no_primary, owns_pointer}
use Rattle.abi_layout.proofs.rules.AgreeingRows.{AgreeTo, agree_turned, agree_push}
use Rattle.abi_layout.proofs.rules.AgreeingParts.{ArePossible, possible_agrees}
use Rattle.abi_layout.proofs.rules.AgreeingClasses.{laid_possible, next_possible, primary_possible, is_primary_agrees, nearly_empty_agrees}
use Rattle.abi_layout.proofs.rules.AgreeingFirst.{one_more}
use Rattle.abi_layout.proofs.rules.SomeLayoutTests.{HasPrimary, primary_exists, pointer_told, IsTold, nearly_told}
use Rattle.abi_layout.proofs.rules.SomeLayoutRows.{start_positive, IsReady, HasNextRow, row_exists}

-- the alignments of a row that is laid out are not 0
record IsPositiveRow (row : ClassLayout) : Type 0 where
  nvalign : 1 ≤ row.nvalign
  align : 1 ≤ row.align

row_positive : (h : Classes) (rows : List ClassLayout) (nearly : List Bool) (ps : List Primary) (c : ClassId) (class : Class) (row : ClassLayout) → IsLaidRow h rows nearly ps c class row → IsPositiveRow row
row_positive h rows nearly ps c class row is =
    let first = start_stage c is.has_pointer in
    let fs = front_components h rows ps (object_parts h rows ps) c class in
    let ms = map (member_component rows (object_parts h rows ps)) class.members in
    let vs = free_components h rows ps (object_parts h rows ps) c in
    let front_places = map (placed_place h rows c) (fronts ps c class) in
    let free_places = map (placed_place h rows c) (free_bases h ps c) in
    let start = start_positive c is.has_pointer in
    let x = align_grows first fs front_places in
    let y = align_grows (stage_after_all first fs front_places) ms row.member_places in
    let z = align_grows (stage_after_all (stage_after_all first fs front_places) ms row.member_places) vs free_places in
    let e = is.placed.nvalign in
    let f = is.placed.align in
    record { nvalign = omega arith; align = omega arith }

-- the alignments of rows that are laid out
all_positive : (h : Classes) (n : ℕ) (rows : List ClassLayout) (nearly : List Bool) (ps : List Primary) → n ≤ length h → IsLaidBy h n rows nearly ps → (i : ℕ) (row : ClassLayout) → slice_get rows i ≡ Some row → IsPositiveRow row
all_positive h n rows nearly ps le laid i row there =
    let a = laid.one_each in
    let lt = slice_get_within rows i row there in
    let class = get_within h i (omega arith) in
    row_positive h rows nearly ps (number i) class.0 row (laid.row (number i) class.0 row class.1 there)

nvalign_positive : (rows : List ClassLayout) → ((i : ℕ) (row : ClassLayout) → slice_get rows i ≡ Some row → IsPositiveRow row) → (i : ℕ) → 1 ≤ nvalign_in (slice_get rows i)
nvalign_positive rows each i = of (slice_get rows i) refl
  where
    of : (o : Option ClassLayout) → slice_get rows i ≡ o → 1 ≤ nvalign_in o
    of None e = omega arith
    of (Some row) e = (each i row e).nvalign

align_positive : (rows : List ClassLayout) → ((i : ℕ) (row : ClassLayout) → slice_get rows i ≡ Some row → IsPositiveRow row) → (i : ℕ) → 1 ≤ align_in (slice_get rows i)
align_positive rows each i = of (slice_get rows i) refl
  where
    of : (o : Option ClassLayout) → slice_get rows i ≡ o → 1 ≤ align_in o
    of None e = omega arith
    of (Some row) e = (each i row e).align

-- a class whose primary base is virtual has no virtual pointer of its own
shares_pointer : (h : Classes) (ps : List Primary) (c v : ClassId) → primary_of ps c ≡ Virtual v → owns_pointer h ps c ≡ false
shares_pointer h ps c v e = ap (λ (p : Primary). is_kind dynamic_kind h c && is_no_primary p) e ∙ never (is_kind dynamic_kind h c)
  where
    never : (b : Bool) → (b && false) ≡ false
    never true = refl
    never false = refl

-- the layout of one class more
pub record HasMore (h : Classes) (n : ℕ) : Type 0 where
  pub rows : List ClassLayout
  pub nearly : List Bool
  pub primaries : List Primary
  pub laid : IsLaidBy h n rows nearly primaries

-- behind each layout of the first classes there is one of one class more
pub more_exists : (h : Classes) (n : ℕ) (rows : List ClassLayout) (nearly : List Bool) (ps : List Primary) → IsHierarchy h → n < length h → IsLaidBy h n rows nearly ps → HasMore h (n + 1)
more_exists h n rows nearly ps keeps lt laid = record {
  rows = rows ++ next.row ∷ [];
  nearly = nearly ++ told.is ∷ [];
  primaries = qs;
  laid = one_more h n rows nearly ps c class next.row told.is has.primary keeps laid there refl is told_is;
}
  where
    c : ClassId
    c = number n

    found : (x : Class) × (slice_get h n ≡ Some x)
    found = get_within h n lt

    class : Class
    class = found.0

    there : class_at h c ≡ Some class
    there = found.1

    has : HasPrimary h nearly ps c
    has = primary_exists h nearly ps c keeps

    qs : List Primary
    qs = ps ++ has.primary ∷ []

    first : primary_of qs c ≡ has.primary
    first = get_or_from_slice_get qs n has.primary NoPrimary (ap (slice_get qs) (sym laid.primary_each) ∙ last_one ps has.primary)

    front : take n qs ≡ ps
    front = let e = laid.primary_each in take-append-le n ps (has.primary ∷ []) (omega arith) ∙ take_all n ps (omega arith)

    is_primary : IsPrimary h nearly (take n qs) c (primary_of qs c)
    is_primary = subst (λ (xs : List Primary). IsPrimary h nearly xs c (primary_of qs c)) (sym front) (subst (IsPrimary h nearly ps c) (sym first) has.is)

    alike : AgreeTo n ps qs
    alike = let e = laid.primary_each in agree_push n ps has.primary (omega arith)

    possible : ArePossible h (n + 1) qs
    possible = next_possible h c qs (possible_agrees h n ps qs alike (laid_possible h n n rows nearly ps (omega arith) (omega arith) laid)) (primary_possible h nearly (take n qs) c (primary_of qs c) is_primary)

    positive : (i : ℕ) (row : ClassLayout) → slice_get rows i ≡ Some row → IsPositiveRow row
    positive = all_positive h n rows nearly ps (omega arith) laid

    ready : IsReady h c class rows qs (owns_pointer h qs c)
    ready = record {
      keeps = keeps;
      there = there;
      row_each = laid.one_each;
      primary_each = let a = longer ps has.primary in let b = laid.primary_each in omega arith;
      possible = possible;
      without = λ v e. shares_pointer h qs c v e;
      nvaligns = nvalign_positive rows positive;
      aligns = align_positive rows positive;
    }

    next : HasNextRow h c class rows nearly qs
    next = row_exists h c class rows nearly qs (owns_pointer h qs c) ready is_primary (pointer_told h qs c keeps)

    told : IsTold (IsNearlyEmpty h nearly (is_shifted h (rows ++ next.row ∷ []) c) c)
    told = nearly_told h nearly (is_shifted h (rows ++ next.row ∷ []) c) c keeps

    near : AgreeTo n nearly (nearly ++ told.is ∷ [])
    near = let e = laid.tells.one_each in agree_push n nearly told.is (omega arith)

    told_is : IsTrue told.is ↔ IsNearlyEmpty h (nearly ++ told.is ∷ []) (is_shifted h (rows ++ next.row ∷ []) c) c
    told_is = (
      λ t. nearly_empty_agrees h nearly (nearly ++ told.is ∷ []) (is_shifted h (rows ++ next.row ∷ []) c) c keeps near (told.told.0 t),
      λ x. told.told.1 (nearly_empty_agrees h (nearly ++ told.is ∷ []) nearly (is_shifted h (rows ++ next.row ∷ []) c) c keeps (agree_turned n nearly (nearly ++ told.is ∷ []) near) x),
    )

    is : IsLaidRow h (rows ++ next.row ∷ []) (nearly ++ told.is ∷ []) qs c class next.row
    is = with_primary next.is (is_primary_agrees h nearly (nearly ++ told.is ∷ []) (take n qs) c (primary_of qs c) keeps near is_primary)
      where
        with_primary : IsLaidRow h (rows ++ next.row ∷ []) nearly qs c class next.row → IsPrimary h (nearly ++ told.is ∷ []) (take n qs) c (primary_of qs c) → IsLaidRow h (rows ++ next.row ∷ []) (nearly ++ told.is ∷ []) qs c class next.row
        with_primary x p = record { is_primary = p; primary = x.primary; has_pointer = x.has_pointer; pointer = x.pointer; placed = x.placed; each_base = x.each_base; virtuals = x.virtuals; each_virtual = x.each_virtual; holders = x.holders; held = x.held }

-- the layout of no class
none_laid : (h : Classes) → IsLaidBy h 0 [] [] []
none_laid h = record {
  one_each = refl;
  tells = record { one_each = refl; each = λ c lt. absurd (omega arith) };
  primary_each = refl;
  row = λ c class row there e. let f : None ≡ Some row = e in cc;
}

-- the first n classes have a layout
pub first_exist : (h : Classes) → IsHierarchy h → (n : ℕ) → n ≤ length h → HasMore h n
first_exist h keeps zero le = record { rows = []; nearly = []; primaries = []; laid = none_laid h }
first_exist h keeps (suc n) le =
    let before = first_exist h keeps n (omega arith) in
    let more = more_exists h n before.rows before.nearly before.primaries keeps (omega arith) before.laid in
    let next : n + 1 ≡ suc n = omega arith in
    subst (HasMore h) next more

-- every hierarchy has a layout
pub some_layout : (h : Classes) → IsHierarchy h → (rows : List ClassLayout) × AreFirstLaid h (length h) rows
some_layout h keeps = let made = first_exist h keeps (length h) (omega arith) in (made.rows, record { nearly = made.nearly; primaries = made.primaries; by = made.laid })
