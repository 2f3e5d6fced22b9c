-- At most one layout meets the rules, so that a class has one size, and a class of a layout is not refused.
use Rattle.std.proofs.Common.{◌≡◌, ℕ, zero, suc, ◌+◌, ◌<◌, ◌≤◌, Bool, false, Some, List, map, take, length, get_or, refl, ap, subst, sym, ◌∙◌, arith}
use Rattle.std.specs.Prelude.{IsTrue, ◌↔◌}
use Rattle.std.specs.List.{slice_get}
use Rattle.std.proofs.lemmas.Option.{slice_get-get_or, slice_get_within}
use Rattle.cxx_hierarchy.specs.declared.records.ClassId.{ClassId}
use Rattle.cxx_hierarchy.specs.Classes.{Class, Classes}
use Rattle.cxx_hierarchy.specs.Hierarchies.{IsHierarchy}
use Rattle.abi_primary.specs.declared.Primary.{Primary}
use Rattle.abi_primary.specs.declared.Primary.TheVariants.{None as NoPrimary}
use Rattle.abi_primary.specs.NearlyEmpty.{IsNearlyEmpty}
use Rattle.abi_primary.specs.PrimaryBase.{IsPrimary}
use Rattle.abi_sound.specs.declared.class_layout.ClassLayout.{ClassLayout}
use Rattle.abi_layout.specs.Limits.{size_limit}
use Rattle.abi_layout.specs.Kinds.{is_pod}
use Rattle.abi_layout.specs.Placements.{member_component}
use Rattle.abi_layout.specs.PlacedBases.{free_bases}
use Rattle.abi_layout.specs.Layouts.{placed_place, primary_of, fronts, front_components, free_components, object_parts, start_stage, IsArrangedBy, HasPointer, is_shifted, IsLaidBy, AreFirstLaid, BringsTwice}
use Rattle.abi_layout.specs.Refusals.{IsNextToLayOut, HasSize, IsLargeClass, HasSharedPlace, IsWellLaid}
use Rattle.abi_layout.proofs.lists.Lists.{number, get_within}
use Rattle.abi_layout.proofs.rules.AgreeingRows.{AgreeTo, agree_less, agree_turned, agree_take, take_agrees}
use Rattle.abi_layout.proofs.rules.AgreeingParts.{ArePossible, possible_agrees}
use Rattle.abi_layout.proofs.rules.AgreeingClasses.{laid_possible, is_primary_agrees, nearly_empty_agrees, shifted_agrees, arranged_agrees, brings_twice_agrees, pointer_agrees}
use Rattle.abi_layout.proofs.rules.AgreeingFirst.{one_of}
use Rattle.abi_layout.proofs.rules.OneLayoutLists.{agree_whole, agree_grows, bool_same, layout_is_one as arranged_once}
use Rattle.abi_layout.proofs.rules.OneLayoutRows.{primary_is_one, AreRows, row_is_one}

-- two layouts agree on the first n classes
pub record AreOneTo (n : ℕ) (rows others : List ClassLayout) (near other : List Bool) (ps qs : List Primary) : Type 0 where
  pub rows_agree : AgreeTo n rows others
  pub nearly_agree : AgreeTo n near other
  pub primaries_agree : AgreeTo n ps qs

grows : {X : Type 0} (n : ℕ) (xs ys : List X) → AgreeTo n xs ys → slice_get xs n ≡ slice_get ys n → AgreeTo (suc n) xs ys
grows n xs ys agree here = agree_less (suc n) (n + 1) xs ys (omega arith) (agree_grows n xs ys agree here)

item_same : {X : Type 0} (n : ℕ) (xs ys : List X) (d : X) → n < length xs → n < length ys → get_or xs n d ≡ get_or ys n d → slice_get xs n ≡ slice_get ys n
item_same {X} n xs ys d lt less same = slice_get-get_or xs n d lt ∙ (ap (λ (x : X). Some x) same ∙ sym (slice_get-get_or ys n d less))

-- whether a class is nearly empty, by two layouts that agree up to it
nearly_one : (h : Classes) (rows others : List ClassLayout) (near other : List Bool) (c : ClassId) → IsHierarchy h → AgreeTo (c.0 + 1) rows others → AgreeTo c.0 near other → (IsTrue (get_or near c.0 false) ↔ IsNearlyEmpty h near (is_shifted h rows c) c) → (IsTrue (get_or other c.0 false) ↔ IsNearlyEmpty h other (is_shifted h others c) c) → get_or near c.0 false ≡ get_or other c.0 false
nearly_one h rows others near other c keeps agree nearly told also =
    let shifted = shifted_agrees h rows others c keeps agree in
    bool_same (get_or near c.0 false) (get_or other c.0 false) told (
      λ t. subst (λ b. IsNearlyEmpty h near b c) (sym shifted) (nearly_empty_agrees h other near (is_shifted h others c) c keeps (agree_turned c.0 near other nearly) (also.0 t)),
      λ e. also.1 (nearly_empty_agrees h near other (is_shifted h others c) c keeps nearly (subst (λ b. IsNearlyEmpty h near b c) shifted e)),
    )

-- one class more
one_class : (h : Classes) (count n : ℕ) (rows others : List ClassLayout) (near other : List Bool) (ps qs : List Primary) → IsHierarchy h → count ≤ length h → IsLaidBy h count rows near ps → IsLaidBy h count others other qs → n < count → AreOneTo n rows others near other ps qs → AreOneTo (suc n) rows others near other ps qs
one_class h count n rows others near other ps qs keeps within laid also lt before =
    let a = laid.one_each in
    let b = also.one_each in
    let d = laid.primary_each in
    let e = also.primary_each in
    let f = laid.tells.one_each in
    let g = also.tells.one_each in
    let class = get_within h n (omega arith) in
    let x = get_within rows n (omega arith) in
    let y = get_within others n (omega arith) in
    let l = laid.row (number n) class.0 x.0 class.1 x.1 in
    let k = also.row (number n) class.0 y.0 class.1 y.1 in
    let fronts_same : take n ps ≡ take n qs = take_agrees n ps qs before.primaries_agree in
    let first : primary_of ps (number n) ≡ primary_of qs (number n) =
    primary_is_one h other (take n qs) (number n) (primary_of ps (number n)) (primary_of qs (number n))
    (subst (λ (earlier : List Primary). IsPrimary h other earlier (number n) (primary_of ps (number n))) fronts_same (is_primary_agrees h near other (take n ps) (number n) (primary_of ps (number n)) keeps before.nearly_agree l.is_primary))
    k.is_primary in
    let alike : AgreeTo (n + 1) ps qs = agree_grows n ps qs before.primaries_agree (item_same n ps qs NoPrimary (omega arith) (omega arith) first) in
    let possible : ArePossible h (n + 1) ps = laid_possible h count (n + 1) rows near ps (omega arith) (omega arith) laid in
    let pair : AreRows h rows others near other ps qs (number n) class.0 x.0 y.0 = record { keeps = keeps; class_is = class.1; agree = before.rows_agree; alike = alike; possible = possible; there = x.1; other_there = y.1; row = l; other_row = k } in
    let same = row_is_one h rows others near other ps qs (number n) class.0 x.0 y.0 pair in
    let agree : AgreeTo (n + 1) rows others = agree_grows n rows others before.rows_agree (x.1 ∙ (ap (λ (r : ClassLayout). Some r) same ∙ sym y.1)) in
    let nearly = nearly_one h rows others near other (number n) keeps agree before.nearly_agree (laid.tells.each (number n) lt) (also.tells.each (number n) lt) in
    record {
      rows_agree = agree_less (suc n) (n + 1) rows others (omega arith) agree;
      nearly_agree = grows n near other before.nearly_agree (item_same n near other false (omega arith) (omega arith) nearly);
      primaries_agree = agree_less (suc n) (n + 1) ps qs (omega arith) alike;
    }

one_to : (h : Classes) (count : ℕ) (rows others : List ClassLayout) (near other : List Bool) (ps qs : List Primary) → IsHierarchy h → count ≤ length h → IsLaidBy h count rows near ps → IsLaidBy h count others other qs → (n : ℕ) → n ≤ count → AreOneTo n rows others near other ps qs
one_to h count rows others near other ps qs keeps within laid also zero le = record {
  rows_agree = record { each = λ i lt. absurd (omega arith) };
  nearly_agree = record { each = λ i lt. absurd (omega arith) };
  primaries_agree = record { each = λ i lt. absurd (omega arith) };
}
one_to h count rows others near other ps qs keeps within laid also (suc n) le = one_class h count n rows others near other ps qs keeps within laid also (omega arith) (one_to h count rows others near other ps qs keeps within laid also n (omega arith))

-- two layouts are one
pub record AreOne (rows others : List ClassLayout) (near other : List Bool) (ps qs : List Primary) : Type 0 where
  pub rows_same : rows ≡ others
  pub nearly_same : near ≡ other
  pub primaries_same : ps ≡ qs

-- the layout of the first classes is one
pub one_first : (h : Classes) (count : ℕ) (rows others : List ClassLayout) (near other : List Bool) (ps qs : List Primary) → IsHierarchy h → count ≤ length h → IsLaidBy h count rows near ps → IsLaidBy h count others other qs → AreOne rows others near other ps qs
one_first h count rows others near other ps qs keeps within laid also =
    let all = one_to h count rows others near other ps qs keeps within laid also count (omega arith) in
    record {
      rows_same = agree_whole count rows others laid.one_each also.one_each all.rows_agree;
      nearly_same = agree_whole count near other laid.tells.one_each also.tells.one_each all.nearly_agree;
      primaries_same = agree_whole count ps qs laid.primary_each also.primary_each all.primaries_agree;
    }

pub layout_is_one : (h : Classes) (count : ℕ) (rows others : List ClassLayout) → IsHierarchy h → count ≤ length h → AreFirstLaid h count rows → AreFirstLaid h count others → rows ≡ others
layout_is_one h count rows others keeps within l k = (one_first h count rows others l.nearly k.nearly l.primaries k.primaries keeps within l.by k.by).rows_same

-- what is known before a class is one
pub record AreSameNext (h : Classes) (c : ClassId) (x y : IsNextToLayOut h c) : Type 0 where
  pub class : x.class ≡ y.class
  pub rows : x.rows ≡ y.rows
  pub nearly : x.nearly ≡ y.nearly
  pub primaries : x.primaries ≡ y.primaries
  pub has_pointer : x.has_pointer ≡ y.has_pointer

pub next_is_one : (h : Classes) (c : ClassId) → IsHierarchy h → (x y : IsNextToLayOut h c) → AreSameNext h c x y
next_is_one h c keeps x y = record {
  class = let e : Some x.class ≡ Some y.class = sym x.there ∙ y.there in cc;
  rows = before.rows_same;
  nearly = before.nearly_same;
  primaries = primaries;
  has_pointer = bool_same x.has_pointer y.has_pointer (pointer_agrees h x.primaries y.primaries c x.has_pointer alike x.pointer) y.pointer;
}
  where
    before : AreOne x.rows y.rows x.nearly y.nearly (take c.0 x.primaries) (take c.0 y.primaries)
    before = let lt = slice_get_within h c.0 x.class x.there in one_first h c.0 x.rows y.rows x.nearly y.nearly (take c.0 x.primaries) (take c.0 y.primaries) keeps (omega arith) x.laid y.laid

    first : primary_of x.primaries c ≡ primary_of y.primaries c
    first = primary_is_one h y.nearly (take c.0 y.primaries) c (primary_of x.primaries c) (primary_of y.primaries c)
        (subst (λ (near : List Bool). IsPrimary h near (take c.0 y.primaries) c (primary_of x.primaries c)) before.nearly_same (subst (λ (earlier : List Primary). IsPrimary h x.nearly earlier c (primary_of x.primaries c)) before.primaries_same x.is_primary))
        y.is_primary

    fronts_agree : AgreeTo c.0 x.primaries y.primaries
    fronts_agree = record {
      each = λ i lt.
          (agree_take c.0 x.primaries).each i lt ∙ (ap (λ (ps : List Primary). slice_get ps i) before.primaries_same ∙ sym ((agree_take c.0 y.primaries).each i lt));
    }

    alike : AgreeTo (c.0 + 1) x.primaries y.primaries
    alike = let a = x.primary_each in let b = y.primary_each in agree_grows c.0 x.primaries y.primaries fronts_agree (item_same c.0 x.primaries y.primaries NoPrimary (omega arith) (omega arith) first)

    primaries : x.primaries ≡ y.primaries
    primaries = agree_whole (c.0 + 1) x.primaries y.primaries x.primary_each y.primary_each alike

-- an arrangement by what is known before a class, along equations
arranged_along : (h : Classes) (c : ClassId) (rows others : List ClassLayout) (ps qs : List Primary) (class kind : Class) (has_pointer own : Bool) (front_places free_places : List ℕ) (row : ClassLayout) → rows ≡ others → ps ≡ qs → class ≡ kind → has_pointer ≡ own
    → IsArrangedBy h rows ps c class has_pointer front_places free_places row → IsArrangedBy h others qs c kind own front_places free_places row
arranged_along h c rows others ps qs class kind has_pointer own front_places free_places row a b d e is =
    subst (λ o. IsArrangedBy h others qs c kind o front_places free_places row) e
    (subst (λ (k : Class). IsArrangedBy h others qs c k has_pointer front_places free_places row) d
    (subst (λ (xs : List Primary). IsArrangedBy h others xs c class has_pointer front_places free_places row) b
    (subst (λ (xs : List ClassLayout). IsArrangedBy h xs ps c class has_pointer front_places free_places row) a is)))

-- a class has one size
pub one_size : (h : Classes) (c : ClassId) (m n : ℕ) → IsHierarchy h → HasSize h c m → HasSize h c n → m ≡ n
one_size h c m n keeps x y =
    let same = next_is_one h c keeps x.next y.next in
    let is = arranged_once (start_stage c y.next.has_pointer) (front_components h y.next.rows y.next.primaries (object_parts h y.next.rows y.next.primaries) c y.next.class) (map (member_component y.next.rows (object_parts h y.next.rows y.next.primaries)) y.next.class.members) (free_components h y.next.rows y.next.primaries (object_parts h y.next.rows y.next.primaries) c)
    x.front_places y.front_places x.free_places y.free_places (is_pod h c) x.row y.row
    (arranged_along h c x.next.rows y.next.rows x.next.primaries y.next.primaries x.next.class y.next.class x.next.has_pointer y.next.has_pointer x.front_places x.free_places x.row same.rows same.primaries same.class same.has_pointer x.placed)
    y.placed in
    sym x.is ∙ (is.size ∙ y.is)

-- a class within the limit of sizes is not too large
pub not_large_small : (h : Classes) (c : ClassId) (size : ℕ) → IsHierarchy h → HasSize h c size → size ≤ size_limit → IsLargeClass h c → ⊥
not_large_small h c size keeps has small large = let same = one_size h c size large.size keeps has large.has in let more = large.large in absurd (omega arith)

-- a class of a layout has the size that its row tells
pub record HasRowSize (h : Classes) (rows : List ClassLayout) (c : ClassId) : Type 0 where
  pub row : ClassLayout
  pub there : slice_get rows c.0 ≡ Some row
  pub has : HasSize h c row.size

pub laid_size : (h : Classes) (count : ℕ) (rows : List ClassLayout) (nearly : List Bool) (ps : List Primary) (c : ClassId) → IsHierarchy h → count ≤ length h → c.0 < count → IsLaidBy h count rows nearly ps → HasRowSize h rows c
laid_size h count rows nearly ps c keeps within lt laid =
    let a = laid.one_each in
    let class = get_within h c.0 (omega arith) in
    let row = get_within rows c.0 (omega arith) in
    let l = laid.row c class.0 row.0 class.1 row.1 in
    let it = one_of h count rows nearly ps c keeps within lt laid in
    let next = it.next in
    let same : class.0 ≡ next.class = let e : Some class.0 ≡ Some next.class = sym class.1 ∙ next.there in cc in
    let agree : AgreeTo c.0 rows (take c.0 rows) = agree_take c.0 rows in
    let alike : AgreeTo (c.0 + 1) ps (take (c.0 + 1) ps) = agree_take (c.0 + 1) ps in
    let possible : ArePossible h (c.0 + 1) ps = laid_possible h count (c.0 + 1) rows nearly ps (omega arith) (omega arith) laid in
    let front_places = map (placed_place h rows c) (fronts ps c class.0) in
    let free_places = map (placed_place h rows c) (free_bases h ps c) in
    let placed = arranged_agrees h rows (take c.0 rows) ps (take (c.0 + 1) ps) c class.0 l.has_pointer front_places free_places row.0 keeps class.1 agree alike possible l.placed in
    let pointer : l.has_pointer ≡ next.has_pointer = bool_same l.has_pointer next.has_pointer
    (subst (λ (qs : List Primary). HasPointer h qs c l.has_pointer) (sym it.primaries_are) (pointer_agrees h ps (take (c.0 + 1) ps) c l.has_pointer alike l.pointer)) next.pointer in
    record {
      row = row.0;
      there = row.1;
      has = record {
        next = next;
        front_places = front_places;
        free_places = free_places;
        row = row.0;
        placed = arranged_along h c (take c.0 rows) next.rows (take (c.0 + 1) ps) next.primaries class.0 next.class l.has_pointer next.has_pointer front_places free_places row.0 (sym it.rows_are) (sym it.primaries_are) same pointer placed;
        is = refl;
      };
    }

-- a class of a layout that is not refused is not too large
pub not_large : (h : Classes) (count : ℕ) (rows : List ClassLayout) (c : ClassId) → IsHierarchy h → count ≤ length h → c.0 < count → IsWellLaid h count rows → IsLargeClass h c → ⊥
not_large h count rows c keeps within lt well large =
    let it = laid_size h count rows well.nearly well.primaries c keeps within lt well.by in
    not_large_small h c it.row.size keeps it.has (well.small.each c.0 it.row it.there) large

-- and none of its bases brings one pair of class and place twice
pub not_shared : (h : Classes) (count : ℕ) (rows : List ClassLayout) (c : ClassId) → IsHierarchy h → count ≤ length h → c.0 < count → IsWellLaid h count rows → HasSharedPlace h c → ⊥
not_shared h count rows c keeps within lt well shared =
    let it = one_of h count rows well.nearly well.primaries c keeps within lt well.by in
    let same = next_is_one h c keeps shared.next it.next in
    let rows_are : shared.next.rows ≡ take c.0 rows = same.rows ∙ it.rows_are in
    let primaries_are : shared.next.primaries ≡ take (c.0 + 1) well.primaries = same.primaries ∙ it.primaries_are in
    let twice : BringsTwice h (take c.0 rows) (take (c.0 + 1) well.primaries) c shared.next.class =
    subst (λ (xs : List Primary). BringsTwice h (take c.0 rows) xs c shared.next.class) primaries_are (subst (λ (xs : List ClassLayout). BringsTwice h xs shared.next.primaries c shared.next.class) rows_are shared.twice) in
    let alike : AgreeTo (c.0 + 1) well.primaries (take (c.0 + 1) well.primaries) = agree_take (c.0 + 1) well.primaries in
    let possible : ArePossible h (c.0 + 1) well.primaries = laid_possible h count (c.0 + 1) rows well.nearly well.primaries (omega arith) (omega arith) well.by in
    well.apart.each c shared.next.class lt shared.next.there
    (brings_twice_agrees h (take c.0 rows) rows (take (c.0 + 1) well.primaries) well.primaries c shared.next.class keeps shared.next.there
    (agree_turned c.0 rows (take c.0 rows) (agree_take c.0 rows)) (agree_turned (c.0 + 1) well.primaries (take (c.0 + 1) well.primaries) alike)
    (possible_agrees h (c.0 + 1) well.primaries (take (c.0 + 1) well.primaries) alike possible) twice)
