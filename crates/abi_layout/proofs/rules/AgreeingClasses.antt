-- Primary bases, nearly empty classes and rows of classes, by rows and lists that agree on the first classes.
use Rattle.std.proofs.Common.{◌≡◌, ℕ, ◌+◌, ◌<◌, ◌≤◌, ⊎_elim, Bool, false, cond, Option, Some, None, List, ◌∷◌, ◌++◌, map, take, length, refl, ap, subst, sym, ◌∙◌, arith}
use Rattle.std.specs.Prelude.{IsTrue, ◌↔◌, Contains, ◌&&◌, ◌==◌, not}
use Rattle.std.specs.List.{find, count_by}
use Rattle.std.proofs.lemmas.Bool.{cases_order}
use Rattle.std.proofs.lemmas.List.Elements.{All-contains, Contains-append_cases}
use Rattle.cxx_hierarchy.specs.declared.records.ClassId.{ClassId}
use Rattle.cxx_hierarchy.specs.declared.records.Base.{Base}
use Rattle.cxx_hierarchy.specs.Classes.{Class, Classes, class_at, bases_of}
use Rattle.cxx_hierarchy.specs.Hierarchies.{IsHierarchy}
use Rattle.cxx_subobject.specs.declared.Subobject.{Subobject}
use Rattle.cxx_subobject.specs.Subobjects.{IsSubobject, whole, shared, class_of}
use Rattle.cxx_subobject.specs.Preorder.{preorder}
use Rattle.cxx_subobject.proofs.ListLemmas.{contains_from_has}
use Rattle.cxx_subobject.proofs.SumLemmas.{sum_same}
use Rattle.cxx_subobject.proofs.TreeLemmas.{has_preorder, preorder_lists}
use Rattle.abi_primary.specs.declared.Primary.{Primary}
use Rattle.abi_primary.specs.declared.Primary.TheVariants.{None as NoPrimary}
use Rattle.abi_primary.specs.Kinds.{IsDynamic}
use Rattle.abi_primary.specs.NearlyEmpty.{is_nearly, IsLight, is_virtual as by_way, is_empty as by_kind, is_nearly_empty as by_list, is_pointer_base, IsNearlyEmpty}
use Rattle.abi_primary.specs.PrimaryBase.{is_nearly_base, is_taken_root, is_free_base, as_primary, choice, virtual_primary as chosen_virtual, IsPrimary, of_direct, of_virtual}
use Rattle.abi_primary.specs.Holder.{holder_of}
use Rattle.abi_primary.proofs.HolderLemmas.{held}
use Rattle.abi_layout.specs.declared.component.Component.{Component}
use Rattle.abi_layout.specs.declared.component.Stage.{Stage}
use Rattle.abi_sound.specs.declared.class_layout.ClassLayout.{ClassLayout}
use Rattle.abi_layout.specs.declared.placed_bases.PlacedBase.{PlacedBase}
use Rattle.abi_layout.specs.Kinds.{is_pod}
use Rattle.abi_layout.specs.Placements.{member_component}
use Rattle.cxx_subobject.specs.VirtualBases.{virtual_bases}
use Rattle.abi_layout.specs.Repeats.{HasRepeat}
use Rattle.abi_layout.specs.PlacedBases.{class_of_placed, subobject_of, free_bases, IsPossible}
use Rattle.abi_layout.specs.Layouts.{place_in_class, placed_place, primary_of, fronts, front_components, free_components, object_parts, start_stage, IsLayoutBy, IsArrangedBy, HasPointer, IsLaidRow, is_whole, is_empty_in, is_shifted, IsLaidBy, BringsTwice}
use Rattle.abi_layout.proofs.lists.Lists.{has_at, get_within}
use Rattle.abi_layout.proofs.rules.PartLemmas.{Agree}
use Rattle.cxx_subobject.proofs.PathLemmas.{virtual_below}
use Rattle.abi_layout.proofs.algorithm.PlacedClassLemmas.{fronts_below, frees_below}
use Rattle.foundation.proofs.Members.{map_same}
use Rattle.abi_sound.proofs.ChainLemmas.{find_has}
use Rattle.abi_layout.proofs.rules.AgreeingRows.{AgreeTo, agree_less, agree_item, take_agrees, find_same, any_same, primary_agrees, fronts_agree, holder_agrees, free_agree, virtual_place_agrees, place_agrees}
use Rattle.abi_layout.proofs.rules.AgreeingParts.{ArePossible, possible_less, brought_agrees, front_agree, frees_agree, members_same, front_places_agree, free_places_agree, agree_before}

-- the root of a subobject, as a primary base
root_possible : (h : Classes) (c : ClassId) (s : Subobject) → IsSubobject h c s → IsPossible h c (as_primary s.root)
root_possible h c _ (whole path leads) = tt
root_possible h c _ (shared v path has leads) = has

choice_possible : (h : Classes) (c : ClassId) (o other : Option Subobject) → ((s : Subobject) → o ≡ Some s → IsSubobject h c s) → ((s : Subobject) → other ≡ Some s → IsSubobject h c s) → IsPossible h c (choice o other)
choice_possible h c (Some s) other valid more = root_possible h c s (valid s refl)
choice_possible h c None (Some s) valid more = root_possible h c s (more s refl)
choice_possible h c None None valid more = tt

-- a primary base is a base
pub primary_possible : (h : Classes) (nearly : List Bool) (earlier : List Primary) (c : ClassId) (p : Primary) → IsPrimary h nearly earlier c p → IsPossible h c p
primary_possible h nearly earlier c _ (of_direct b first) = record { base = first.base; listed = has_at (bases_of h c) first.number first.base first.there; class = first.class; way = first.dynamic.way }
primary_possible h nearly earlier c _ (of_virtual nothing) =
    choice_possible h c (find (is_free_base nearly earlier (preorder h c)) (preorder h c)) (find (is_nearly_base nearly) (preorder h c))
    (λ s e. has_preorder h c s (find_has (is_free_base nearly earlier (preorder h c)) (preorder h c) s e))
    (λ s e. has_preorder h c s (find_has (is_nearly_base nearly) (preorder h c) s e))

-- the primary bases of classes that are laid out are bases
pub laid_possible : (h : Classes) (count n : ℕ) (rows : List ClassLayout) (nearly : List Bool) (ps : List Primary) → n ≤ count → n ≤ length h → IsLaidBy h count rows nearly ps → ArePossible h n ps
laid_possible h count n rows nearly ps le within laid = record {
  each = λ d lt.
      let a = laid.one_each in
      let class = get_within h d.0 (omega arith) in
      let row = get_within rows d.0 (omega arith) in
      primary_possible h nearly (take d.0 ps) d (primary_of ps d) (laid.row d class.0 row.0 class.1 row.1).is_primary;
}

-- those of classes that are laid out, and of one class more
pub next_possible : (h : Classes) (c : ClassId) (ps : List Primary) → ArePossible h c.0 ps → IsPossible h c (primary_of ps c) → ArePossible h (c.0 + 1) ps
next_possible h c ps before here = record {
  each = λ d lt. ⊎_elim
      (λ same. let is : d ≡ c = ap (λ n. let x : ClassId = record { 0 = n } in x) same in subst (λ (x : ClassId). IsPossible h x (primary_of ps x)) (sym is) here)
      (λ o. ⊎_elim (λ l. before.each d l) (λ g. absurd (omega arith)) o)
      (cases_order d.0 c.0);
}

nearly_root_agrees : (h : Classes) (near other : List Bool) (c : ClassId) (s : Subobject) → IsHierarchy h → AgreeTo c.0 near other → IsSubobject h c s → is_nearly_base near s ≡ is_nearly_base other s
nearly_root_agrees h near other c _ keeps agree (whole path leads) = refl
nearly_root_agrees h near other c _ keeps agree (shared v path has leads) = ap (λ b. (length (v ∷ path) == 1) && b) (agree_item c.0 near other v.0 false agree (virtual_below h keeps c v has))

chosen_agrees : (h : Classes) (near other : List Bool) (earlier : List Primary) (c : ClassId) → IsHierarchy h → AgreeTo c.0 near other → chosen_virtual near earlier (preorder h c) ≡ chosen_virtual other earlier (preorder h c)
chosen_agrees h near other earlier c keeps agree =
    ap (λ o. choice o (find (is_nearly_base near) (preorder h c)))
    (find_same (is_free_base near earlier (preorder h c)) (is_free_base other earlier (preorder h c)) (preorder h c)
    (λ s has. ap (λ b. b && not (is_taken_root earlier (preorder h c) s.root)) (nearly_root_agrees h near other c s keeps agree (has_preorder h c s has))))
    ∙ ap (choice (find (is_free_base other earlier (preorder h c)) (preorder h c)))
    (find_same (is_nearly_base near) (is_nearly_base other) (preorder h c) (λ s has. nearly_root_agrees h near other c s keeps agree (has_preorder h c s has)))

-- the primary base depends on what is nearly empty before the class
pub is_primary_agrees : (h : Classes) (near other : List Bool) (earlier : List Primary) (c : ClassId) (p : Primary) → IsHierarchy h → AgreeTo c.0 near other → IsPrimary h near earlier c p → IsPrimary h other earlier c p
is_primary_agrees h near other earlier c _ keeps agree (of_direct b first) = of_direct b first
is_primary_agrees h near other earlier c _ keeps agree (of_virtual nothing) = subst (IsPrimary h other earlier c) (sym (chosen_agrees h near other earlier c keeps agree)) (of_virtual nothing)

light_agrees : (h : Classes) (near other : List Bool) (base : Base ClassId) → is_nearly near base.class ≡ is_nearly other base.class → IsLight h near base → IsLight h other base
light_agrees h near other base same (by_way e) = by_way e
light_agrees h near other base same (by_kind e) = by_kind e
light_agrees h near other base same (by_list e) = by_list (sym same ∙ e)

-- and so does whether the class is nearly empty
pub nearly_empty_agrees : (h : Classes) (near other : List Bool) (shifted : Bool) (c : ClassId) → IsHierarchy h → AgreeTo c.0 near other → IsNearlyEmpty h near shifted c → IsNearlyEmpty h other shifted c
nearly_empty_agrees h near other shifted c keeps agree is = record {
  dynamic = is.dynamic;
  no_member = is.no_member;
  light = λ base has. light_agrees h near other base (agree_item c.0 near other base.class.0 false agree (keeps.bases c base has)) (is.light base has);
  one = subst (λ n. n ≤ 1) counted is.one;
  unshifted = is.unshifted;
}
  where
    counted : count_by (is_pointer_base near) (bases_of h c) ≡ count_by (is_pointer_base other) (bases_of h c)
    counted = sum_same (λ (base : Base ClassId). cond (is_pointer_base near base) 1 0) (λ (base : Base ClassId). cond (is_pointer_base other base) 1 0) (bases_of h c)
        (λ base has. ap (λ b. cond (not base.is_virtual && b) 1 0) (agree_item c.0 near other base.class.0 false agree (keeps.bases c base (contains_from_has (bases_of h c) base has))))

-- whether an empty base lies elsewhere than at the start
pub shifted_agrees : (h : Classes) (rows others : List ClassLayout) (c : ClassId) → IsHierarchy h → AgreeTo (c.0 + 1) rows others → is_shifted h rows c ≡ is_shifted h others c
shifted_agrees h rows others c keeps agree =
    any_same (λ (s : Subobject). is_whole s.root && (is_empty_in h (class_of s) && not (place_in_class h rows c s == 0))) (λ (s : Subobject). is_whole s.root && (is_empty_in h (class_of s) && not (place_in_class h others c s == 0))) (preorder h c)
    (λ s has. ap (λ n. is_whole s.root && (is_empty_in h (class_of s) && not (n == 0))) (place_agrees h (c.0 + 1) rows others c s keeps agree (omega arith) (has_preorder h c s has)))

-- a layout by components and places that are the same
pub layout_along : (first : Stage) (f g m n v w : List Component) (p q r s : List ℕ) (pod : Bool) (row : ClassLayout) → f ≡ g → m ≡ n → v ≡ w → p ≡ q → r ≡ s → IsLayoutBy first f m v p r pod row → IsLayoutBy first g n w q s pod row
layout_along first f g m n v w p q r s pod row a b d e i is =
    subst (λ x. IsLayoutBy first g n w q x pod row) i
    (subst (λ x. IsLayoutBy first g n w x r pod row) e
    (subst (λ x. IsLayoutBy first g n x p r pod row) d
    (subst (λ x. IsLayoutBy first g x v p r pod row) b
    (subst (λ x. IsLayoutBy first x m v p r pod row) a is))))

-- the components of a class by rows that agree before it
pub record AreComponentsSame (h : Classes) (rows others : List ClassLayout) (ps qs : List Primary) (c : ClassId) (class : Class) : Type 0 where
  pub fronts : front_components h rows ps (object_parts h rows ps) c class ≡ front_components h others qs (object_parts h others qs) c class
  pub members : map (member_component rows (object_parts h rows ps)) class.members ≡ map (member_component others (object_parts h others qs)) class.members
  pub frees : free_components h rows ps (object_parts h rows ps) c ≡ free_components h others qs (object_parts h others qs) c

pub components_agree : (h : Classes) (rows others : List ClassLayout) (ps qs : List Primary) (c : ClassId) (class : Class) → IsHierarchy h → class_at h c ≡ Some class → AgreeTo c.0 rows others → AgreeTo (c.0 + 1) ps qs → ArePossible h (c.0 + 1) ps → AreComponentsSame h rows others ps qs c class
components_agree h rows others ps qs c class keeps e agree alike possible = record {
  fronts = front_agree h rows others ps qs (object_parts h rows ps) (object_parts h others qs) c class keeps e same alike possible;
  members = members_same h rows others (object_parts h rows ps) (object_parts h others qs) c class keeps e same;
  frees = frees_agree h rows others ps qs (object_parts h rows ps) (object_parts h others qs) c keeps same alike possible;
}
  where
    same : Agree h c.0 rows others (object_parts h rows ps) (object_parts h others qs)
    same = agree_before h c.0 rows others ps qs keeps agree (agree_less c.0 (c.0 + 1) ps qs (omega arith) alike) (possible_less h c.0 (c.0 + 1) ps (omega arith) possible)

-- an arrangement of the components of a class, by rows that agree before it
pub arranged_agrees : (h : Classes) (rows others : List ClassLayout) (ps qs : List Primary) (c : ClassId) (class : Class) (has_pointer : Bool) (front_places free_places : List ℕ) (row : ClassLayout) → IsHierarchy h → class_at h c ≡ Some class → AgreeTo c.0 rows others → AgreeTo (c.0 + 1) ps qs → ArePossible h (c.0 + 1) ps
    → IsArrangedBy h rows ps c class has_pointer front_places free_places row → IsArrangedBy h others qs c class has_pointer front_places free_places row
arranged_agrees h rows others ps qs c class has_pointer front_places free_places row keeps e agree alike possible is =
    let same = components_agree h rows others ps qs c class keeps e agree alike possible in
    layout_along (start_stage c has_pointer)
    (front_components h rows ps (object_parts h rows ps) c class) (front_components h others qs (object_parts h others qs) c class)
    (map (member_component rows (object_parts h rows ps)) class.members) (map (member_component others (object_parts h others qs)) class.members)
    (free_components h rows ps (object_parts h rows ps) c) (free_components h others qs (object_parts h others qs) c)
    front_places front_places free_places free_places (is_pod h c) row same.fronts same.members same.frees refl refl is

-- whether a class has a virtual pointer of its own
pub pointer_agrees : (h : Classes) (ps qs : List Primary) (c : ClassId) (has_pointer : Bool) → AgreeTo (c.0 + 1) ps qs → HasPointer h ps c has_pointer → HasPointer h qs c has_pointer
pointer_agrees h ps qs c has_pointer alike is = subst (λ (p : Primary). IsTrue has_pointer ↔ (IsDynamic h c × (p ≡ NoPrimary))) (primary_agrees (c.0 + 1) ps qs c alike (omega arith)) is

-- the row of a class by rows and lists that agree up to it
pub row_agrees : (h : Classes) (rows others : List ClassLayout) (near other : List Bool) (ps qs : List Primary) (c : ClassId) (class : Class) (row : ClassLayout) → IsHierarchy h → class_at h c ≡ Some class → AgreeTo (c.0 + 1) rows others → AgreeTo c.0 near other → AgreeTo (c.0 + 1) ps qs → ArePossible h (c.0 + 1) ps
    → IsLaidRow h rows near ps c class row → IsLaidRow h others other qs c class row
row_agrees h rows others near other ps qs c class row keeps e agree nearly alike possible is = record {
  is_primary = subst (IsPrimary h other (take c.0 qs) c) first (subst (λ (earlier : List Primary). IsPrimary h other earlier c (primary_of ps c)) (take_agrees c.0 ps qs (agree_less c.0 (c.0 + 1) ps qs (omega arith) alike)) (is_primary_agrees h near other (take c.0 ps) c (primary_of ps c) keeps nearly is.is_primary));
  primary = is.primary ∙ first;
  has_pointer = is.has_pointer;
  pointer = pointer_agrees h ps qs c is.has_pointer alike is.pointer;
  placed =
      layout_along (start_stage c is.has_pointer)
      (front_components h others qs (object_parts h others qs) c class) (front_components h others qs (object_parts h others qs) c class)
      (map (member_component others (object_parts h others qs)) class.members) (map (member_component others (object_parts h others qs)) class.members)
      (free_components h others qs (object_parts h others qs) c) (free_components h others qs (object_parts h others qs) c)
      (map (placed_place h rows c) (fronts ps c class)) (map (placed_place h others c) (fronts qs c class)) (map (placed_place h rows c) (free_bases h ps c)) (map (placed_place h others c) (free_bases h qs c)) (is_pod h c) row
      refl refl refl (front_places_agree h rows others ps qs c class agree alike) (free_places_agree h rows others ps qs c keeps agree alike)
      (arranged_agrees h rows others ps qs c class is.has_pointer (map (placed_place h rows c) (fronts ps c class)) (map (placed_place h rows c) (free_bases h ps c)) row keeps e (agree_less c.0 (c.0 + 1) rows others (omega arith) agree) alike possible is.placed);
  each_base = is.each_base;
  virtuals = is.virtuals;
  each_virtual = is.each_virtual;
  holders = is.holders ∙ map_same (holder_of h ps c) (holder_of h qs c) (virtual_bases h c) (λ v has. holder_agrees h ps qs c v keeps alike);
  held = λ v holder has there.
      let before : holder_of h ps c v ≡ Some holder = holder_agrees h ps qs c v keeps alike ∙ there in
      let valid = (held h ps c v (preorder h c) (Some holder) refl (preorder_lists h c keeps) before).0 in
      sym (virtual_place_agrees h (c.0 + 1) rows others c v agree (omega arith)) ∙ (is.held v holder has before ∙ place_agrees h (c.0 + 1) rows others c holder keeps agree (omega arith) valid);
}
  where
    first : primary_of ps c ≡ primary_of qs c
    first = primary_agrees (c.0 + 1) ps qs c alike (omega arith)

-- a base that brings one pair of class and place twice
pub brings_twice_agrees : (h : Classes) (rows others : List ClassLayout) (ps qs : List Primary) (c : ClassId) (class : Class) → IsHierarchy h → class_at h c ≡ Some class → AgreeTo c.0 rows others → AgreeTo (c.0 + 1) ps qs → ArePossible h (c.0 + 1) ps → BringsTwice h rows ps c class → BringsTwice h others qs c class
brings_twice_agrees h rows others ps qs c class keeps e agree alike possible twice = record {
  base = twice.base;
  placed = subst (λ (bases : List PlacedBase). Contains bases twice.base) (ap (λ (bases : List PlacedBase). bases ++ free_bases h ps c) (fronts_agree (c.0 + 1) ps qs c class alike (omega arith)) ∙ ap (λ (bases : List PlacedBase). fronts qs c class ++ bases) (free_agree h ps qs c keeps alike)) twice.placed;
  repeated = subst HasRepeat (brought_agrees h c.0 rows others ps qs (object_parts h rows ps) (object_parts h others qs) c keeps same alike low (omega arith) ((class_of_placed twice.base).0 + 1) (subobject_of c twice.base) (class_of_placed twice.base) below) twice.repeated;
}
  where
    low : ArePossible h c.0 ps
    low = possible_less h c.0 (c.0 + 1) ps (omega arith) possible

    same : Agree h c.0 rows others (object_parts h rows ps) (object_parts h others qs)
    same = agree_before h c.0 rows others ps qs keeps agree (agree_less c.0 (c.0 + 1) ps qs (omega arith) alike) low

    below : (class_of_placed twice.base).0 < c.0
    below = ⊎_elim
        (λ has. All-contains (λ (base : PlacedBase). (class_of_placed base).0 < c.0) (fronts ps c class) twice.base (fronts_below h c class (primary_of ps c) keeps e (possible.each c (omega arith))) has)
        (λ has. All-contains (λ (base : PlacedBase). (class_of_placed base).0 < c.0) (free_bases h ps c) twice.base (frees_below h ps c keeps) has)
        (Contains-append_cases (fronts ps c class) (free_bases h ps c) twice.base twice.placed)
