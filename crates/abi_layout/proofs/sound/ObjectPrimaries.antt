-- Primary bases: each is a dynamic base, and a virtual one of a class lies at its start.
use Rattle.std.proofs.Common.{◌≡◌, ℕ, zero, suc, ◌<◌, ◌≤◌, ⊎_elim, Bool, true, false, Option, Some, None, List, [], ◌∷◌, length, get_or, refl, ap, subst, sym, ◌∙◌, arith}
use Rattle.std.specs.Prelude.{not, ◌==◌}
use Rattle.std.specs.List.{slice_get, find}
use Rattle.std.proofs.lemmas.Bool.{and_parts, cases_order}
use Rattle.std.proofs.lemmas.List.{get_or_past}
use Rattle.foundation.proofs.Chosen.{find_passes}
use Rattle.cxx_hierarchy.specs.declared.records.ClassId.{ClassId}
use Rattle.cxx_hierarchy.specs.Classes.{Class, Classes, class_at, bases_of}
use Rattle.cxx_hierarchy.specs.Hierarchies.{IsHierarchy}
use Rattle.cxx_hierarchy.specs.VirtualBases.{IsDirectBase, HasVirtualBase}
use Rattle.cxx_subobject.specs.declared.Root.{Root}
use Rattle.cxx_subobject.specs.declared.Root.TheVariants.{Whole, Shared}
use Rattle.cxx_subobject.specs.declared.Subobject.{Subobject}
use Rattle.cxx_subobject.specs.Subobjects.{IsSubobject, whole, shared, whole_of}
use Rattle.cxx_subobject.specs.Preorder.{preorder}
use Rattle.cxx_subobject.proofs.TreeLemmas.{preorder_lists}
use Rattle.abi_primary.specs.declared.Primary.{Primary}
use Rattle.abi_primary.specs.declared.Primary.TheVariants.{None as NoPrimary, Direct, Virtual}
use Rattle.abi_primary.specs.Kinds.{IsDynamic}
use Rattle.abi_primary.specs.NearlyEmpty.{is_nearly}
use Rattle.abi_primary.specs.PrimaryBase.{is_nearly_root, is_nearly_base, is_taken_root, is_free_base, as_primary, choice, IsPrimary, of_direct, of_virtual}
use Rattle.abi_sound.specs.declared.class_layout.ClassLayout.{ClassLayout}
use Rattle.cxx_subobject.proofs.VirtualBaseLemmas.{virtual_listed}
use Rattle.abi_layout.proofs.rules.AgreeingParts.{primary_is_virtual}
use Rattle.abi_layout.proofs.rules.RowPlacesFronts.{whole_holds}
use Rattle.abi_layout.specs.declared.placed_bases.PlacedBase.TheVariants.{VirtualBase}
use Rattle.abi_layout.specs.Holding.{virtual_in, virtual_primary_base}
use Rattle.abi_layout.specs.invariants.Scenes.{AreBefore}
use Rattle.abi_layout.specs.PlacedBases.{IsPossible}
use Rattle.abi_layout.specs.Layouts.{primary_of, placed_place, virtual_place, place_in_class, IsLaidRow, IsLaidBy}
use Rattle.abi_layout.proofs.lists.Lists.{get_within, has_at}
use Rattle.abi_layout.proofs.rules.Stages.{Has}
use Rattle.abi_layout.proofs.rules.KindLemmas.{contains_of}
use Rattle.cxx_subobject.proofs.PathLemmas.{virtual_below}

-- a class of the hierarchy and its row
pub record HasRow (h : Classes) (rows : List ClassLayout) (nearly : List Bool) (primaries : List Primary) (c : ClassId) : Type 0 where
  pub class : Class
  pub there : class_at h c ≡ Some class
  pub row : ClassLayout
  pub row_there : slice_get rows c.0 ≡ Some row
  pub laid : IsLaidRow h rows nearly primaries c class row

pub row_of : (h : Classes) (rows : List ClassLayout) (nearly : List Bool) (primaries : List Primary) (c : ClassId) → IsLaidBy h (length h) rows nearly primaries → c.0 < length h → HasRow h rows nearly primaries c
row_of h rows nearly primaries c laid lt =
    let k = get_within h c.0 lt in
    let count = laid.one_each in
    let r = get_within rows c.0 (omega arith) in
    record { class = k.0; there = k.1; row = r.0; row_there = r.1; laid = laid.row c k.0 r.0 k.1 r.1 }

root_is : (r : Root) (v : ClassId) → as_primary r ≡ Virtual v → r ≡ Shared v
root_is Whole v e = let f : NoPrimary ≡ Virtual v = e in cc
root_is (Shared w) v e = let same : w ≡ v = cc in ap (λ x. Shared x) same

-- a subobject that is a nearly empty virtual base itself
record IsNearlyVirtual (nearly : List Bool) (list : List Subobject) (v : ClassId) : Type 0 where
  subobject : Subobject
  has : Has list subobject
  root : subobject.root ≡ Shared v
  near : is_nearly nearly v ≡ true

nearly_virtual : (nearly : List Bool) (list : List Subobject) (v : ClassId) (s : Subobject) → Has list s → is_nearly_base nearly s ≡ true → as_primary s.root ≡ Virtual v → IsNearlyVirtual nearly list v
nearly_virtual nearly list v s has near e =
    let root = root_is s.root v e in
    let t = and_parts (length s.path == 1) (is_nearly_root nearly s.root) near in
    record { subobject = s; has = has; root = root; near = ap (is_nearly_root nearly) (sym root) ∙ t.1 }

chosen : (nearly : List Bool) (earlier : List Primary) (list : List Subobject) (v : ClassId) (o q : Option Subobject) → find (is_free_base nearly earlier list) list ≡ o → find (is_nearly_base nearly) list ≡ q → choice o q ≡ Virtual v → IsNearlyVirtual nearly list v
chosen nearly earlier list v (Some s) q e f is =
    let x = find_passes (is_free_base nearly earlier list) list s e in
    nearly_virtual nearly list v s x.0 (and_parts (is_nearly_base nearly s) (not (is_taken_root earlier list s.root)) x.1).0 is
chosen nearly earlier list v None (Some s) e f is = let x = find_passes (is_nearly_base nearly) list s f in nearly_virtual nearly list v s x.0 x.1 is
chosen nearly earlier list v None None e f is = let g : NoPrimary ≡ Virtual v = is in cc

virtual_by_root : (h : Classes) (c : ClassId) (s : Subobject) (v : ClassId) → IsSubobject h c s → s.root ≡ Shared v → HasVirtualBase h c v
virtual_by_root h c _ v (whole path leads) e = let f : Whole ≡ Shared v = e in cc
virtual_by_root h c _ v (shared w path has leads) e = let same : w ≡ v = cc in subst (HasVirtualBase h c) same has

-- a primary base that is virtual is a nearly empty virtual base
pub virtual_is_nearly : (h : Classes) (nearly : List Bool) (earlier : List Primary) (c v : ClassId) (p : Primary) → IsHierarchy h → IsPrimary h nearly earlier c p → p ≡ Virtual v → HasVirtualBase h c v × (is_nearly nearly v ≡ true)
virtual_is_nearly h nearly earlier c v _ keeps (of_direct b first) e = let f : Direct b ≡ Virtual v = e in cc
virtual_is_nearly h nearly earlier c v _ keeps (of_virtual lacks) e =
    let list = preorder h c in
    let x = chosen nearly earlier list v (find (is_free_base nearly earlier list) list) (find (is_nearly_base nearly) list) refl refl e in
    (virtual_by_root h c x.subobject v ((preorder_lists h c keeps).valid x.subobject (contains_of list x.subobject x.has)) x.root, x.near)

choice_is : (o q : Option Subobject) (b : ClassId) → choice o q ≡ Direct b → ⊥
choice_is (Some s) q b e = by_root s.root e
  where
    by_root : (r : Root) → as_primary r ≡ Direct b → ⊥
    by_root Whole f = let g : NoPrimary ≡ Direct b = f in cc
    by_root (Shared v) f = let g : Virtual v ≡ Direct b = f in cc
choice_is None (Some s) b e = by_root s.root e
  where
    by_root : (r : Root) → as_primary r ≡ Direct b → ⊥
    by_root Whole f = let g : NoPrimary ≡ Direct b = f in cc
    by_root (Shared v) f = let g : Virtual v ≡ Direct b = f in cc
choice_is None None b e = let g : NoPrimary ≡ Direct b = e in cc

-- a primary base that is not virtual is the first dynamic base
pub direct_is_dynamic : (h : Classes) (nearly : List Bool) (earlier : List Primary) (c b : ClassId) (p : Primary) → IsPrimary h nearly earlier c p → p ≡ Direct b → IsDirectBase h c false b × IsDynamic h b
direct_is_dynamic h nearly earlier c b _ (of_direct d first) e =
    let same : d ≡ b = cc in
    (record { base = first.base; listed = has_at (bases_of h c) first.number first.base first.there; class = first.class ∙ same; way = first.dynamic.way }, subst (IsDynamic h) (first.class ∙ same) first.dynamic.dynamic)
direct_is_dynamic h nearly earlier c b _ (of_virtual lacks) e =
    let list = preorder h c in absurd (choice_is (find (is_free_base nearly earlier list) list) (find (is_nearly_base nearly) list) b e)

-- a primary base is a base
pub primary_possible : (h : Classes) (nearly : List Bool) (earlier : List Primary) (c : ClassId) (p : Primary) → IsHierarchy h → IsPrimary h nearly earlier c p → IsPossible h c p
primary_possible h nearly earlier c NoPrimary keeps is = tt
primary_possible h nearly earlier c (Direct b) keeps is = (direct_is_dynamic h nearly earlier c b (Direct b) is refl).0
primary_possible h nearly earlier c (Virtual v) keeps is = (virtual_is_nearly h nearly earlier c v (Virtual v) keeps is refl).0

-- the primary base of a class that is laid out is a dynamic base
pub direct_primary : (h : Classes) (rows : List ClassLayout) (nearly : List Bool) (primaries : List Primary) (c b : ClassId) → IsLaidBy h (length h) rows nearly primaries → c.0 < length h → primary_of primaries c ≡ Direct b → IsDirectBase h c false b × IsDynamic h b
direct_primary h rows nearly primaries c b laid lt e = let r = row_of h rows nearly primaries c laid lt in direct_is_dynamic h nearly _ c b (primary_of primaries c) r.laid.is_primary e

pub virtual_primary_of : (h : Classes) (rows : List ClassLayout) (nearly : List Bool) (primaries : List Primary) (c v : ClassId) → IsHierarchy h → IsLaidBy h (length h) rows nearly primaries → c.0 < length h → primary_of primaries c ≡ Virtual v → HasVirtualBase h c v × IsDynamic h v
virtual_primary_of h rows nearly primaries c v keeps laid lt e =
    let r = row_of h rows nearly primaries c laid lt in
    let x = virtual_is_nearly h nearly _ c v (primary_of primaries c) keeps r.laid.is_primary e in
    let below = virtual_below h keeps c v x.0 in
    let told = (laid.tells.each v (omega arith)).0 x.1 in
    (x.0, told.dynamic)

pub virtual_when_primary : (ps : List Primary) (c v : ClassId) → primary_of ps c ≡ Virtual v → virtual_primary_base ps c ≡ Some v
virtual_when_primary ps c v e = at ps c.0 e
  where
    at : (qs : List Primary) (i : ℕ) → get_or qs i NoPrimary ≡ Virtual v → virtual_in (slice_get qs i) ≡ Some v
    at [] i f = let g : NoPrimary ≡ Virtual v = f in cc
    at (q ∷ qs) zero f = ap (λ x. virtual_in (Some x)) f
    at (q ∷ qs) (suc i) f = at qs i f

-- a virtual primary base stands before its class
pub laid_before : (h : Classes) (rows : List ClassLayout) (nearly : List Bool) (primaries : List Primary) → IsHierarchy h → IsLaidBy h (length h) rows nearly primaries → AreBefore primaries
laid_before h rows nearly primaries keeps laid = record {
  falls = λ d v e. ⊎_elim (λ same. absurd (past d v e (omega arith))) (λ o. ⊎_elim (λ lt. virtual_below h keeps d v (virtual_primary_of h rows nearly primaries d v keeps laid lt (primary_is_virtual primaries d v e)).0) (λ gt. absurd (past d v e (omega arith))) o) (cases_order d.0 (length h));
}
  where
    past : (d v : ClassId) → virtual_primary_base primaries d ≡ Some v → length h ≤ d.0 → ⊥
    past d v e le =
        let count = laid.primary_each in
        let nothing : primary_of primaries d ≡ NoPrimary = get_or_past primaries d.0 NoPrimary (omega arith) in
        let f : NoPrimary ≡ Virtual v = sym nothing ∙ primary_is_virtual primaries d v e in cc

-- a virtual primary base lies at the start of its class
pub virtual_at_start : (h : Classes) (rows : List ClassLayout) (nearly : List Bool) (primaries : List Primary) (d v : ClassId) → IsHierarchy h → IsLaidBy h (length h) rows nearly primaries → d.0 < length h → primary_of primaries d ≡ Virtual v → placed_place h rows d (VirtualBase v) ≡ 0
virtual_at_start h rows nearly primaries d v keeps laid lt e =
    let r = row_of h rows nearly primaries d laid lt in
    let has = (virtual_primary_of h rows nearly primaries d v keeps laid lt e).0 in
    let f : virtual_place rows d v ≡ place_in_class h rows d (whole_of d) = r.laid.held v (whole_of d) (virtual_listed h keeps d v has) (whole_holds h primaries d v e) in
    omega arith
