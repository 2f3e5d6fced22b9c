-- Where classes end within those that have them, the virtual bases that are held can be settled.
use Rattle.std.proofs.Common.{◌≡◌, ℕ, zero, suc, ◌+◌, ◌<◌, ◌≤◌, ⊎_elim, true, false, Option, Some, None, List, [], ◌∷◌, length, get_or, refl, ap, subst, sym, ◌∙◌, arith}
use Rattle.std.specs.Prelude.{Contains}
use Rattle.std.specs.List.{slice_get}
use Rattle.std.proofs.lemmas.Bool.{eqb-true, cases_order}
use Rattle.std.proofs.lemmas.List.{get_or_past}
use Rattle.cxx_hierarchy.specs.declared.records.ClassId.{ClassId}
use Rattle.cxx_hierarchy.specs.declared.records.Base.{Base}
use Rattle.cxx_hierarchy.specs.Classes.{Classes, bases_of}
use Rattle.cxx_hierarchy.specs.Hierarchies.{IsHierarchy}
use Rattle.cxx_subobject.specs.declared.Root.TheVariants.{Whole, Shared}
use Rattle.cxx_subobject.specs.declared.Subobject.{Subobject}
use Rattle.cxx_subobject.specs.Subobjects.{IsSubobject, whole, shared, Leads, last_of}
use Rattle.cxx_subobject.specs.Preorder.{preorder}
use Rattle.cxx_subobject.proofs.TreeLemmas.{preorder_lists}
use Rattle.abi_primary.specs.declared.Primary.{Primary}
use Rattle.abi_primary.proofs.HolderLemmas.{held}
use Rattle.abi_sound.specs.declared.class_layout.ClassLayout.{ClassLayout}
use Rattle.abi_sound.specs.Places.{direct_base_place, place_along}
use Rattle.cxx_subobject.proofs.PathLemmas.{last_below}
use Rattle.abi_layout.specs.Limits.{size_limit}
use Rattle.abi_layout.specs.Placements.{nvsize_in}
use Rattle.abi_layout.specs.Holding.{virtual_primary_base, virtual_primary_of, AreHolders}
use Rattle.abi_layout.specs.invariants.Scenes.{AreBefore, TellsHolders}
use Rattle.abi_layout.specs.invariants.Settled.{place_by, IsPathWithin, held_at, EndsWithinLimit, CanSettle}
use Rattle.abi_layout.proofs.lists.Lists.{number}
use Rattle.abi_layout.proofs.rules.HoldingLemmas.{is_class, test_is}
use Rattle.abi_layout.proofs.algorithm.SceneLemmas.{holder_below, holder_is}
use Rattle.abi_layout.proofs.algorithm.SettledLemmas.{base_below}
use Rattle.cxx_subobject.proofs.PathLemmas.{virtual_below}

-- each of the first `count` classes ends, without its virtual bases, behind its non-virtual bases and its primary base
pub record AreNested (h : Classes) (count : ℕ) (rows : List ClassLayout) (ps : List Primary) : Type 0 where
  pub by_bases : (d : ClassId) (base : Base ClassId) → d.0 < count → Contains (bases_of h d) base → base.is_virtual ≡ false → direct_base_place h rows d base.class + nvsize_in (slice_get rows base.class.0) ≤ nvsize_in (slice_get rows d.0)
  pub by_primary : (d v : ClassId) → d.0 < count → virtual_primary_base ps d ≡ Some v → nvsize_in (slice_get rows v.0) ≤ nvsize_in (slice_get rows d.0)
  pub small : (d : ℕ) → nvsize_in (slice_get rows d) ≤ size_limit

-- what a path leads to ends within the class where it begins
pub along_within : (h : Classes) (count : ℕ) (rows : List ClassLayout) (ps : List Primary) → IsHierarchy h → AreNested h count rows ps → (d : ClassId) (path : List ClassId) → d.0 < count → Leads h d path → place_along h rows d path + nvsize_in (slice_get rows (last_of d path).0) ≤ nvsize_in (slice_get rows d.0)
along_within h count rows ps keeps nested d [] lt leads = omega arith
along_within h count rows ps keeps nested d (b ∷ path) lt leads =
    let edge = leads.0 in
    let f = base_below h d b keeps edge in
    let here : direct_base_place h rows d b + nvsize_in (slice_get rows b.0) ≤ nvsize_in (slice_get rows d.0) = subst (λ (x : ClassId). direct_base_place h rows d x + nvsize_in (slice_get rows x.0) ≤ nvsize_in (slice_get rows d.0)) edge.class (nested.by_bases d edge.base lt edge.listed edge.way) in
    let rest = along_within h count rows ps keeps nested b path (omega arith) leads.1 in
    omega arith

get_at : (list : List Subobject) (n : ℕ) (t : Subobject) → slice_get list n ≡ Some t → t ≡ get_or list n t
get_at [] n t e = refl
get_at (s ∷ list) zero t e = let same : s ≡ t = cc in sym same
get_at (s ∷ list) (suc n) t e = get_at list n t e

-- a subobject that holds a virtual base
pub record IsHolding (h : Classes) (ps : List Primary) (c : ClassId) (v : ℕ) (t : Subobject) : Type 0 where
  pub valid : IsSubobject h c t
  pub class : ClassId
  pub primary : virtual_primary_of ps t ≡ Some class
  pub same : class.0 ≡ v

class_is : (o : Option ClassId) (v : ℕ) → is_class o (number v) ≡ true → (w : ClassId) × (o ≡ Some w) × (w.0 ≡ v)
class_is None v e = let f : false ≡ true = e in cc
class_is (Some w) v e = (w, refl, eqb-true w.0 v e)

holding : (h : Classes) (ps : List Primary) (c : ClassId) (list : List Subobject) (holders : List (Option ℕ)) → IsHierarchy h → TellsHolders h ps c list → AreHolders ps list c.0 holders → (v : ℕ) (t : Subobject) (o : Option ℕ) → get_or holders v None ≡ o → held_at list o ≡ Some t → IsHolding h ps c v t
holding h ps c list holders keeps same are v t None e held_is = let f : None ≡ Some t = held_is in cc
holding h ps c list holders keeps same are v t (Some n) e held_is =
    ⊎_elim (λ eq. within (omega arith)) (λ o. ⊎_elim (λ lt. within_lt lt) (λ gt. within (omega arith)) o) (cases_order v c.0)
  where
    within_lt : v < c.0 → IsHolding h ps c v t
    within_lt lt =
        let is = holder_is h ps c list c.0 holders (number v) n t same are lt e (get_at list n t held_is) in
        let facts = held h ps c (number v) (preorder h c) (Some t) refl (preorder_lists h c keeps) is in
        let w = class_is (virtual_primary_of ps t) v (sym (test_is ps (number v) t) ∙ facts.1) in
        record { valid = facts.0; class = w.0; primary = w.1; same = w.2 }

    within : c.0 ≤ v → IsHolding h ps c v t
    within le =
        let each = are.one_each in
        let past : get_or holders v None ≡ None = get_or_past holders v None (omega arith) in
        let f : None ≡ Some n = sym past ∙ e in cc

room_of : (h : Classes) (rows : List ClassLayout) (ps : List Primary) (c : ClassId) (v : ℕ) (class : ClassId) (t : Subobject) (table : List ℕ) → IsHierarchy h → AreNested h (c.0 + 1) rows ps → IsSubobject h c t → virtual_primary_of ps t ≡ Some class → class.0 ≡ v → EndsWithinLimit rows table → place_by h rows table t + nvsize_in (slice_get rows v) ≤ size_limit
room_of h rows ps c v class _ table keeps nested (whole path leads) primary same room =
    let along = along_within h (c.0 + 1) rows ps keeps nested c path (omega arith) leads in
    let below = last_below h keeps c path leads in
    let inner = nested.by_primary (last_of c path) class (omega arith) primary in
    let small = nested.small c.0 in
    let e : nvsize_in (slice_get rows class.0) ≡ nvsize_in (slice_get rows v) = ap (λ n. nvsize_in (slice_get rows n)) same in
    omega arith
room_of h rows ps c v class _ table keeps nested (shared u path has leads) primary same room =
    let lt = virtual_below h keeps c u has in
    let along = along_within h (c.0 + 1) rows ps keeps nested u path (omega arith) leads in
    let below = last_below h keeps u path leads in
    let inner = nested.by_primary (last_of u path) class (omega arith) primary in
    let there = room.each u.0 in
    let e : nvsize_in (slice_get rows class.0) ≡ nvsize_in (slice_get rows v) = ap (λ n. nvsize_in (slice_get rows n)) same in
    omega arith

pub path_of : (h : Classes) (c : ClassId) (t : Subobject) (count : ℕ) → IsHierarchy h → IsSubobject h c t → c.0 < count → IsPathWithin h count t.path
path_of h c _ count keeps (whole path leads) lt = (lt, leads)
path_of h c _ count keeps (shared u path has leads) lt = let f = virtual_below h keeps c u has in (omega arith, leads)

rising : (h : Classes) (ps : List Primary) (c : ClassId) (v : ℕ) (class w : ClassId) (t : Subobject) → IsHierarchy h → AreBefore ps → IsSubobject h c t → virtual_primary_of ps t ≡ Some class → class.0 ≡ v → t.root ≡ Shared w → v < w.0
rising h ps c v class w _ keeps before (whole path leads) primary same root = let f : Whole ≡ Shared w = root in cc
rising h ps c v class w _ keeps before (shared u path has leads) primary same root =
    let is : u ≡ w = cc in
    let e : u.0 ≡ w.0 = ap (λ (x : ClassId). x.0) is in
    let falls = before.falls (last_of u path) class primary in
    let below = last_below h keeps u path leads in
    omega arith

-- the virtual bases that are held can be settled
pub can_settle : (h : Classes) (c : ClassId) (rows : List ClassLayout) (ps : List Primary) (list : List Subobject) (holders : List (Option ℕ)) → IsHierarchy h → AreNested h (c.0 + 1) rows ps → AreBefore ps → length rows ≡ c.0 + 1 → TellsHolders h ps c list → AreHolders ps list c.0 holders → CanSettle h rows list holders
can_settle h c rows ps list holders keeps nested before each same are = record {
  below = λ v n e. ⊎_elim (λ eq. past v n e (omega arith)) (λ o. ⊎_elim (λ lt. holder_below ps list c.0 holders (number v) n are lt e) (λ gt. past v n e (omega arith)) o) (cases_order v c.0);
  paths = λ v t e. let x = holding h ps c list holders keeps same are v t (get_or holders v None) refl e in path_of h c t (length rows) keeps x.valid (omega arith);
  rises = λ v t w e root. let x = holding h ps c list holders keeps same are v t (get_or holders v None) refl e in rising h ps c v x.class w t keeps before x.valid x.primary x.same root;
  roomy = λ v t table e room. let x = holding h ps c list holders keeps same are v t (get_or holders v None) refl e in room_of h rows ps c v x.class t table keeps nested x.valid x.primary x.same room;
}
  where
    past : (v n : ℕ) → get_or holders v None ≡ Some n → c.0 ≤ v → n < length list
    past v n e le =
        let one = are.one_each in
        let none_there : get_or holders v None ≡ None = get_or_past holders v None (omega arith) in
        let f : None ≡ Some n = sym none_there ∙ e in cc
