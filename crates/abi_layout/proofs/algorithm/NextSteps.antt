-- The steps by which the next class is laid out, where each list is told by an equation.
use Rattle.std.proofs.Common.{◌≡◌, ℕ, ◌+◌, ◌<◌, ◌⊎◌, ⊎_elim, inl, inr, Bool, Option, Some, List, [], ◌∷◌, ◌++◌, length, ap, subst, sym, ◌∙◌, arith}
use Rattle.std.specs.Prelude.{IsTrue, ◌↔◌}
use Rattle.std.specs.List.{list_any}
use Rattle.std.proofs.lemmas.Option.{slice_get_within}
use Rattle.cxx_hierarchy.specs.declared.records.ClassId.{ClassId}
use Rattle.cxx_hierarchy.specs.declared.stop.Stop.{Stop}
use Rattle.cxx_hierarchy.specs.declared.stop.Stop.TheVariants.{NoMemory}
use Rattle.cxx_hierarchy.specs.Classes.{Class, Classes, class_at}
use Rattle.cxx_hierarchy.specs.Hierarchies.{IsHierarchy}
use Rattle.cxx_subobject.specs.declared.Subobject.{Subobject}
use Rattle.cxx_subobject.specs.Preorder.{preorder}
use Rattle.abi_emptybase.specs.declared.Part.{Part}
use Rattle.abi_primary.specs.declared.Primary.{Primary}
use Rattle.abi_primary.specs.declared.Primary.TheVariants.{None as NoPrimary}
use Rattle.abi_primary.specs.Kinds.{IsDynamic}
use Rattle.abi_primary.specs.PrimaryBase.{IsPrimary}
use Rattle.abi_primary.specs.NearlyEmpty.{IsNearlyEmpty}
use Rattle.abi_primary.specs.VirtualLists.{ListsVirtual}
use Rattle.abi_layout.specs.declared.known.Known.{Known}
use Rattle.abi_layout.specs.declared.laid_row.ClassFacts.{ClassFacts}
use Rattle.abi_sound.specs.declared.class_layout.ClassLayout.{ClassLayout}
use Rattle.abi_layout.specs.Kinds.{is_empty}
use Rattle.abi_layout.specs.invariants.Known.{is_empty_in, empties_in, KeepsEnough}
use Rattle.abi_layout.specs.Holding.{AreHolders}
use Rattle.abi_layout.specs.Layouts.{is_shifted}
use Rattle.abi_layout.specs.invariants.Scenes.{IsLayoutScene}
use Rattle.abi_layout.specs.Refusals.{StopsLayout, IsWellLaid, IsFirstStop}
use Rattle.abi_layout.specs.invariants.ClassRows.{IsRefusedBy, IsRowAdded}
use Rattle.abi_layout.specs.invariants.LaidSoFar.{IsLaidSoFar, is_shifted_base}
use Rattle.abi_layout.proofs.lists.Lists.{number, get_within}
use Rattle.abi_layout.proofs.lists.LastItems.{longer}
use Rattle.abi_layout.proofs.algorithm.NextKinds.{next_empty}
use Rattle.abi_layout.proofs.algorithm.NextShifted.{shifted_same}
use Rattle.abi_layout.proofs.algorithm.NextComponents.{IsNextKnown, next_are_bases}
use Rattle.abi_layout.proofs.algorithm.NextRefused.{stops_by}
use Rattle.abi_layout.proofs.algorithm.NextScene.{listed_tells, next_scene}
use Rattle.abi_layout.proofs.algorithm.NextSoFar.{told_more, so_far_more}

-- what is known of the next class, by lists that are those of the classes so far
pub next_by : (h : Classes) (c : ClassId) (class : Class) (rows : List ClassLayout) (known : List Known) (members : List (List Part)) (nearly : List Bool) (ps : List Primary) (primary : Primary) (has_pointer : Bool) (near : List Bool) (earlier : List Primary) → IsHierarchy h → class_at h c ≡ Some class
    → IsLaidSoFar h c.0 rows known members nearly ps → near ≡ nearly → earlier ≡ ps → IsPrimary h near earlier c primary → (IsTrue has_pointer ↔ (IsDynamic h c × (primary ≡ NoPrimary))) → IsNextKnown h c class rows known members nearly ps primary has_pointer
next_by h c class rows known members nearly ps primary has_pointer near earlier keeps there so_far n e is_primary pointer = record {
  keeps = keeps;
  there = there;
  so_far = so_far;
  is_primary = subst (λ (xs : List Primary). IsPrimary h nearly xs c primary) e (subst (λ (xs : List Bool). IsPrimary h xs earlier c primary) n is_primary);
  pointer = pointer;
}

-- the scene, by lists that are those of the classes so far
pub scene_by : (h : Classes) (c : ClassId) (class : Class) (rows : List ClassLayout) (known : List Known) (members : List (List Part)) (nearly : List Bool) (ps : List Primary) (primary : Primary) (has_pointer : Bool) → IsNextKnown h c class rows known members nearly ps primary has_pointer
    → (ks : List Known) (ms : List (List Part)) (qs : List Primary) (list : List Subobject) → ks ≡ known → ms ≡ members → qs ≡ ps ++ primary ∷ [] → ListsVirtual h c list → (holders : List (Option ℕ)) → AreHolders qs list c.0 holders → IsLayoutScene h c rows ks ms qs list holders
scene_by h c class rows known members nearly ps primary has_pointer next ks ms qs list k m q l holders are =
    subst (λ (xs : List Known). IsLayoutScene h c rows xs ms qs list holders) (sym k)
    (subst (λ (xs : List (List Part)). IsLayoutScene h c rows known xs qs list holders) (sym m)
    (subst (λ (xs : List Primary). IsLayoutScene h c rows known members xs list holders) (sym q)
    (next_scene h c class rows known members nearly ps primary has_pointer next list holders (listed_tells h (ps ++ primary ∷ []) c list next.keeps (next_are_bases h c class rows known members nearly ps primary has_pointer next) l) (subst (λ (xs : List Primary). AreHolders xs list c.0 holders) q are))))

-- the error of the class, by lists that are those of the classes so far
pub refused_by : (h : Classes) (c : ClassId) (class : Class) (rows : List ClassLayout) (known : List Known) (members : List (List Part)) (nearly : List Bool) (ps : List Primary) (primary : Primary) (has_pointer : Bool) → IsNextKnown h c class rows known members nearly ps primary has_pointer
    → (ks : List Known) (qs : List Primary) (stop : Stop) → ks ≡ known → qs ≡ ps ++ primary ∷ [] → IsRefusedBy h c rows ks qs class has_pointer stop → (stop ≡ NoMemory) ⊎ StopsLayout h c stop
refused_by h c class rows known members nearly ps primary has_pointer next ks qs stop k q refused =
    stops_by h c class rows known members nearly ps primary has_pointer stop next
    (subst (λ (xs : List Primary). IsRefusedBy h c rows known xs class has_pointer stop) q (subst (λ (xs : List Known). IsRefusedBy h c rows xs qs class has_pointer stop) k refused))

added_by : (h : Classes) (c : ClassId) (class : Class) (rows : List ClassLayout) (known ks : List Known) (ps qs : List Primary) (has_pointer : Bool) (more : List ClassLayout) (facts : ClassFacts) → ks ≡ known → qs ≡ ps → IsRowAdded h c rows ks qs class has_pointer more facts → IsRowAdded h c rows known ps class has_pointer more facts
added_by h c class rows known ks ps qs has_pointer more facts k q added = subst (λ (xs : List Primary). IsRowAdded h c rows known xs class has_pointer more facts) q (subst (λ (xs : List Known). IsRowAdded h c rows xs qs class has_pointer more facts) k added)

-- the class has its row
pub row_by : (h : Classes) (c : ClassId) (class : Class) (rows : List ClassLayout) (known : List Known) (members : List (List Part)) (nearly : List Bool) (ps : List Primary) (primary : Primary) (has_pointer : Bool) → IsNextKnown h c class rows known members nearly ps primary has_pointer
    → (ks : List Known) (qs : List Primary) (more all : List ClassLayout) (facts : ClassFacts) → all ≡ more → IsRowAdded h c rows ks qs class has_pointer more facts → c.0 < length all
row_by h c class rows known members nearly ps primary has_pointer next ks qs more all facts a added =
    let count = next.so_far.by.one_each in
    let one = longer rows added.row in
    let same = ap length (a ∙ added.rows_are) in
    omega arith

-- one class more is known
pub known_by : (h : Classes) (c : ClassId) (class : Class) (rows : List ClassLayout) (known : List Known) (members : List (List Part)) (nearly : List Bool) (ps : List Primary) (primary : Primary) (has_pointer : Bool) → IsNextKnown h c class rows known members nearly ps primary has_pointer
    → (ks : List Known) (qs : List Primary) (more all : List ClassLayout) (facts : ClassFacts) → ks ≡ known → qs ≡ ps ++ primary ∷ [] → all ≡ more → IsRowAdded h c rows ks qs class has_pointer more facts
    → (kept : Known) → KeepsEnough h c facts.known kept → (near : List Bool) (told : List Known) (is shifted : Bool) → near ≡ nearly → told ≡ known ++ kept ∷ [] → shifted ≡ list_any (is_shifted_base h all told) (preorder h c) → (IsTrue is ↔ IsNearlyEmpty h near shifted c)
    → IsLaidSoFar h (c.0 + 1) more (known ++ kept ∷ []) (members ++ facts.members ∷ []) (nearly ++ is ∷ []) (ps ++ primary ∷ [])
known_by h c class rows known members nearly ps primary has_pointer next ks qs more all facts k q a added kept keeping near told is shifted n t s nearly_is =
    let here = added_by h c class rows known ks (ps ++ primary ∷ []) qs has_pointer more facts k q added in
    let after = known ++ kept ∷ [] in
    let tells = told_more is_empty_in (is_empty h) c known kept next.so_far.known_each next.so_far.empties
    (keeping.is_empty ∙ (here.is_empty ∙ next_empty h next.keeps c class (empties_in known) next.there next.so_far.empties)) in
    let test : shifted ≡ is_shifted h more c =
    s ∙ (ap (λ (xs : List ClassLayout). list_any (is_shifted_base h xs told) (preorder h c)) a
    ∙ (ap (λ (xs : List Known). list_any (is_shifted_base h more xs) (preorder h c)) t
    ∙ shifted_same h more after c next.keeps tells)) in
    so_far_more h c class rows known members nearly ps primary has_pointer next more facts kept is here keeping
    (subst (λ b. IsTrue is ↔ IsNearlyEmpty h nearly b c) test (subst (λ (xs : List Bool). IsTrue is ↔ IsNearlyEmpty h xs shifted c) n nearly_is))

-- the classes so far are laid out
pub well_laid : (h : Classes) (n : ℕ) (rows : List ClassLayout) (known : List Known) (members : List (List Part)) (nearly : List Bool) (ps : List Primary) → IsLaidSoFar h n rows known members nearly ps → IsWellLaid h n rows
well_laid h n rows known members nearly ps so_far = record {
  nearly = nearly;
  primaries = ps;
  by = so_far.by;
  small = record {
    each = λ i row e.
        let lt = slice_get_within rows i row e in
        let a = so_far.by.one_each in
        let b = so_far.known_each in
        let k = get_within known i (omega arith) in
        (so_far.sized.each i row k.0 e k.1).size;
  };
  apart = so_far.apart;
}

-- the first class that is refused
pub first_stop : (h : Classes) (n count : ℕ) (rows : List ClassLayout) (known : List Known) (members : List (List Part)) (nearly : List Bool) (ps : List Primary) (stop : Stop) → n < count → IsLaidSoFar h n rows known members nearly ps → (stop ≡ NoMemory) ⊎ StopsLayout h (number n) stop → (stop ≡ NoMemory) ⊎ IsFirstStop h count stop
first_stop h n count rows known members nearly ps stop lt so_far refused = ⊎_elim (λ e. inl e)
    (λ stops. inr (record { class = number n; known = lt; rows = rows; before = well_laid h n rows known members nearly ps so_far; stops = stops }))
    refused
