-- The bases that are placed in a class stand before it.
use Rattle.std.proofs.Common.{◌≡◌, ℕ, ◌<◌, Bool, Option, Some, List, [], map, subst, sym}
use Rattle.std.specs.Prelude.{All, Contains, filter}
use Rattle.std.proofs.lemmas.List.Elements.{All-nil, All-cons, All-append, All-map, All-filter, All-weaker, All-contains_itself}
use Rattle.cxx_hierarchy.specs.declared.records.ClassId.{ClassId}
use Rattle.cxx_hierarchy.specs.declared.records.Base.{Base}
use Rattle.cxx_hierarchy.specs.Classes.{Class, Classes, class_at, bases_in}
use Rattle.cxx_hierarchy.specs.Hierarchies.{IsHierarchy}
use Rattle.abi_primary.specs.declared.Primary.{Primary}
use Rattle.abi_primary.specs.declared.Primary.TheVariants.{None as NoPrimary, Direct, Virtual}
use Rattle.abi_primary.specs.Holder.{holder_of}
use Rattle.abi_layout.specs.declared.placed_bases.PlacedBase.{PlacedBase}
use Rattle.abi_layout.specs.declared.placed_bases.PlacedBase.TheVariants.{Own, VirtualBase}
use Rattle.cxx_subobject.specs.VirtualBases.{virtual_bases}
use Rattle.cxx_subobject.proofs.PathLemmas.{virtual_below}
use Rattle.cxx_subobject.proofs.VirtualBaseLemmas.{listed_below}
use Rattle.abi_layout.specs.PlacedBases.{class_of_placed, first_base, is_other_base, front_bases, is_free, free_bases, IsPossible}
use Rattle.abi_layout.specs.declared.component.Component.{Component}
use Rattle.abi_layout.specs.declared.component.Stage.{Stage}
use Rattle.abi_layout.specs.declared.arrangement.Arrangement.{Arrangement}
use Rattle.abi_layout.specs.invariants.Arrangements.{IsArranged, IsRefusal}
use Rattle.abi_layout.specs.invariants.ClassRows.{IsRefusedWith, IsRefusedBy}
use Rattle.abi_layout.specs.invariants.Known.{pods_in}
use Rattle.abi_layout.specs.Kinds.{pod_kind}
use Rattle.abi_layout.specs.Layouts.{primary_of}
use Rattle.abi_layout.specs.declared.known.Known.{Known}
use Rattle.abi_sound.specs.declared.class_layout.ClassLayout.{ClassLayout}
use Rattle.cxx_hierarchy.specs.declared.stop.Stop.{Stop}
use Rattle.abi_layout.proofs.algorithm.SettledLemmas.{base_below}

first_below : (h : Classes) (c : ClassId) (primary : Primary) → IsHierarchy h → IsPossible h c primary → All (λ (base : PlacedBase). (class_of_placed base).0 < c.0) (first_base primary)
first_below h c NoPrimary keeps possible = All-nil (λ (base : PlacedBase). (class_of_placed base).0 < c.0)
first_below h c (Direct b) keeps possible = All-cons (λ (base : PlacedBase). (class_of_placed base).0 < c.0) (Own b) [] (base_below h c b keeps possible) (All-nil (λ (base : PlacedBase). (class_of_placed base).0 < c.0))
first_below h c (Virtual v) keeps possible = All-cons (λ (base : PlacedBase). (class_of_placed base).0 < c.0) (VirtualBase v) [] (virtual_below h keeps c v possible) (All-nil (λ (base : PlacedBase). (class_of_placed base).0 < c.0))

-- those before the members
pub fronts_below : (h : Classes) (c : ClassId) (class : Class) (primary : Primary) → IsHierarchy h → class_at h c ≡ Some class → IsPossible h c primary → All (λ (base : PlacedBase). (class_of_placed base).0 < c.0) (front_bases primary class.bases)
fronts_below h c class primary keeps e possible =
    All-append (λ (base : PlacedBase). (class_of_placed base).0 < c.0) (first_base primary) (map (λ (base : Base ClassId). Own base.class) (filter (is_other_base primary) class.bases))
    (first_below h c primary keeps possible)
    (All-map (λ (base : PlacedBase). (class_of_placed base).0 < c.0) (λ (base : Base ClassId). Own base.class) (filter (is_other_base primary) class.bases)
    (All-filter (is_other_base primary) (λ (base : Base ClassId). base.class.0 < c.0) class.bases
    (All-weaker (Contains class.bases) (λ (base : Base ClassId). base.class.0 < c.0) (λ base has. keeps.bases c base (subst (λ (o : Option Class). Contains (bases_in o) base) (sym e) has)) class.bases (All-contains_itself class.bases))))

pub virtuals_below : (h : Classes) (c : ClassId) → IsHierarchy h → All (λ (v : ClassId). v.0 < c.0) (virtual_bases h c)
virtuals_below h c keeps = All-weaker (Contains (virtual_bases h c)) (λ (v : ClassId). v.0 < c.0) (λ v has. listed_below h keeps c v has) (virtual_bases h c) (All-contains_itself (virtual_bases h c))

-- those behind the members
pub frees_below : (h : Classes) (ps : List Primary) (c : ClassId) → IsHierarchy h → All (λ (base : PlacedBase). (class_of_placed base).0 < c.0) (free_bases h ps c)
frees_below h ps c keeps =
    All-map (λ (base : PlacedBase). (class_of_placed base).0 < c.0) (λ (v : ClassId). VirtualBase v) (filter (λ (v : ClassId). is_free (holder_of h ps c v)) (virtual_bases h c))
    (All-filter (λ (v : ClassId). is_free (holder_of h ps c v)) (λ (v : ClassId). v.0 < c.0) (virtual_bases h c) (virtuals_below h c keeps))

-- the same along equations of the components and of the kind
pub arranged_along : (first : Stage) (fs fronts ms vs frees : List Component) (pod kind : Bool) (a : Arrangement) → fs ≡ fronts → vs ≡ frees → pod ≡ kind → IsArranged first fs ms vs pod a → IsArranged first fronts ms frees kind a
arranged_along first fs fronts ms vs frees pod kind a f v p is = subst (λ b. IsArranged first fronts ms frees b a) p (subst (λ (xs : List Component). IsArranged first fronts ms xs pod a) v (subst (λ (xs : List Component). IsArranged first xs ms vs pod a) f is))

pub refusal_along : (first : Stage) (fs fronts ms vs frees : List Component) (pod kind : Bool) (place : ℕ) (stop : Stop) → fs ≡ fronts → vs ≡ frees → pod ≡ kind → IsRefusal first fs ms vs pod place stop → IsRefusal first fronts ms frees kind place stop
refusal_along first fs fronts ms vs frees pod kind place stop f v p is = subst (λ b. IsRefusal first fronts ms frees b place stop) p (subst (λ (xs : List Component). IsRefusal first fronts ms xs pod place stop) v (subst (λ (xs : List Component). IsRefusal first xs ms vs pod place stop) f is))

-- a refusal by a copy of the rows, of a class whose primary base is told
pub refused_own : (h : Classes) (c : ClassId) (class : Class) (rows copy : List ClassLayout) (known : List Known) (ps : List Primary) (primary : Primary) (has_pointer : Bool) (stop : Stop) → copy ≡ rows → primary_of ps c ≡ primary
    → IsRefusedWith h c copy known ps class (front_bases primary class.bases) (free_bases h ps c) has_pointer (pod_kind (pods_in known) class) stop → IsRefusedBy h c rows known ps class has_pointer stop
refused_own h c class rows copy known ps primary has_pointer stop same own is =
    let with : List ClassLayout → Primary → Type 0 = λ xs p. IsRefusedWith h c xs known ps class (front_bases p class.bases) (free_bases h ps c) has_pointer (pod_kind (pods_in known) class) stop in
    subst (λ (p : Primary). with rows p) (sym own) (subst (λ (xs : List ClassLayout). with xs primary) same is)
