-- The walk from the whole of a heap object names the part of a number.
use Rattle.std.proofs.Common.{◌≡◌, ℕ, ℤ, ◌+◌, ◌-◌, ◌^◌, ◌<◌, ◌≤◌, true, Option, Some, [], ◌∷◌, List, refl, ap, subst, sym, ◌∙◌, arith}
use Rattle.std.specs.Prelude.{slice_get}
use Rattle.cxx_hierarchy.specs.declared.records.ClassId.{ClassId}
use Rattle.cxx_hierarchy.specs.Classes.{Classes}
use Rattle.cxx_subobject.specs.declared.Root.TheVariants.{Whole}
use Rattle.cxx_subobject.specs.declared.locations.Hop.{Hop}
use Rattle.cxx_subobject.specs.declared.locations.Location.{Location}
use Rattle.cxx_subobject.specs.Subobjects.{subobject}
use Rattle.cxx_subobject.specs.Locations.{hops_of}
use Rattle.path_plan.specs.Places.{ObjectPart}
use Rattle.path_plan.specs.Whole.{whole_part}
use Rattle.path_numbers.specs.Sizes.{sizes_of}
use Rattle.path_numbers.specs.Nodes.{Node, Under}
use Rattle.path_numbers.specs.Heap.{root_at}
use Rattle.path_numbers.proofs.Sized.{sizes_are}
use Rattle.path_numbers.proofs.Intervals.{size_some, under_lies}
use Rattle.path_numbers.proofs.Heap.{at_object, heap_number}
use Rattle.path_model.specs.declared.outs.Value.{Value as Shown}
use Rattle.path_model.specs.declared.outs.Value.TheVariants.{Unset as ShownUnset, Number as ShownNumber, Null as ShownNull, Pointer as ShownPointer}
use Rattle.path_model.specs.Values.{Value, Unset, Number, Null, Pointer, Objects}
use Rattle.path_model.specs.Outs.{class_or_first, object_class, location_of, shown}
use Rattle.path_heap.specs.declared.state.Value.{Value as ValueCode}
use Rattle.path_heap.specs.declared.state.Value.TheVariants.{Unset as UnsetCode, Number as NumberCode, Null as NullCode, Pointer as PointerCode}
use Rattle.path_heap.specs.declared.heap.Heap.{Heap}
use Rattle.path_heap.specs.Points.{Points}
use Rattle.path_heap.specs.Stands.{HeapStands, Means}
use Rattle.path_heap.proofs.Asking.{root_is_at}
use Rattle.path_places.specs.declared.locations.Spot.{Spot}
use Rattle.path_places.specs.invariants.Walks.{full_or_base, IsSpot, Walks}

-- a part lies in the root of its heap object, whose number is that of the whole
pub record InRoot (h : Classes) (s : Objects) (n start : ℕ) (p : ObjectPart) (c : ClassId) : Type 0 where
  pub node : Node
  pub is_part : node.part ≡ p
  pub under : Under h (sizes_of h) node (root_at (sizes_of h) s.classes p.object c)
  pub number : node.number ≡ n
  pub root : (root_at (sizes_of h) s.classes p.object c).number ≡ start
  pub above : start ≤ n
  pub near : n < start + 2 ^ 32

pub in_root : (h : Classes) (heap : Heap) (s : Objects) → HeapStands h heap s → (n start : ℕ) (p : ObjectPart) (c : ClassId) → Points h s.classes n p → slice_get s.classes p.object ≡ Some c → Points h s.classes start (whole_part p.object c) → InRoot h s n start p c
in_root h heap s stands n start p c q listed w =
    let e : q.at.object ≡ p.object = sym (at_object h (sizes_of h) s.classes q.node q.at) ∙ ap (λ (t : ObjectPart). t.object) q.is_part in
    let f : slice_get s.classes p.object ≡ Some q.at.class = ap (slice_get s.classes) (sym e) ∙ q.at.listed in
    let class : q.at.class ≡ c = cc in
    let under : Under h (sizes_of h) q.node (root_at (sizes_of h) s.classes p.object c) = subst (λ (t : ClassId). Under h (sizes_of h) q.node (root_at (sizes_of h) s.classes p.object t)) class
    (subst (λ k. Under h (sizes_of h) q.node (root_at (sizes_of h) s.classes k q.at.class)) e q.at.under) in
    let same = heap_number h (sizes_of h) stands.hierarchy s.classes w.node (root_at (sizes_of h) s.classes p.object c) w.at (root_is_at h s.classes p.object c listed) w.is_part in
    let root : (root_at (sizes_of h) s.classes p.object c).number ≡ start = ap (λ (t : Node). t.number) (sym same) ∙ w.is_number in
    let lies = under_lies h (sizes_of h) (sizes_are h stands.hierarchy) q.node (root_at (sizes_of h) s.classes p.object c) under in
    let low = lies.low in
    let high = lies.high in
    let some = size_some h (sizes_of h) (sizes_are h stands.hierarchy) q.node.form q.node.class in
    let limit = stands.counts.small p.object c listed in
    let number = q.is_number in
    record { node = q.node; is_part = q.is_part; under = under; number = number; root = root; above = omega arith; near = omega arith }

-- a location by its parts
abbrev pub located_at : ℕ → ClassId → List Hop → Location
located_at object c hops = record { object = object; class = c; hops = hops }

-- a number behind another one, by what tells how far
pub turned_back : (n start rest : ℕ) → ((k : ℕ) → k < 2 ^ 32 → n ≡ start + k → rest ≡ k) → start ≤ n → n < start + 2 ^ 32 → n ≡ start + rest
turned_back n start rest told low near = let e = told (n - start) (omega arith) (omega arith) in omega arith

pub located : (h : Classes) (heap : Heap) (s : Objects) → HeapStands h heap s → (n start : ℕ) (p : ObjectPart) (c : ClassId) → Points h s.classes n p → slice_get s.classes p.object ≡ Some c → Points h s.classes start (whole_part p.object c)
    → (object rest : ℕ) → p.object ≡ object → (start ≤ n → n < start + 2 ^ 32 → n ≡ start + rest) → (whole : Spot) → whole.class ≡ c → whole.is_full ≡ true → whole.root ≡ Whole → whole.path.items ≡ c ∷ []
    → (none hops : List Hop) → none ≡ [] → Walks h whole rest none hops → (list : List Hop) → list ≡ hops → located_at (object + 1) c list ≡ location_of s p
located h heap s stands n start p c q listed w object rest object_is rest_is whole class full root path none hops none_is walks list list_is =
    let r = in_root h heap s stands n start p c q listed w in
    let x = root_at (sizes_of h) s.classes p.object c in
    let spot : IsSpot whole x = record {
      class = sym class;
      form = ap full_or_base (sym full);
      is_at = ap (λ (t : List ClassId). subobject Whole t) (sym path) ∙ ap (λ k. subobject k whole.path.items) (sym root);
    } in
    let n_is = rest_is r.above r.near in
    let number = r.number in
    let start_is = r.root in
    let e = walks.leads x r.node spot r.under (omega arith) none_is in
    ap (located_at (object + 1) c) list_is ∙ (ap (λ k. located_at (k + 1) c hops) (sym object_is)
    ∙ (ap (λ (t : Option ClassId). located_at (p.object + 1) (class_or_first t) hops) (sym listed)
    ∙ ap (located_at (p.object + 1) (object_class s p.object)) (e ∙ ap (λ (t : ObjectPart). hops_of t.owner t.at) r.is_part)))

-- a value from the outside

abbrev pub IsShown : Classes → Objects → ValueCode → Shown → Type 0
IsShown h s code told = (v : Value) → Means h s.classes code v → told ≡ shown s v

pub shown_unset : (h : Classes) (s : Objects) → IsShown h s UnsetCode ShownUnset
shown_unset h s Unset m = refl
shown_unset h s (Number z) m = absurd m
shown_unset h s Null m = absurd m
shown_unset h s (Pointer p) m = absurd m

pub shown_number : (h : Classes) (s : Objects) (z : ℤ) → IsShown h s (NumberCode z) (ShownNumber z)
shown_number h s z Unset m = absurd m
shown_number h s z (Number y) m = ap (λ (t : ℤ). ShownNumber t) m
shown_number h s z Null m = absurd m
shown_number h s z (Pointer p) m = absurd m

pub shown_null : (h : Classes) (s : Objects) → IsShown h s NullCode ShownNull
shown_null h s Unset m = absurd m
shown_null h s (Number z) m = absurd m
shown_null h s Null m = refl
shown_null h s (Pointer p) m = absurd m

pub shown_pointer : (h : Classes) (s : Objects) (n : ℕ) (at : Location) → ((p : ObjectPart) → Points h s.classes n p → at ≡ location_of s p) → IsShown h s (PointerCode n) (ShownPointer at)
shown_pointer h s n at told Unset m = absurd m
shown_pointer h s n at told (Number z) m = absurd m
shown_pointer h s n at told Null m = absurd m
shown_pointer h s n at told (Pointer p) m = ap (λ (t : Location). ShownPointer t) (told p m)
