-- A heap object is made: its columns stand behind the others.
use Rattle.std.proofs.Common.{◌≡◌, ◌-◌, ℕ, ◌+◌, ◌<◌, ◌≤◌, ⊎_elim, Bool, true, false, Option, Some, None, List, [], ◌∷◌, ◌++◌, length, refl, ap, subst, sym, ◌∙◌, arith}
use Rattle.std.specs.Prelude.{slice_get, replicate, nat_eq, if◌then◌else◌}
use Rattle.std.proofs.lemmas.Bool.{eq-eqb}
use Rattle.std.proofs.lemmas.List.{length-replicate, length-append}
use Rattle.foundation.proofs.Truth.{split}
use Rattle.foundation.proofs.Places.{get_front, get_pushed, get_last, length_pushed, get_kept}
use Rattle.cxx_hierarchy.specs.declared.records.ClassId.{ClassId}
use Rattle.cxx_hierarchy.specs.Classes.{Classes}
use Rattle.cxx_hierarchy.specs.Hierarchies.{IsHierarchy}
use Rattle.cxx_subobject.specs.Parts.{most_parts}
use Rattle.path_plan.specs.Places.{ObjectPart}
use Rattle.path_plan.specs.Phases.{Raw}
use Rattle.path_plan.specs.declared.form.Form.TheVariants.{InFull}
use Rattle.path_plan.specs.Whole.{whole_part}
use Rattle.path_numbers.specs.Sizes.{sizes_of, total}
use Rattle.path_numbers.specs.Nodes.{Node}
use Rattle.path_numbers.specs.Heap.{IsAt, start_of, root_at}
use Rattle.path_numbers.proofs.Intervals.{size_of, size_some}
use Rattle.path_numbers.proofs.Sized.{sizes_are}
use Rattle.path_numbers.proofs.Leaves.{leaf_own}
use Rattle.path_numbers.proofs.Heap.{at_within, at_range, at_object, before_more}
use Rattle.path_model.specs.Values.{Value, Unset, Leaf, Objects}
use Rattle.path_model.specs.Effects.{with_new_object}
use Rattle.path_heap.specs.declared.state.Value.TheVariants.{Unset as UnsetCode}
use Rattle.path_heap.specs.declared.heap.Heap.{Heap}
use Rattle.path_heap.specs.Blanks.{no_cell}
use Rattle.path_heap.specs.Points.{Points, PointsLeaf}
use Rattle.path_heap.specs.Running.{entry_in, entry_at, outer_at, AreRunning, StackStands, ViewsStand}
use Rattle.path_heap.specs.Stands.{Means, CellStands, LeafStands, ObjectStands, HeapStands}
use Rattle.path_heap.specs.invariants.Columns.{Made}
use Rattle.path_heap.proofs.Sets.{get_longer}
use Rattle.path_heap.proofs.Asking.{root_is_at}
use Rattle.path_heap.proofs.Viewing.{at_less}
use Rattle.path_heap.proofs.Growing.{total_more, before_all, old_or_new, object_before, part_before, owner_more, means_more, running_renewed, stack_more}

abbrev all : Classes → List ClassId → ℕ
all h classes = total (sizes_of h InFull) classes

-- a part of the new object has a number behind those before
record IsNew (h : Classes) (classes : List ClassId) (c : ClassId) (n : ℕ) : Type 0 where
  low : all h classes ≤ n
  high : n < all h classes + sizes_of h InFull c

start_new : (h : Classes) (classes : List ClassId) (c : ClassId) → start_of (sizes_of h) (classes ++ c ∷ []) (length classes) ≡ all h classes
start_new h classes c = before_all (sizes_of h InFull) classes c

range_new : (h : Classes) → IsHierarchy h → (classes : List ClassId) (c : ClassId) (y : Node) → IsAt h (sizes_of h) (classes ++ c ∷ []) y → y.part.object ≡ length classes → (n : ℕ) → y.number ≤ n → n < y.number + size_of (sizes_of h) y → IsNew h classes c n
range_new h keeps classes c y at object n low high =
    let a = at_range h (sizes_of h) (sizes_are h keeps) (classes ++ c ∷ []) y at in
    let b = at_within h (sizes_of h) (sizes_are h keeps) (classes ++ c ∷ []) y at in
    let e : at.object ≡ length classes = sym (at_object h (sizes_of h) (classes ++ c ∷ []) y at) ∙ object in
    let f : start_of (sizes_of h) (classes ++ c ∷ []) at.object ≡ all h classes = ap (start_of (sizes_of h) (classes ++ c ∷ [])) e ∙ start_new h classes c in
    let t = total_more (sizes_of h InFull) classes c in
    let l = a.low in
    record { low = omega arith; high = omega arith }

number_new : (h : Classes) → IsHierarchy h → (classes : List ClassId) (c : ClassId) (y : Node) → IsAt h (sizes_of h) (classes ++ c ∷ []) y → y.part.object ≡ length classes → IsNew h classes c y.number
number_new h keeps classes c y at object =
    let some = size_some h (sizes_of h) (sizes_are h keeps) y.form y.class in
    range_new h keeps classes c y at object y.number (let e : y.number ≤ y.number = omega arith in e) (let e : y.number < y.number + sizes_of h y.form y.class = omega arith in e)

-- an item behind the others
item_new : {X : Type 0} (h : Classes) (classes : List ClassId) (c : ClassId) (xs : List X) (x : X) (size n : ℕ) → length xs ≡ all h classes → size ≡ sizes_of h InFull c → IsNew h classes c n → slice_get (xs ++ replicate size x) n ≡ Some x
item_new h classes c xs x size n have is new =
    let l = new.low in let u = new.high in
    get_longer xs size n x (let e : length xs ≤ n = omega arith in e) (let e : n < length xs + size = omega arith in e)

size_new : {X : Type 0} (h : Classes) (classes : List ClassId) (c : ClassId) (xs ys : List X) (x : X) (size : ℕ) → length xs ≡ all h classes → size ≡ sizes_of h InFull c → ys ≡ xs ++ replicate size x → length ys ≡ all h (classes ++ c ∷ [])
size_new h classes c xs ys x size have is e =
    let a = length-append xs (replicate size x) in
    let b = length-replicate size x in
    let t = total_more (sizes_of h InFull) classes c in
    let f : length ys ≡ length (xs ++ replicate size x) = ap length e in
    omega arith

is_new_object : (k n : ℕ) → k ≡ n → nat_eq k n ≡ true
is_new_object k n e = eq-eqb k n e

cell_made : (h : Classes) (heap new : Heap) (s : Objects) → HeapStands h heap s → (c : ClassId) (size start : ℕ) → size ≡ sizes_of h InFull c → Made heap new c size start → (y : Node) → IsAt h (sizes_of h) (s.classes ++ c ∷ []) y → CellStands h (with_new_object s c) new.parts.cells y
cell_made h heap new s stands c size start is did y at = ⊎_elim
    (λ before.
    let old = stands.cells y before in
    let as_before : (with_new_object s c).phases.phase y.part ≡ s.phases.phase y.part = ap (λ b. if b then Raw else s.phases.phase y.part) (part_before h s.classes y before) in
    record {
      cell = old.cell;
      listed = ap (λ t. slice_get t y.number) did.cells ∙ get_front heap.parts.cells (replicate size no_cell) y.number old.cell old.listed;
      phase = old.phase ∙ sym as_before;
      class = λ begun. old.class (λ raw. begun (as_before ∙ raw));
      owner = λ begun. owner_more h s.classes c y (y.number - old.cell.back) old.cell.owner (old.owner (λ raw. begun (as_before ∙ raw)));
    })
    (λ object.
    let raw : (with_new_object s c).phases.phase y.part ≡ Raw = ap (λ b. if b then Raw else s.phases.phase y.part) (is_new_object y.part.object (length s.classes) object) in
    record {
      cell = no_cell;
      listed = ap (λ t. slice_get t y.number) did.cells ∙ item_new h s.classes c heap.parts.cells no_cell size y.number stands.counts.cells is (number_new h stands.hierarchy s.classes c y at object);
      phase = sym raw;
      class = λ begun. absurd (begun raw);
      owner = λ begun. absurd (begun raw);
    })
    (old_or_new h s.classes c y at)

leaf_made : (h : Classes) (heap new : Heap) (s : Objects) → HeapStands h heap s → (c : ClassId) (size start : ℕ) → size ≡ sizes_of h InFull c → Made heap new c size start → (n : ℕ) (l : Leaf) → PointsLeaf h (s.classes ++ c ∷ []) n l → LeafStands h (with_new_object s c) new.leaves.items n l
leaf_made h heap new s stands c size start is did n l q = ⊎_elim
    (λ before.
    let old = stands.leaves n l (record { node = q.node; at = before; is_part = q.is_part; leaf = q.leaf }) in
    let as_before : (with_new_object s c).leaf l ≡ s.leaf l = ap (λ (t : ObjectPart). if nat_eq t.object (length s.classes) then Unset else s.leaf l) (sym q.is_part) ∙ ap (λ b. if b then Unset else s.leaf l) (part_before h s.classes q.node before) in
    record {
      value = old.value;
      listed = ap (λ t. slice_get t n) did.leaves ∙ get_front heap.leaves.items (replicate size UnsetCode) n old.value old.listed;
      means = subst (λ (t : Value). Means h (s.classes ++ c ∷ []) old.value t) (sym as_before) (means_more h s.classes c old.value (s.leaf l) old.means);
    })
    (λ object.
    let own = leaf_own h (sizes_of h) (sizes_are h stands.hierarchy) q.node l.member l.index n q.leaf in
    let raw : (with_new_object s c).leaf l ≡ Unset = ap (λ b. if b then Unset else s.leaf l) (is_new_object l.part.object (length s.classes) (ap (λ (t : ObjectPart). t.object) (sym q.is_part) ∙ object)) in
    record {
      value = UnsetCode;
      listed = ap (λ t. slice_get t n) did.leaves ∙ item_new h s.classes c heap.leaves.items UnsetCode size n stands.counts.leaves is (range_new h stands.hierarchy s.classes c q.node q.at object n own.low own.high);
      means = subst (λ (t : Value). Means h (s.classes ++ c ∷ []) UnsetCode t) (sym raw) tt;
    })
    (old_or_new h s.classes c q.node q.at)

row_made : (h : Classes) (heap new : Heap) (s : Objects) → HeapStands h heap s → (c : ClassId) (size start : ℕ) → Made heap new c size start → (k : ℕ) (d : ClassId) → slice_get (s.classes ++ c ∷ []) k ≡ Some d → ObjectStands h (with_new_object s c) new.objects.items k d
row_made h heap new s stands c size start did k d listed = ⊎_elim
    (λ before.
    let o = stands.objects k d before in
    record {
      row = o.row;
      listed = ap (λ t. slice_get t k) did.objects ∙ get_front heap.objects.items (record { class = c; start = start; is_closed = false } ∷ []) k o.row o.listed;
      class = o.class;
      start = o.start ∙ sym (before_more (sizes_of h InFull) k s.classes d c before);
      closed = o.closed ∙ ap (λ b. if b then false else s.is_closed k) (sym (object_before s.classes k d before));
    })
    (λ e. record {
      row = record { class = c; start = start; is_closed = false };
      listed = ap (λ t. slice_get t k) did.objects ∙ (ap (slice_get (heap.objects.items ++ record { class = c; start = start; is_closed = false } ∷ [])) (e.0 ∙ sym stands.counts.objects) ∙ get_last heap.objects.items (record { class = c; start = start; is_closed = false }));
      class = sym e.1;
      start = did.start_is ∙ (stands.counts.cells ∙ sym (ap (start_of (sizes_of h) (s.classes ++ c ∷ [])) e.0 ∙ start_new h s.classes c));
      closed = ap (λ b. if b then false else s.is_closed k) (sym (is_new_object k (length s.classes) e.0));
    })
    (get_pushed s.classes c k d listed)

views_made : (h : Classes) (heap new : Heap) (s : Objects) → HeapStands h heap s → (c : ClassId) (size start : ℕ) → size ≡ sizes_of h InFull c → Made heap new c size start → ViewsStand h (s.classes ++ c ∷ []) (with_new_object s c).phases new.parts.tops new.parts.around
views_made h heap new s stands c size start is did = record {
  running = λ k o. split (nat_eq k (length s.classes)) (λ b. AreRunning (with_new_object s c).phases.phase k o (if b then [] else s.phases.running k o))
      (λ e. tt)
      (λ e. running_renewed s.phases.phase (length s.classes) k o (s.phases.running k o) e (stands.views.running k o));
  stacks = λ w at full.
      subst (λ (t : List (Option ℕ)). StackStands h (s.classes ++ c ∷ []) t w.number w.part.object w.part.owner (outer_at w.number (entry_at new.parts.tops w.number)) ((with_new_object s c).phases.running w.part.object w.part.owner)) (sym did.around)
      (subst (λ (t : List (Option ℕ)). StackStands h (s.classes ++ c ∷ []) (heap.parts.around ++ replicate size None) w.number w.part.object w.part.owner (outer_at w.number (entry_at t w.number)) ((with_new_object s c).phases.running w.part.object w.part.owner)) (sym did.tops)
      (⊎_elim
      (λ before.
      let lt : w.number < length heap.parts.tops = subst (λ m. w.number < m) (sym stands.counts.tops) (at_less h stands.hierarchy s.classes w before) in
      subst (λ n. StackStands h (s.classes ++ c ∷ []) (heap.parts.around ++ replicate size None) w.number w.part.object w.part.owner (outer_at w.number n) ((with_new_object s c).phases.running w.part.object w.part.owner)) (sym (ap entry_in (get_kept heap.parts.tops (replicate size None) w.number lt)))
      (subst (λ (b : Bool). StackStands h (s.classes ++ c ∷ []) (heap.parts.around ++ replicate size None) w.number w.part.object w.part.owner (outer_at w.number (entry_at heap.parts.tops w.number)) (if b then [] else s.phases.running w.part.object w.part.owner)) (sym (part_before h s.classes w before))
      (stack_more h stands.hierarchy s.classes c heap.parts.around (replicate size None) stands.counts.around w.number w.part.object w.part.owner (outer_at w.number (entry_at heap.parts.tops w.number)) (s.phases.running w.part.object w.part.owner) (stands.views.stacks w before full))))
      (λ object.
      subst (λ n. StackStands h (s.classes ++ c ∷ []) (heap.parts.around ++ replicate size None) w.number w.part.object w.part.owner (outer_at w.number n) ((with_new_object s c).phases.running w.part.object w.part.owner)) (sym (ap entry_in (item_new h s.classes c heap.parts.tops None size w.number stands.counts.tops is (number_new h stands.hierarchy s.classes c w at object))))
      (subst (λ (b : Bool). StackStands h (s.classes ++ c ∷ []) (heap.parts.around ++ replicate size None) w.number w.part.object w.part.owner None (if b then [] else s.phases.running w.part.object w.part.owner)) (sym (is_new_object w.part.object (length s.classes) object)) tt))
      (old_or_new h s.classes c w at)));
}

pub made_stands : (h : Classes) (heap new : Heap) (s : Objects) → HeapStands h heap s → (c : ClassId) (size start : ℕ) → size ≡ sizes_of h InFull c → Made heap new c size start → HeapStands h new (with_new_object s c)
made_stands h heap new s stands c size start is did = record {
  hierarchy = stands.hierarchy;
  cells = λ y at. cell_made h heap new s stands c size start is did y at;
  leaves = λ n l q. leaf_made h heap new s stands c size start is did n l q;
  objects = λ k d listed. row_made h heap new s stands c size start did k d listed;
  views = views_made h heap new s stands c size start is did;
  counts = record {
    objects = ap length did.objects ∙ (length_pushed heap.objects.items (record { class = c; start = start; is_closed = false }) ∙ (ap (λ n. n + 1) stands.counts.objects ∙ sym (length_pushed s.classes c)));
    cells = size_new h s.classes c heap.parts.cells new.parts.cells no_cell size stands.counts.cells is did.cells;
    leaves = size_new h s.classes c heap.leaves.items new.leaves.items UnsetCode size stands.counts.leaves is did.leaves;
    tops = size_new h s.classes c heap.parts.tops new.parts.tops None size stands.counts.tops is did.tops;
    around = size_new h s.classes c heap.parts.around new.parts.around None size stands.counts.around is did.around;
    few = let t = total_more (sizes_of h InFull) s.classes c in let f = did.fits in let e = stands.counts.cells in omega arith;
    small = λ k d listed. ⊎_elim (λ old. stands.counts.small k d old) (λ last. subst (λ (t : ClassId). sizes_of h InFull t ≤ most_parts) (sym last.1) (subst (λ n. n ≤ most_parts) is did.small)) (get_pushed s.classes c k d listed);
  };
}

-- the number that is told is that of the new whole
pub made_points : (h : Classes) (heap new : Heap) (s : Objects) → HeapStands h heap s → (c : ClassId) (size start : ℕ) → Made heap new c size start → Points h (s.classes ++ c ∷ []) start (whole_part (length s.classes) c)
made_points h heap new s stands c size start did = record {
  node = root_at (sizes_of h) (s.classes ++ c ∷ []) (length s.classes) c;
  at = root_is_at h (s.classes ++ c ∷ []) (length s.classes) c (get_last s.classes c);
  is_part = refl;
  is_number = start_new h s.classes c ∙ sym (did.start_is ∙ stands.counts.cells);
}
