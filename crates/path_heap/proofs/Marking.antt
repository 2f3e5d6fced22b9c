-- An event: the part takes a phase, the stack of its complete object changes, and nothing else does.
use Rattle.std.proofs.Common.{◌≡◌, ℕ, ◌+◌, ◌-◌, ◌%◌, ◌^◌, ◌≤◌, ◌<◌, ⊎_elim, Bool, true, false, Option, Some, List, length, refl, ap, subst, sym, ◌∙◌, arith}
use Rattle.std.specs.Prelude.{slice_get, slice_set}
use Rattle.std.proofs.lemmas.List.{length-set}
use Rattle.std.proofs.lemmas.Option.{slice_get_within}
use Rattle.foundation.proofs.Deciding.{decide_number}
use Rattle.cxx_hierarchy.specs.declared.records.ClassId.{ClassId}
use Rattle.cxx_hierarchy.specs.Classes.{Classes}
use Rattle.cxx_subobject.specs.declared.Subobject.{Subobject}
use Rattle.path_plan.specs.Places.{Step, ObjectPart, part}
use Rattle.path_plan.specs.Phases.{put, with_pushed_part, is_running}
use Rattle.path_plan.specs.Phases as Plan
use Rattle.path_plan.specs.declared.form.Form.TheVariants.{InFull}
use Rattle.path_plan.proofs.Same.{put_same, put_other}
use Rattle.path_numbers.specs.Sizes.{sizes_of, total}
use Rattle.path_numbers.specs.Nodes.{Node}
use Rattle.path_numbers.specs.Heap.{IsAt}
use Rattle.path_numbers.proofs.Sized.{sizes_are}
use Rattle.path_numbers.proofs.Intervals.{size_some, under_lies}
use Rattle.path_numbers.proofs.Within.{part_at}
use Rattle.path_numbers.proofs.Heap.{at_good, at_range, heap_part, heap_number}
use Rattle.path_model.specs.Values.{Objects}
use Rattle.path_heap.specs.declared.state.Phase.{Phase}
use Rattle.path_heap.specs.declared.state.Cell.{Cell}
use Rattle.path_heap.specs.declared.state.ObjectRow.{ObjectRow}
use Rattle.path_heap.specs.declared.state.NumberedPart.{NumberedPart}
use Rattle.path_heap.specs.declared.heap.Heap.{Heap}
use Rattle.path_heap.specs.Points.{StandsForPart, HasOwner}
use Rattle.path_heap.specs.Running.{entry_at, outer_at, ViewsStand}
use Rattle.path_heap.specs.Stands.{phase_of, CellStands, ObjectStands, HeapStands}
use Rattle.path_heap.specs.invariants.Columns.{marked_cell, Marked, Entered}
use Rattle.path_heap.proofs.Reaching.{at_below}
use Rattle.path_heap.proofs.Sets.{set_same, set_other}
use Rattle.path_heap.proofs.Viewing.{at_less, begins_stand, stays_stand}

-- the objects with one part in another phase
abbrev pub turned : Objects → ObjectPart → Plan.Phase → (ℕ → List Step → List Subobject) → (ℕ → Bool) → Objects
turned s p x running closed = record { classes = s.classes; is_closed = closed; phases = record { phase = put s.phases.phase p x; running = running }; leaf = s.leaf }

-- a part stands near to its complete object
record IsNear (code : NumberedPart) : Type 0 where
  low : code.whole ≤ code.number
  high : code.number < code.whole + 2 ^ 16

near : (h : Classes) (heap : Heap) (s : Objects) → HeapStands h heap s → (code : NumberedPart) (p : ObjectPart) → StandsForPart h s.classes code p → IsNear code
near h heap s stands code p r =
    let keeps = stands.hierarchy in
    let y = r.node in
    let w = r.owned.node in
    let b = part_at h keeps w y.part.at (at_good h (sizes_of h) s.classes w r.owned.at) r.owned.full r.owned.valid in
    let there : b.0.part ≡ y.part = b.1.is_part ∙ (ap (λ k. part k w.part.owner y.part.at) r.owned.same_object ∙ ap (λ o. part y.part.object o y.part.at) r.owned.same_owner) in
    let same : b.0 ≡ y = heap_number h (sizes_of h) keeps s.classes b.0 y (at_below h s.classes w b.0 r.owned.at b.1.under) r.at there in
    let placed : b.0.number ≡ y.number = ap (λ (t : Node). t.number) same in
    let inner = under_lies h (sizes_of h) (sizes_are h keeps) b.0 w b.1.under in
    let outer = at_range h (sizes_of h) (sizes_are h keeps) s.classes w r.owned.at in
    let some = size_some h (sizes_of h) (sizes_are h keeps) b.0.form b.0.class in
    let first = inner.low in
    let last = inner.high in
    let start = outer.low in
    let end = outer.high in
    let limit = stands.counts.small r.owned.at.object r.owned.at.class r.owned.at.listed in
    let number = r.is_number in
    let whole = r.owned.is_number in
    record { low = omega arith; high = omega arith }

-- how far a part stands behind its complete object tells its number
number_kept : (h : Classes) (heap : Heap) (s : Objects) → HeapStands h heap s → (code : NumberedPart) (p : ObjectPart) → StandsForPart h s.classes code p → outer_at code.whole (Some ((code.number - code.whole) % 2 ^ 16)) ≡ Some code.number
number_kept h heap s stands code p r =
    let by = near h heap s stands code p r in
    let low = by.low in
    let high = by.high in
    let fits = at_less h stands.hierarchy s.classes r.node r.at in
    let few = stands.counts.few in
    let is = r.is_number in
    let same_number : (code.whole + (code.number - code.whole) % 2 ^ 16) % 2 ^ 64 ≡ code.number = omega arith in
    ap Some same_number

-- the column of cells
cell_marked : (h : Classes) (heap : Heap) (s : Objects) → HeapStands h heap s → (code : NumberedPart) (p : ObjectPart) → StandsForPart h s.classes code p → (x : Phase) (running : ℕ → List Step → List Subobject) (closed : ℕ → Bool) (z : Node) → IsAt h (sizes_of h) s.classes z
    → CellStands h (turned s p (phase_of x) running closed) (slice_set heap.parts.cells code.number (marked_cell x code)) z
cell_marked h heap s stands code p r x running closed z z_at =
    let old = stands.cells r.node r.at in
    let here : slice_get heap.parts.cells code.number ≡ Some old.cell = subst (λ n. slice_get heap.parts.cells n ≡ Some old.cell) r.is_number old.listed in
    let lt = slice_get_within heap.parts.cells code.number old.cell here in
    ⊎_elim
    (λ e.
    let same : r.node ≡ z = heap_part h (sizes_of h) (sizes_are h stands.hierarchy) s.classes r.node z r.at z_at (r.is_number ∙ e) in
    let place : z.part ≡ p = ap (λ (t : Node). t.part) (sym same) ∙ r.is_part in
    record {
      cell = marked_cell x code;
      listed = ap (slice_get (slice_set heap.parts.cells code.number (marked_cell x code))) (sym e) ∙ set_same heap.parts.cells code.number (marked_cell x code) lt;
      phase = sym (ap (put s.phases.phase p (phase_of x)) place ∙ put_same s.phases.phase p (phase_of x));
      class = λ _. sym r.is_class ∙ ap (λ (t : Node). t.class) same;
      owner = λ _.
          let n = near h heap s stands code p r in
          let low = n.low in
          let high = n.high in
          let back : code.whole ≡ z.number - (code.number - code.whole) % 2 ^ 16 = omega arith in
          subst (λ k. HasOwner h s.classes z k code.owner) back (subst (λ (t : Node). HasOwner h s.classes t code.whole code.owner) same r.owned);
    })
    (λ differ.
    let d = stands.cells z z_at in
    let apart : p ≡ z.part → ⊥ = λ e. differ (sym r.is_number ∙ ap (λ (t : Node). t.number) (heap_number h (sizes_of h) stands.hierarchy s.classes r.node z r.at z_at (r.is_part ∙ e))) in
    let as_before : put s.phases.phase p (phase_of x) z.part ≡ s.phases.phase z.part = put_other s.phases.phase p (phase_of x) z.part apart in
    record {
      cell = d.cell;
      listed = set_other heap.parts.cells code.number z.number (marked_cell x code) differ ∙ d.listed;
      phase = d.phase ∙ sym as_before;
      class = λ begun. d.class (λ raw. begun (as_before ∙ raw));
      owner = λ begun. d.owner (λ raw. begun (as_before ∙ raw));
    })
    (decide_number code.number z.number)

-- what holds of the columns of objects and views makes the whole
pub turned_stands : (h : Classes) (heap new : Heap) (s : Objects) → HeapStands h heap s → (code : NumberedPart) (p : ObjectPart) → StandsForPart h s.classes code p → (x : Phase) (running : ℕ → List Step → List Subobject) (closed : ℕ → Bool)
    → new.parts.cells ≡ slice_set heap.parts.cells code.number (marked_cell x code) → new.leaves.items ≡ heap.leaves.items
    → ((k : ℕ) (c : ClassId) → slice_get s.classes k ≡ Some c → ObjectStands h (turned s p (phase_of x) running closed) new.objects.items k c) → length new.objects.items ≡ length heap.objects.items
    → ViewsStand h s.classes (record { phase = put s.phases.phase p (phase_of x); running = running }) new.parts.tops new.parts.around → length new.parts.tops ≡ length heap.parts.tops → length new.parts.around ≡ length heap.parts.around
    → HeapStands h new (turned s p (phase_of x) running closed)
turned_stands h heap new s stands code p r x running closed cells leaves objects objects_size views tops around = record {
  hierarchy = stands.hierarchy;
  cells = λ z at. subst (λ (t : List Cell). CellStands h (turned s p (phase_of x) running closed) t z) (sym cells) (cell_marked h heap s stands code p r x running closed z at);
  leaves = λ n l q. let old = stands.leaves n l q in record { value = old.value; listed = ap (λ t. slice_get t n) leaves ∙ old.listed; means = old.means };
  objects = objects;
  views = views;
  counts = record {
    objects = objects_size ∙ stands.counts.objects;
    cells = ap length cells ∙ (length-set heap.parts.cells code.number (marked_cell x code) ∙ stands.counts.cells);
    leaves = ap length leaves ∙ stands.counts.leaves;
    tops = tops ∙ stands.counts.tops;
    around = around ∙ stands.counts.around;
    few = stands.counts.few;
    small = stands.counts.small;
  };
}

-- the rows of objects, none of which was closed
pub same_rows : (h : Classes) (heap : Heap) (s : Objects) → HeapStands h heap s → (p : ObjectPart) (x : Plan.Phase) (running : ℕ → List Step → List Subobject) (rows : List ObjectRow) → rows ≡ heap.objects.items → (k : ℕ) (c : ClassId) → slice_get s.classes k ≡ Some c
    → ObjectStands h (turned s p x running s.is_closed) rows k c
same_rows h heap s stands p x running rows e k c at = let o = stands.objects k c at in record { row = o.row; listed = ap (λ t. slice_get t k) e ∙ o.listed; class = o.class; start = o.start; closed = o.closed }

pub whole_less : (h : Classes) (heap : Heap) (s : Objects) → HeapStands h heap s → (code : NumberedPart) (p : ObjectPart) → StandsForPart h s.classes code p → code.whole < length heap.parts.tops
whole_less h heap s stands code p r =
    subst (λ n. code.whole < n) (sym stands.counts.tops) (subst (λ n. n < total (sizes_of h InFull) s.classes) r.owned.is_number (at_less h stands.hierarchy s.classes r.owned.node r.owned.at))

number_less : (h : Classes) (heap : Heap) (s : Objects) → HeapStands h heap s → (code : NumberedPart) (p : ObjectPart) → StandsForPart h s.classes code p → code.number < length heap.parts.around
number_less h heap s stands code p r =
    subst (λ n. code.number < n) (sym stands.counts.around) (subst (λ n. n < total (sizes_of h InFull) s.classes) r.is_number (at_less h stands.hierarchy s.classes r.node r.at))

-- a constructor or destructor begins
pub enters : (h : Classes) (heap mid new : Heap) (s : Objects) → HeapStands h heap s → (code : NumberedPart) (p : ObjectPart) → StandsForPart h s.classes code p → (x : Phase) → is_running (s.phases.phase p) ≡ false → is_running (phase_of x) ≡ true
    → Entered heap mid code → Marked mid new code x → HeapStands h new (turned s p (phase_of x) (with_pushed_part s.phases.running p) s.is_closed)
enters h heap mid new s stands code p r x idle runs did marked =
    let tops = marked.tops ∙ did.tops in
    let around = marked.around ∙ did.around in
    turned_stands h heap new s stands code p r x (with_pushed_part s.phases.running p) s.is_closed
    (marked.cells ∙ ap (λ t. slice_set t code.number (marked_cell x code)) did.cells)
    (marked.leaves ∙ did.leaves)
    (same_rows h heap s stands p (phase_of x) (with_pushed_part s.phases.running p) new.objects.items (marked.objects ∙ did.objects)) (ap length (marked.objects ∙ did.objects))
    (subst (λ (t : List (Option ℕ)). ViewsStand h s.classes (record { phase = put s.phases.phase p (phase_of x); running = with_pushed_part s.phases.running p }) t new.parts.around) (sym tops)
    (subst (λ (t : List (Option ℕ)). ViewsStand h s.classes (record { phase = put s.phases.phase p (phase_of x); running = with_pushed_part s.phases.running p }) (slice_set heap.parts.tops code.whole (Some ((code.number - code.whole) % 2 ^ 16))) t) (sym around)
    (begins_stand h stands.hierarchy s.classes s.phases heap.parts.tops heap.parts.around stands.views code p r idle (phase_of x) runs (number_kept h heap s stands code p r) (whole_less h heap s stands code p r) (number_less h heap s stands code p r))))
    (ap length tops ∙ length-set heap.parts.tops code.whole (Some ((code.number - code.whole) % 2 ^ 16)))
    (ap length around ∙ length-set heap.parts.around code.number (entry_at heap.parts.tops code.whole))

-- it goes on
pub stays : (h : Classes) (heap new : Heap) (s : Objects) → HeapStands h heap s → (code : NumberedPart) (p : ObjectPart) → StandsForPart h s.classes code p → (x : Phase) → is_running (phase_of x) ≡ true
    → Marked heap new code x → HeapStands h new (turned s p (phase_of x) s.phases.running s.is_closed)
stays h heap new s stands code p r x runs marked =
    turned_stands h heap new s stands code p r x s.phases.running s.is_closed marked.cells marked.leaves
    (same_rows h heap s stands p (phase_of x) s.phases.running new.objects.items marked.objects) (ap length marked.objects)
    (subst (λ (t : List (Option ℕ)). ViewsStand h s.classes (record { phase = put s.phases.phase p (phase_of x); running = s.phases.running }) t new.parts.around) (sym marked.tops)
    (subst (λ (t : List (Option ℕ)). ViewsStand h s.classes (record { phase = put s.phases.phase p (phase_of x); running = s.phases.running }) heap.parts.tops t) (sym marked.around)
    (stays_stand h s.classes s.phases heap.parts.tops heap.parts.around stands.views p (phase_of x) runs)))
    (ap length marked.tops) (ap length marked.around)
