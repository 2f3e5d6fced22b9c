-- The end of a constructor or a destructor, and of a heap object.
use Rattle.std.proofs.Common.{◌≡◌, ℕ, ⊎_elim, Bool, true, false, Option, Some, List, length, refl, ap, subst, sym, ◌∙◌}
use Rattle.std.specs.Prelude.{slice_get, slice_set, nat_eq, if◌then◌else◌}
use Rattle.std.proofs.lemmas.Bool.{eqb-true, eq-eqb}
use Rattle.std.proofs.lemmas.List.{length-set}
use Rattle.std.proofs.lemmas.Option.{slice_get_within}
use Rattle.foundation.proofs.Truth.{split, is_false}
use Rattle.foundation.proofs.Deciding.{decide_number}
use Rattle.cxx_hierarchy.specs.declared.records.ClassId.{ClassId}
use Rattle.cxx_hierarchy.specs.Classes.{Classes}
use Rattle.cxx_program.specs.declared.program.TypedProgram.{TypedProgram}
use Rattle.cxx_subobject.specs.declared.Subobject.{Subobject}
use Rattle.path_plan.specs.Places.{Step, ObjectPart, same_part}
use Rattle.path_plan.specs.Phases.{End, put, popped}
use Rattle.path_plan.specs.Whole.{whole_part}
use Rattle.path_plan.specs.Views.{IsOnTop}
use Rattle.path_plan.proofs.Same.{part_same, part_itself}
use Rattle.path_numbers.specs.Sizes.{sizes_of}
use Rattle.path_numbers.specs.Nodes.{Node}
use Rattle.path_numbers.specs.Heap.{root_at}
use Rattle.path_numbers.proofs.Sized.{sizes_are}
use Rattle.path_numbers.proofs.Heap.{heap_part, heap_number}
use Rattle.path_model.specs.Values.{Objects}
use Rattle.path_model.specs.Outs.{class_or_first, object_class}
use Rattle.path_model.specs.Steps.{objects_after}
use Rattle.path_heap.specs.declared.state.Phase.{Phase}
use Rattle.path_heap.specs.declared.state.Phase.TheVariants.{Ended}
use Rattle.path_heap.specs.declared.state.ObjectRow.{ObjectRow}
use Rattle.path_heap.specs.declared.state.NumberedPart.{NumberedPart}
use Rattle.path_heap.specs.declared.heap.Heap.{Heap}
use Rattle.path_heap.specs.Points.{StandsForPart}
use Rattle.path_heap.specs.Running.{entry_at, ViewsStand}
use Rattle.path_heap.specs.Stands.{phase_of, ObjectStands, HeapStands}
use Rattle.path_heap.specs.invariants.Columns.{row_or, row_at, marked_cell, closed_row, Marked, Left, Closed}
use Rattle.path_heap.specs.invariants.Cuts.{IsObjectAt}
use Rattle.path_heap.proofs.Sets.{set_same, set_other}
use Rattle.path_heap.proofs.Asking.{row_found, root_is_at}
use Rattle.path_heap.proofs.Finding.{object_found}
use Rattle.path_heap.proofs.Viewing.{points_of, ends_stand}
use Rattle.path_heap.proofs.Marking.{turned, turned_stands, same_rows, whole_less}

-- the columns but that of objects
pub leaves_with : (h : Classes) (heap mid new : Heap) (s : Objects) → HeapStands h heap s → (code : NumberedPart) (p : ObjectPart) → StandsForPart h s.classes code p → (x : Phase) → IsOnTop s.phases p → Left heap mid code → Marked mid new code x
    → (last : Heap) → last.parts.cells ≡ new.parts.cells → last.leaves.items ≡ new.leaves.items → last.parts.tops ≡ new.parts.tops → last.parts.around ≡ new.parts.around → (closed : ℕ → Bool)
    → ((k : ℕ) (c : ClassId) → slice_get s.classes k ≡ Some c → ObjectStands h (turned s p (phase_of x) (popped s.phases.running p) closed) last.objects.items k c) → length last.objects.items ≡ length heap.objects.items
    → HeapStands h last (turned s p (phase_of x) (popped s.phases.running p) closed)
leaves_with h heap mid new s stands code p r x top did marked last cells leaves tops_same around_same closed objects objects_size =
    let tops = tops_same ∙ (marked.tops ∙ did.tops) in
    let around = around_same ∙ (marked.around ∙ did.around) in
    turned_stands h heap last s stands code p r x (popped s.phases.running p) closed
    (cells ∙ (marked.cells ∙ ap (λ t. slice_set t code.number (marked_cell x code)) did.cells))
    (leaves ∙ (marked.leaves ∙ did.leaves))
    objects objects_size
    (subst (λ (t : List (Option ℕ)). ViewsStand h s.classes (record { phase = put s.phases.phase p (phase_of x); running = popped s.phases.running p }) t last.parts.around) (sym tops)
    (subst (λ (t : List (Option ℕ)). ViewsStand h s.classes (record { phase = put s.phases.phase p (phase_of x); running = popped s.phases.running p }) (slice_set heap.parts.tops code.whole (entry_at heap.parts.around code.number)) t) (sym around)
    (ends_stand h stands.hierarchy s.classes s.phases heap.parts.tops heap.parts.around stands.views code p r top (phase_of x) (whole_less h heap s stands code p r))))
    (ap length tops ∙ length-set heap.parts.tops code.whole (entry_at heap.parts.around code.number))
    (ap length around)

-- where no object is closed
pub leaves_plain : (h : Classes) (heap mid new : Heap) (s : Objects) → HeapStands h heap s → (code : NumberedPart) (p : ObjectPart) → StandsForPart h s.classes code p → (x : Phase) → IsOnTop s.phases p → Left heap mid code → Marked mid new code x
    → HeapStands h new (turned s p (phase_of x) (popped s.phases.running p) s.is_closed)
leaves_plain h heap mid new s stands code p r x top did marked =
    leaves_with h heap mid new s stands code p r x top did marked new refl refl refl refl s.is_closed
    (same_rows h heap s stands p (phase_of x) (popped s.phases.running p) new.objects.items (marked.objects ∙ did.objects)) (ap length (marked.objects ∙ did.objects))

-- the objects that are closed with the end of a part
abbrev closing : Objects → ObjectPart → ℕ → Bool
closing s p k = if same_part p (whole_part k (object_class s k)) then true else s.is_closed k

-- the part is the whole of its object exactly where it has the number of the root
whole_test : (h : Classes) (heap : Heap) (s : Objects) → HeapStands h heap s → (code : NumberedPart) (p : ObjectPart) → StandsForPart h s.classes code p → (k : ℕ) (c : ClassId) → slice_get s.classes k ≡ Some c
    → nat_eq (root_at (sizes_of h) s.classes k c).number code.number ≡ same_part p (whole_part k c)
whole_test h heap s stands code p r k c at = split (same_part p (whole_part k c)) (λ b. nat_eq (root_at (sizes_of h) s.classes k c).number code.number ≡ b)
    (λ e. let same = heap_number h (sizes_of h) stands.hierarchy s.classes (root_at (sizes_of h) s.classes k c) r.node (root_is_at h s.classes k c at) r.at (sym (r.is_part ∙ part_same p (whole_part k c) e)) in
    eq-eqb (root_at (sizes_of h) s.classes k c).number code.number (ap (λ (t : Node). t.number) same ∙ r.is_number))
    (λ e. is_false (nat_eq (root_at (sizes_of h) s.classes k c).number code.number) (λ n.
    let same = heap_part h (sizes_of h) (sizes_are h stands.hierarchy) s.classes (root_at (sizes_of h) s.classes k c) r.node (root_is_at h s.classes k c at) r.at (eqb-true (root_at (sizes_of h) s.classes k c).number code.number n ∙ sym r.is_number) in
    let f : p ≡ whole_part k c = sym (ap (λ (t : Node). t.part) same ∙ r.is_part) in
    let g : same_part p (whole_part k c) ≡ true = ap (same_part p) (sym f) ∙ part_itself p in
    cc (g, e)))

class_there : (s : Objects) (k : ℕ) (c : ClassId) → slice_get s.classes k ≡ Some c → object_class s k ≡ c
class_there s k c at = ap class_or_first at

-- the rows behind the end of a part
closed_rows : (h : Classes) (heap : Heap) (s : Objects) → HeapStands h heap s → (code : NumberedPart) (p : ObjectPart) → StandsForPart h s.classes code p → (j : ℕ) → p.object ≡ j → (row : ObjectRow) → row ≡ row_at heap j
    → (running : ℕ → List Step → List Subobject) (k : ℕ) (c : ClassId) → slice_get s.classes k ≡ Some c
    → ObjectStands h (turned s p (phase_of Ended) running (closing s p)) (if nat_eq row.start code.number then slice_set heap.objects.items j (closed_row row) else heap.objects.items) k c
closed_rows h heap s stands code p r j object row row_is running k c at =
    let q = points_of h s.classes code p r in
    let f = row_found h heap s stands code.number p q j object row row_is in
    let o = stands.objects k c at in
    let lt = slice_get_within heap.objects.items k o.row o.listed in
    ⊎_elim
    (λ e.
    let here : p.object ≡ k = object ∙ e in
    let class : f.class ≡ c = let l = subst (λ i. slice_get s.classes i ≡ Some f.class) here f.listed in cc (l, at) in
    let start : row.start ≡ (root_at (sizes_of h) s.classes k c).number = f.start ∙ (ap (λ i. (root_at (sizes_of h) s.classes i f.class).number) here ∙ ap (λ (t : ClassId). (root_at (sizes_of h) s.classes k t).number) class) in
    let test : nat_eq row.start code.number ≡ same_part p (whole_part k (object_class s k)) = ap (λ n. nat_eq n code.number) start ∙ (whole_test h heap s stands code p r k c at ∙ ap (λ (t : ClassId). same_part p (whole_part k t)) (sym (class_there s k c at))) in
    let row_same : o.row ≡ row = let l : slice_get heap.objects.items j ≡ Some o.row = subst (λ i. slice_get heap.objects.items i ≡ Some o.row) (sym e) o.listed in sym (row_is ∙ ap row_or l) in
    split (nat_eq row.start code.number)
    (λ b. b ≡ same_part p (whole_part k (object_class s k)) → ObjectStands h (turned s p (phase_of Ended) running (closing s p)) (if b then slice_set heap.objects.items j (closed_row row) else heap.objects.items) k c)
    (λ _ yes_whole. record {
      row = closed_row row;
      listed = subst (λ i. slice_get (slice_set heap.objects.items i (closed_row row)) k ≡ Some (closed_row row)) (sym e) (set_same heap.objects.items k (closed_row row) lt);
      class = ap (λ (t : ObjectRow). t.class) (sym row_same) ∙ o.class;
      start = ap (λ (t : ObjectRow). t.start) (sym row_same) ∙ o.start;
      closed = ap (λ b. if b then true else s.is_closed k) yes_whole;
    })
    (λ _ no_whole. record { row = o.row; listed = o.listed; class = o.class; start = o.start; closed = o.closed ∙ ap (λ b. if b then true else s.is_closed k) no_whole })
    test)
    (λ differ.
    let other : same_part p (whole_part k (object_class s k)) ≡ false = is_false (same_part p (whole_part k (object_class s k))) (λ e. differ (sym object ∙ ap (λ (t : ObjectPart). t.object) (part_same p (whole_part k (object_class s k)) e))) in
    record {
      row = o.row;
      listed = split (nat_eq row.start code.number) (λ b. slice_get (if b then slice_set heap.objects.items j (closed_row row) else heap.objects.items) k ≡ Some o.row)
          (λ _. set_other heap.objects.items j k (closed_row row) differ ∙ o.listed) (λ _. o.listed);
      class = o.class;
      start = o.start;
      closed = o.closed ∙ ap (λ b. if b then true else s.is_closed k) (sym other);
    })
    (decide_number j k)

closed_size : (rows : List ObjectRow) (b : Bool) (k : ℕ) (row : ObjectRow) → length (if b then slice_set rows k row else rows) ≡ length rows
closed_size rows true k row = length-set rows k row
closed_size rows false k row = refl

-- the row that is read behind the other changes is that from before
pub ends_heap : (h : Classes) (heap mid new last : Heap) (program : TypedProgram) (s : Objects) → HeapStands h heap s → (code : NumberedPart) (p : ObjectPart) → StandsForPart h s.classes code p → IsOnTop s.phases p → Left heap mid code → Marked mid new code Ended → Closed new last code
    → HeapStands h last (objects_after program s (End p))
ends_heap h heap mid new last program s stands code p r top did marked shut =
    let rows : new.objects.items ≡ heap.objects.items = marked.objects ∙ did.objects in
    let object = object_found h heap s stands code.number p (points_of h s.classes code p r) shut.object (subst (λ (t : List ObjectRow). IsObjectAt t code.number shut.object) rows shut.found) in
    let objects : last.objects.items ≡ (if nat_eq (row_at heap shut.object).start code.number then slice_set heap.objects.items shut.object (closed_row (row_at heap shut.object)) else heap.objects.items) =
    shut.objects ∙ ap (λ t. if nat_eq (row_or (slice_get t shut.object)).start code.number then slice_set t shut.object (closed_row (row_or (slice_get t shut.object))) else t) rows in
    leaves_with h heap mid new s stands code p r Ended top did marked last shut.cells shut.leaves shut.tops shut.around (closing s p)
    (λ k c at. subst (λ (t : List ObjectRow). ObjectStands h (turned s p (phase_of Ended) (popped s.phases.running p) (closing s p)) t k c) (sym objects)
    (closed_rows h heap s stands code p r shut.object object (row_at heap shut.object) refl (popped s.phases.running p) k c at))
    (ap length objects ∙ closed_size heap.objects.items (nat_eq (row_at heap shut.object).start code.number) shut.object (closed_row (row_at heap shut.object)))
