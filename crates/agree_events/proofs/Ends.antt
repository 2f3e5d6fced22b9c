-- The end of a destruction: a base gives the view back, a complete object has none, and a heap object is closed.
use Rattle.std.proofs.Common.{◌≡◌, ℕ, true, false, Some, None, List, [], refl, ap, subst, sym, ◌∙◌}
use Rattle.std.specs.Prelude.{nat_eq, not, ◌&&◌, find, slice_get}
use Rattle.cxx_hierarchy.specs.declared.records.ClassId.{ClassId}
use Rattle.cxx_subobject.specs.declared.Subobject.{Subobject}
use Rattle.cxx_subobject.specs.Subobjects.{whole_of}
use Rattle.cxx_subobject.specs.Locations.{Step, ObjectPart}
use Rattle.foundation.proofs.Truth.{split, is_false, not_both}
use Rattle.path_plan.specs.Places.{part, same_part}
use Rattle.path_plan.specs.Phases.{Phase, Raw, EndingBases, Ended, Phases, phases_after}
use Rattle.path_plan.specs.Views.{view}
use Rattle.path_plan.specs.declared.form.Form.{Form}
use Rattle.path_plan.specs.declared.form.Form.TheVariants.{InFull, AsBase}
use Rattle.path_plan.specs.Whole.{whole_part}
use Rattle.path_plan.proofs.Same.{put_same, popped_same, part_same, part_itself, Owns}
use Rattle.path_model.specs.Values.{Objects}
use Rattle.path_model.specs.Places.{owner_class}
use Rattle.path_model.specs.Steps.{objects_after, event_outs}
use Rattle.byte_memory.specs.Regions.{starts as starts_there}
use Rattle.byte_memory.specs.Store.{Store, close_of}
use Rattle.byte_code.specs.declared.op.Op.{Op}
use Rattle.byte_code.specs.declared.op.Phase.TheVariants.{EndingBases as ByteEndingBases, Ended as ByteEnded}
use Rattle.byte_shadow.specs.Shadows.{Notes, phased}
use Rattle.byte_machine.specs.Heap.{object_at}
use Rattle.byte_machine.specs.Running.{Running, Stop}
use Rattle.byte_machine.specs.Plans.{with_notes, is_heap_object}
use Rattle.byte_machine.specs.Leads.{OpsLead}
use Rattle.byte_machine.proofs.PlanLeads.{leads_set_phase, leads_set_phase_closes}
use Rattle.agree_parts.specs.Heaps.{Heap, object_start}
use Rattle.agree_parts.proofs.Found.{start_found}
use Rattle.agree_parts.proofs.Made.{whole_made, whole_owner}
use Rattle.agree_parts.proofs.Objects.{object_there}
use Rattle.code_blocks.specs.Blocks.{event_then, back_then}
use Rattle.code_blocks.specs.Items.{Item, event_of}
use Rattle.code_blocks.specs.declared.items.Kind.TheVariants.{AtEnd}
use Rattle.code_ops.specs.Setups.{PlanCode}
use Rattle.agree_relation.specs.Worlds.{World, IsProgramWorld, world_classes, places_in, fixed}
use Rattle.agree_relation.specs.Words.{heap_of}
use Rattle.agree_relation.specs.Columns.{ObjectsStand, ColumnsStand}
use Rattle.agree_relation.specs.Goings.{Going, StandsOnStack, WaitsIn}
use Rattle.agree_relation.specs.Frames.{PlaceNumbers, IsHandedBy}
use Rattle.agree_relation.proofs.Closing.{IsClosing, heap_shut}
use Rattle.agree_relation.proofs.ColumnsClosed.{object_closed}
use Rattle.agree_relation.proofs.Listed.{part_listed}
use Rattle.agree_relation.proofs.Objects.{objects_laid, objects_regions, object_has_region, whole_address}
use Rattle.agree_relation.proofs.Owners.{pair_test}
use Rattle.agree_relation.proofs.SeenParts.{closed_after, whole_end_closes, other_end_closes_none}
use Rattle.agree_events.specs.Events.{IsOwnEvent, Rest, RunsGoing, complete_of, stack_below}
use Rattle.agree_events.proofs.Planned.{below_differ, idle_before}
use Rattle.agree_events.proofs.Own.{ended_view, whole_in}
use Rattle.agree_events.proofs.Noted.{Made, at_part, complete_once, event_only, phases_change, views_change, IsPhased}
use Rattle.agree_events.proofs.Pointed.{pointers_change}
use Rattle.agree_events.proofs.Steps.{low_itself, with_phases, IsChange, objects_stay, leaves_stay, tells_nothing}
use Rattle.agree_events.proofs.Changes.{phased_at, found, quietly}
use Rattle.agree_events.proofs.Leaves.{Onwards, base_back}

-- a complete object without a view has no view to be noted
no_view : (w : World) (g : Heap) (s : Phases) (p : ObjectPart) (d : ClassId) → Made w g (whole_in p d) d → view s p.object p.owner d ≡ None → (k : ℕ) (o : List Step) (b : ClassId) (x : Subobject) → Owns p k o → Made w g (part k o (whole_of b)) b → view s k o b ≡ Some x → ⊥
no_view w g s p d whole none k o b x owns there is =
    let moved : Made w g (part k o (whole_of d)) d = subst (λ i. Made w g (part i o (whole_of d)) d) owns.object (subst (λ (r : List Step). Made w g (part p.object r (whole_of d)) d) owns.owner whole) in
    let one = complete_once w g k o d b moved there in
    let mine : view s k o b ≡ None = subst (λ (a : ClassId). view s k o a ≡ None) one (subst (λ i. view s i o d ≡ None) owns.object (subst (λ (r : List Step). view s p.object r d ≡ None) owns.owner none)) in
    let clash : Some x ≡ None = sym is ∙ mine in
    cc (clash)

columns_unviewed : (w : World) → IsProgramWorld w → (s : Objects) (r : Running) (phases : Phases) (p : ObjectPart) (c d : ClassId) (v : Phase) (notes' : Notes) → IsChange w (heap_of s.classes r.memory.regions) s phases p c d v r.memory r.memory.bit r.notes notes' → view phases p.object p.owner d ≡ None
    → ColumnsStand w s r.memory r.objects r.heap r.notes → ColumnsStand w (with_phases s phases) r.memory r.objects r.heap notes'
columns_unviewed w world s r phases p c d v notes' change none old =
    let g = heap_of s.classes r.memory.regions in
    let laid = objects_laid w s r.memory.regions r.objects r.heap world old.objects in
    record {
      objects = objects_stay w s phases r.memory.regions r.objects r.heap old.objects;
      leaves = leaves_stay w s phases r.memory r.memory.bit change.leaves old.leaves;
      phases = phases_change w g laid s.phases phases r.notes notes' p c d v change.made change.whole change.only change.phase change.phased old.phases;
      views = views_change w g laid s.phases phases r.notes notes' p d change.whole change.only change.viewed (λ k o b e x owns there is made. absurd (no_view w g phases p d change.whole none k o b x owns there is)) old.views;
      pointers = pointers_change w g s (with_phases s phases) r.memory r.memory p change.only (λ k is_open. is_open) change.others (λ k o b e x owns there made is_open is ready dynamic. absurd (no_view w g phases p d change.whole none k o b x owns there is)) old.pointers;
    }

-- the heap object itself, by the test of the machine
object_tested : (w : World) → IsProgramWorld w → (s : Objects) (r : Running) (p : ObjectPart) (c e : ClassId) → ObjectsStand w s r.memory.regions r.objects r.heap → Made w (heap_of s.classes r.memory.regions) p c → slice_get s.classes p.object ≡ Some e
    → is_heap_object (at_part w (heap_of s.classes r.memory.regions) p) c.0 (object_at r.objects (at_part w (heap_of s.classes r.memory.regions) p)) ≡ same_part (whole_part p.object e) p
object_tested w world s r p c e o made class =
    let g = heap_of s.classes r.memory.regions in
    let laid = objects_laid w s r.memory.regions r.objects r.heap world o in
    ap (is_heap_object (at_part w g p) c.0) (part_listed w s r.memory.regions r.objects r.heap p c e world o made class)
    ∙ (ap (λ a. nat_eq a (at_part w g p) && nat_eq e.0 c.0) (sym (whole_address w g p.object e class))
    ∙ pair_test w g (whole_part p.object e) p e c laid (whole_made (world_classes w) g p.object e class) made)

-- where it is not, no object is closed
none_closed : (s : Objects) (p : ObjectPart) (e : ClassId) → slice_get s.classes p.object ≡ Some e → same_part (whole_part p.object e) p ≡ false → closed_after s p ≡ s.is_closed
none_closed s p e class other = λ i. λ j. other_end_closes_none s p e class (λ same. not_both (ap (λ (q : ObjectPart). same_part q p) (sym same) ∙ part_itself p) other) j i

-- a base is not the heap object itself
base_apart : (w : World) (s : Objects) (g : Heap) → g.classes ≡ s.classes → (f : Going) (left : List Item) (below : List Going) → (event : IsOwnEvent w s.classes s.phases f AtEnd left below) → (e : ClassId) → slice_get s.classes f.part.object ≡ Some e → StandsOnStack AsBase f.class (complete_of event) f.part (stack_below f below) → same_part (whole_part f.part.object e) f.part ≡ false
base_apart w s g classes f left below event e class stands = is_false (same_part (whole_part f.part.object e) f.part) (λ same.
    let p = f.part in
    let one : whole_part p.object e ≡ p = part_same (whole_part p.object e) p same in
    let steps : [] ≡ p.owner = ap (λ (q : ObjectPart). q.owner) one in
    let h : Heap = record { classes = s.classes; starts = [] } in
    let d = complete_of event in
    let whole = event.planned.going.0.whole in
    let owner : owner_class (world_classes w) s.classes p.object p.owner ≡ Some d = whole_owner (world_classes w) h (whole_in p d) d whole refl in
    let own : Some e ≡ Some d = sym class ∙ (ap (owner_class (world_classes w) s.classes p.object) steps ∙ owner) in
    let is : e ≡ d = cc (own) in
    let top : p.at ≡ whole_of d = sym (ap (λ (q : ObjectPart). q.at) one) ∙ ap whole_of is in
    below_differ s.phases f AtEnd left below event.planned.in_step event.planned.stack (λ start. idle_before (world_classes w) s.phases AtEnd p start event.fits) (whole_of d) stands top)

-- what the notes are after the phase
ended_notes : (w : World) (s : Objects) (f : Going) (left : List Item) (below : List Going) → (event : IsOwnEvent w s.classes s.phases f AtEnd left below) → (r : Running) → ColumnsStand w s r.memory r.objects r.heap r.notes
    → IsPhased w (heap_of s.classes r.memory.regions) f.part f.class (complete_of event) Ended r.notes (phased r.notes (at_part w (heap_of s.classes r.memory.regions) f.part) f.class.0 ByteEnded)
ended_notes w s f left below event r columns =
    let g = heap_of s.classes r.memory.regions in
    let going = event.planned.going.0 in
    let raw : s.phases.phase f.part ≡ Raw → ⊥ = λ e. let same : EndingBases ≡ Raw = sym event.fits.0 ∙ e in cc (same) in
    phased_at w g s.phases r.notes f.part f.class (complete_of event) Ended ByteEnded going.made going.whole columns.phases raw refl

end_back : (w : World) → IsProgramWorld w → (s : Objects) (f : Going) (left : List Item) (below : List Going) → (event : IsOwnEvent w s.classes s.phases f AtEnd left below) → (r : Running) (notes1 : Notes) (rest : List Op) (P : Running → Stop → Type 0)
    → IsPhased w (heap_of s.classes r.memory.regions) f.part f.class (complete_of event) Ended r.notes notes1 → ((a n : ℕ) → notes1.view a n ≡ r.notes.view a n)
    → (form : Form) → StandsOnStack form f.class (complete_of event) f.part (stack_below f below) → IsHandedBy w (heap_of s.classes r.memory.regions) form f.class (complete_of event) f.part (stack_below f below) r.top.handed → WaitsIn s.phases form f.part (stack_below f below)
    → ColumnsStand w s r.memory r.objects r.heap r.notes → Onwards w s (phases_after s.phases (event_of AtEnd f.part)) r rest P → OpsLead (fixed w) (back_then form rest) (with_notes r notes1) P
end_back w world s f left below event r notes1 rest P changed same InFull stands handed waits columns go =
    let going = event.planned.going.0 in
    go notes1
    (columns_unviewed w world s r (phases_after s.phases (event_of AtEnd f.part)) f.part f.class (complete_of event) Ended notes1
    (record {
      made = going.made;
      whole = going.whole;
      only = event_only s.phases AtEnd f.part;
      phase = put_same s.phases.phase f.part Ended;
      phased = changed;
      viewed = record { there = λ a n differ. same a n };
      others = λ k o differ is_open q e made dynamic object owner. refl;
      leaves = λ a t made i low high. refl;
    })
    (ended_view w s.classes s.phases f left below event stands) columns)
end_back w world s f left below event r notes1 rest P changed same AsBase stands handed waits columns go =
    base_back w world s f AtEnd left below event refl r notes1 rest P Ended (put_same s.phases.phase f.part Ended) (popped_same s.phases.running f.part) changed same stands (stack_below f below) refl handed waits columns go

-- where the part is not the heap object
open_end : (w : World) (at : PlaceNumbers) → IsProgramWorld w → (s : Objects) (f : Going) (left : List Item) (below : List Going) → (event : IsOwnEvent w s.classes s.phases f AtEnd left below) → (r : Running) (rest : List Op) (P : Running → Stop → Type 0) → (e : ClassId) → slice_get s.classes f.part.object ≡ Some e → same_part (whole_part f.part.object e) f.part ≡ false
    → RunsGoing w (heap_of s.classes r.memory.regions) f below (complete_of event) r.top → ColumnsStand w s r.memory r.objects r.heap r.notes
    → Rest w at f (objects_after w.setup.program s (event_of AtEnd f.part)) r (event_outs s (event_of AtEnd f.part)) rest P → OpsLead (fixed w) (event_then w.setup f.course f.form f.class AtEnd rest) r P
open_end w at world s f left below event r rest P e class other runs columns go =
    let g = heap_of s.classes r.memory.regions in
    let p = f.part in
    let c = f.class in
    let going = event.planned.going.0 in
    let phases = phases_after s.phases (event_of AtEnd p) in
    let kept = none_closed s p e class other in
    let after_is : objects_after w.setup.program s (event_of AtEnd p) ≡ with_phases s phases = λ i. record { classes = s.classes; is_closed = kept i; phases = phases; leaf = s.leaf } in
    let go_open : Rest w at f (with_phases s phases) r [] rest P = subst (λ (x : Objects). Rest w at f x r [] rest P) after_is go in
    leads_set_phase (fixed w) c.0 ByteEnded ByteEndingBases (at_part w g p) runs.this (found w g s.phases r.notes p c EndingBases going.made columns.phases event.fits.0) (object_tested w world s r p c e columns.objects going.made class ∙ other)
    (end_back w world s f left below event r (phased r.notes (at_part w g p) c.0 ByteEnded) rest P (ended_notes w s f left below event r columns) (λ a n. refl) f.form going.stands runs.handed event.planned.waits.0 columns
    (λ notes stand. go_open r.top.registers r.memory notes r.outs (low_itself w (PlanCode f.course f.form c) r.top.registers) (quietly w at (with_phases s phases) r r.memory.bit notes stand)))

-- where it is: its region is closed
closed_columns : (w : World) → IsProgramWorld w → (s : Objects) (f : Going) (left : List Item) (below : List Going) → (event : IsOwnEvent w s.classes s.phases f AtEnd left below) → (r : Running) (e : ClassId) → slice_get s.classes f.part.object ≡ Some e → IsClosing s f.part.object (closed_after s f.part)
    → StandsOnStack InFull f.class (complete_of event) f.part (stack_below f below) → ColumnsStand w s r.memory r.objects r.heap r.notes
    → ColumnsStand w (objects_after w.setup.program s (event_of AtEnd f.part)) (close_of r.memory (object_start (heap_of s.classes r.memory.regions) f.part.object) ((places_in w).size e)) r.objects r.heap (phased r.notes (at_part w (heap_of s.classes r.memory.regions) f.part) f.class.0 ByteEnded)
closed_columns w world s f left below event r e class closing stands columns =
    let going = event.planned.going.0 in
    let phases = phases_after s.phases (event_of AtEnd f.part) in
    let notes = phased r.notes (at_part w (heap_of s.classes r.memory.regions) f.part) f.class.0 ByteEnded in
    let ended = columns_unviewed w world s r phases f.part f.class (complete_of event) Ended notes
    (record {
      made = going.made;
      whole = going.whole;
      only = event_only s.phases AtEnd f.part;
      phase = put_same s.phases.phase f.part Ended;
      phased = ended_notes w s f left below event r columns;
      viewed = record { there = λ a n differ. refl };
      others = λ k o differ is_open q b made dynamic object owner. refl;
      leaves = λ a t made i low high. refl;
    })
    (ended_view w s.classes s.phases f left below event stands) columns in
    object_closed w (with_phases s phases) r.memory r.objects r.heap notes f.part.object e (closed_after s f.part) world ended class (record { here = closing.here; others = closing.others })

closing_end : (w : World) (at : PlaceNumbers) → IsProgramWorld w → (s : Objects) (f : Going) (left : List Item) (below : List Going) → (event : IsOwnEvent w s.classes s.phases f AtEnd left below) → (r : Running) (rest : List Op) (P : Running → Stop → Type 0) → s.is_closed f.part.object ≡ false
    → (e : ClassId) → slice_get s.classes f.part.object ≡ Some e → same_part (whole_part f.part.object e) f.part ≡ true → (form : Form) → StandsOnStack form f.class (complete_of event) f.part (stack_below f below)
    → RunsGoing w (heap_of s.classes r.memory.regions) f below (complete_of event) r.top → ColumnsStand w s r.memory r.objects r.heap r.notes
    → Rest w at f (objects_after w.setup.program s (event_of AtEnd f.part)) r (event_outs s (event_of AtEnd f.part)) rest P → OpsLead (fixed w) (event_then w.setup f.course form f.class AtEnd rest) r P
closing_end w at world s f left below event r rest P is_open e class same AsBase stands runs columns go = absurd (not_both same (base_apart w s (heap_of s.classes r.memory.regions) refl f left below event e class stands))
closing_end w at world s f left below event r rest P is_open e class same InFull stands runs columns go =
    let g = heap_of s.classes r.memory.regions in
    let p = f.part in
    let c = f.class in
    let going = event.planned.going.0 in
    let phases = phases_after s.phases (event_of AtEnd p) in
    let o = columns.objects in
    let laid = objects_laid w s r.memory.regions r.objects r.heap world o in
    let one : whole_part p.object e ≡ p = part_same (whole_part p.object e) p same in
    let closing : IsClosing s p.object (closed_after s p) = subst (λ (q : ObjectPart). IsClosing s p.object (closed_after s q)) one (whole_end_closes s p.object e class) in
    let start : at_part w g p ≡ object_start g p.object = ap (at_part w g) (sym one) ∙ whole_address w g p.object e class in
    let has = object_has_region w s r.memory.regions r.objects r.heap p.object e o class in
    let there = start_found (world_classes w) w.setup.rows g r.memory.regions p.object (object_start g p.object) e laid (objects_regions w s r.memory.regions r.objects r.heap o) (object_there (world_classes w) (places_in w) g p.object e laid.placed class) in
    let found_region : find (starts_there (at_part w g p)) r.memory.regions ≡ Some has.region = ap (λ a. find (starts_there a) r.memory.regions) start ∙ (there ∙ has.there) in
    let notes = phased r.notes (at_part w g p) c.0 ByteEnded in
    let memory = close_of r.memory (object_start g p.object) ((places_in w).size e) in
    let memory_is : memory ≡ close_of r.memory (at_part w g p) has.region.size = let back = sym start in let size = sym has.of.size in λ i. close_of r.memory (back i) (size i) in
    leads_set_phase_closes (fixed w) c.0 ByteEnded ByteEndingBases (at_part w g p) has.region runs.this (found w g s.phases r.notes p c EndingBases going.made columns.phases event.fits.0) (object_tested w world s r p c e o going.made class ∙ same) found_region (has.of.is_open ∙ ap not is_open)
    (subst (λ (m : Store). OpsLead (fixed w) rest (record (with_notes r notes) { memory = m }) P) memory_is
    (go r.top.registers memory notes r.outs (low_itself w (PlanCode f.course f.form c) r.top.registers) (record {
      columns = closed_columns w world s f left below event r e class closing stands columns;
      starts = ap (λ (x : Heap). x.starts) (heap_shut w s r.memory.regions r.objects r.heap (object_start g p.object) o);
      tells = tells_nothing w at g r.outs;
    })))

pub end_runs : (w : World) (at : PlaceNumbers) → IsProgramWorld w → (s : Objects) (f : Going) (left : List Item) (below : List Going) → (event : IsOwnEvent w s.classes s.phases f AtEnd left below) → (r : Running) (rest : List Op) (P : Running → Stop → Type 0) → s.is_closed f.part.object ≡ false
    → RunsGoing w (heap_of s.classes r.memory.regions) f below (complete_of event) r.top → ColumnsStand w s r.memory r.objects r.heap r.notes
    → Rest w at f (objects_after w.setup.program s (event_of AtEnd f.part)) r (event_outs s (event_of AtEnd f.part)) rest P → OpsLead (fixed w) (event_then w.setup f.course f.form f.class AtEnd rest) r P
end_runs w at world s f left below event r rest P is_open runs columns go =
    let made = event.planned.going.0.made in
    split (same_part (whole_part f.part.object made.class) f.part) (λ b. same_part (whole_part f.part.object made.class) f.part ≡ b → OpsLead (fixed w) (event_then w.setup f.course f.form f.class AtEnd rest) r P)
    (λ _ same. closing_end w at world s f left below event r rest P is_open made.class made.made same f.form event.planned.going.0.stands runs columns go)
    (λ _ other. open_end w at world s f left below event r rest P made.class made.made other runs columns go) refl
