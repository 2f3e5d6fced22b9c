-- The last event of a part: a base gives the view back, and a complete object is its own view or has none.
use Rattle.std.proofs.Common.{◌≡◌, ℕ, true, false, Some, List, [], ◌∷◌, ◌++◌, refl, ap, subst, sym, ◌∙◌}
use Rattle.std.specs.List.{Contains}
use Rattle.cxx_subobject.specs.declared.Subobject.{Subobject}
use Rattle.cxx_subobject.specs.Subobjects.{whole_of}
use Rattle.foundation.proofs.Places.{contains_first}
use Rattle.path_plan.specs.Places.{part}
use Rattle.path_plan.specs.Phases.{Phase, Raw, ReadyBuilding, Complete, Phases, phases_after, is_ready, top_subobject, rest_of, is_running}
use Rattle.path_plan.specs.declared.form.Form.{Form}
use Rattle.path_plan.specs.declared.form.Form.TheVariants.{InFull, AsBase}
use Rattle.path_plan.proofs.Same.{put_same, popped_same}
use Rattle.path_model.specs.Values.{Objects}
use Rattle.path_model.specs.Steps.{objects_after, event_outs}
use Rattle.byte_code.specs.declared.op.Op.{Op}
use Rattle.byte_code.specs.declared.op.Op.TheVariants.{Trace}
use Rattle.byte_code.specs.declared.op.TraceKind.TheVariants.{Built as TraceBuilt}
use Rattle.byte_code.specs.declared.op.Phase.TheVariants.{ReadyBuilding as ByteReadyBuilding, Complete as ByteComplete}
use Rattle.byte_shadow.specs.Shadows.{Notes, phased, viewed}
use Rattle.byte_machine.specs.declared.turn.RawOut.TheVariants.{Built}
use Rattle.byte_machine.specs.Running.{Running, Stop}
use Rattle.byte_machine.specs.Plans.{with_notes}
use Rattle.byte_machine.specs.Leads.{OpsLead}
use Rattle.byte_machine.proofs.PlanLeads.{leads_set_phase, leads_view_back}
use Rattle.byte_machine.proofs.ControlLeads.{leads_trace_built}
use Rattle.code_blocks.specs.Blocks.{event_then, back_then}
use Rattle.code_blocks.specs.Items.{Item, event_of}
use Rattle.code_blocks.specs.declared.items.Kind.{Kind}
use Rattle.code_blocks.specs.declared.items.Kind.TheVariants.{AtDone}
use Rattle.code_ops.specs.Setups.{PlanCode}
use Rattle.agree_relation.specs.Worlds.{World, IsProgramWorld, fixed}
use Rattle.agree_relation.specs.Words.{heap_of}
use Rattle.agree_relation.specs.Columns.{shadow_pair, ColumnsStand}
use Rattle.agree_relation.specs.Goings.{Going, is_first_event, StandsOnStack, WaitsIn}
use Rattle.agree_relation.specs.Frames.{PlaceNumbers, IsHandedBy}
use Rattle.agree_relation.proofs.Objects.{objects_laid}
use Rattle.agree_events.specs.Events.{IsOwnEvent, Rest, RunsGoing, complete_of, stack_below}
use Rattle.agree_events.proofs.Own.{below_runs_after, below_same, view_before, base_view_after, done_view, bases_unready, whole_in}
use Rattle.agree_events.proofs.Noted.{at_part, event_only, phases_change, IsPhased}
use Rattle.agree_events.proofs.Steps.{low_itself, with_phases, columns_after}
use Rattle.agree_events.proofs.Changes.{phased_at, viewed_at, viewed_here, owner_noted, found}
use Rattle.agree_events.proofs.Told.{tells_built}

-- what is left of the block, from any notes of the state after the event
abbrev pub Onwards : World → Objects → Phases → Running → List Op → (Running → Stop → Type 0) → Type 0
Onwards w s phases r rest P = (notes : Notes) → ColumnsStand w (with_phases s phases) r.memory r.objects r.heap notes → OpsLead (fixed w) rest (with_notes r notes) P

-- the last event of a base: behind the phase stands the op that gives the view back
pub base_back : (w : World) → IsProgramWorld w → (s : Objects) (f : Going) (k : Kind) (left : List Item) (below : List Going) → (event : IsOwnEvent w s.classes s.phases f k left below) → is_first_event k ≡ false → (r : Running) (notes1 : Notes) (rest : List Op) (P : Running → Stop → Type 0)
    → (v : Phase) → (phases_after s.phases (event_of k f.part)).phase f.part ≡ v → (phases_after s.phases (event_of k f.part)).running f.part.object f.part.owner ≡ rest_of (s.phases.running f.part.object f.part.owner)
    → IsPhased w (heap_of s.classes r.memory.regions) f.part f.class (complete_of event) v r.notes notes1 → ((a n : ℕ) → notes1.view a n ≡ r.notes.view a n)
    → StandsOnStack AsBase f.class (complete_of event) f.part (stack_below f below) → (stack : List Subobject) → stack_below f below ≡ stack → IsHandedBy w (heap_of s.classes r.memory.regions) AsBase f.class (complete_of event) f.part stack r.top.handed → WaitsIn s.phases AsBase f.part stack
    → ColumnsStand w s r.memory r.objects r.heap r.notes → Onwards w s (phases_after s.phases (event_of k f.part)) r rest P → OpsLead (fixed w) (back_then AsBase rest) (with_notes r notes1) P
base_back w world s f k left below event e r notes1 rest P v is popped changed same stands [] stack handed waits columns go = absurd handed
base_back w world s f k left below event e r notes1 rest P v is popped changed same stands (y ∷ more) stack handed waits columns go =
    let g = heap_of s.classes r.memory.regions in
    let p = f.part in
    let c = f.class in
    let d = complete_of event in
    let going = event.planned.going.0 in
    let s' = phases_after s.phases (event_of k p) in
    let laid = objects_laid w s r.memory.regions r.objects r.heap world columns.objects in
    let has : Contains (stack_below f below) y = subst (λ (xs : List Subobject). Contains xs y) (sym stack) (contains_first y more) in
    let h = r.top.handed in
    let pair : (h.owner, h.owner_class) ≡ shadow_pair w g (whole_in p d) d = λ i. (handed.owner i, handed.owner_class i) in
    let out : (h.outer, h.outer_class) ≡ shadow_pair w g (part p.object p.owner y) handed.class = λ i. (handed.outer i, handed.outer_class i) in
    let notes2 = viewed notes1 h.owner h.owner_class h.outer h.outer_class in
    let stand = phases_change w g laid s.phases s' r.notes notes1 p c d v going.made going.whole (event_only s.phases k p) is changed columns.phases in
    let on : is_running (s'.phase (whole_in p d)) ≡ true = below_runs_after w s.classes s.phases f k left below event (whole_of d) stands in
    let owner = owner_noted w g s' notes1 p d (h.owner, h.owner_class) going.whole stand pair on in
    let view = viewed_at w g notes1 p d (h.owner, h.owner_class) (h.outer, h.outer_class) pair in
    leads_view_back (fixed w) {s = with_notes r notes1} owner.0 owner.1
    (go notes2
    (columns_after w s r.memory r.objects r.heap r.notes laid s' p c d v r.memory.bit notes2
    (record {
      made = going.made;
      whole = going.whole;
      only = event_only s.phases k p;
      phase = is;
      phased = record { here = changed.here; there = changed.there; owner = changed.owner; owners = changed.owners };
      viewed = record { there = λ a n differ. view.there a n differ ∙ same a n };
      others = λ k o differ is_open q e made dynamic object owner. refl;
      leaves = λ a t made i low high. refl;
    })
    y handed.class (record {
      class = handed.of;
      view_is = base_view_after w s.classes s.phases f k left below event e stands popped ∙ ap top_subobject stack;
      noted = viewed_here w g notes1 p d (h.owner, h.owner_class) (h.outer, h.outer_class) pair ∙ ap (λ (o : ℕ × ℕ). Some o) out;
    })
    (λ ready dynamic is_open. let off : is_ready (s'.phase (part p.object p.owner y)) ≡ false = ap is_ready (below_same w s.classes s.phases f k left below event y has) ∙ bases_unready (s.phases.phase (part p.object p.owner y)) waits in absurd (cc (ready, off))) columns))

done_back : (w : World) → IsProgramWorld w → (s : Objects) (f : Going) (left : List Item) (below : List Going) → (event : IsOwnEvent w s.classes s.phases f AtDone left below) → (r : Running) (notes1 : Notes) (rest : List Op) (P : Running → Stop → Type 0)
    → IsPhased w (heap_of s.classes r.memory.regions) f.part f.class (complete_of event) Complete r.notes notes1 → ((a n : ℕ) → notes1.view a n ≡ r.notes.view a n)
    → (form : Form) → StandsOnStack form f.class (complete_of event) f.part (stack_below f below) → IsHandedBy w (heap_of s.classes r.memory.regions) form f.class (complete_of event) f.part (stack_below f below) r.top.handed → WaitsIn s.phases form f.part (stack_below f below)
    → ColumnsStand w s r.memory r.objects r.heap r.notes → Onwards w s (phases_after s.phases (event_of AtDone f.part)) r rest P → OpsLead (fixed w) (back_then form rest) (with_notes r notes1) P
done_back w world s f left below event r notes1 rest P changed same InFull stands handed waits columns go =
    let g = heap_of s.classes r.memory.regions in
    let p = f.part in
    let c = f.class in
    let d = complete_of event in
    let going = event.planned.going.0 in
    let s' = phases_after s.phases (event_of AtDone p) in
    let before = view_before w s.classes s.phases f AtDone left below event refl in
    go notes1
    (columns_after w s r.memory r.objects r.heap r.notes (objects_laid w s r.memory.regions r.objects r.heap world columns.objects) s' p c d Complete r.memory.bit notes1
    (record {
      made = going.made;
      whole = going.whole;
      only = event_only s.phases AtDone p;
      phase = put_same s.phases.phase p Complete;
      phased = changed;
      viewed = record { there = λ a n differ. same a n };
      others = λ k o differ is_open q e made dynamic object owner. refl;
      leaves = λ a t made i low high. refl;
    })
    p.at c (record {
      class = going.made.of_class;
      view_is = done_view w s.classes s.phases f left below event stands;
      noted = same (at_part w g (whole_in p d)) d.0 ∙ columns.views.view p.object p.owner d c p.at going.whole before going.made;
    })
    (λ ready dynamic is_open. columns.pointers.pointers p.object p.owner d c p.at going.whole going.made is_open before (ap is_ready event.fits.0) dynamic) columns)
done_back w world s f left below event r notes1 rest P changed same AsBase stands handed waits columns go =
    base_back w world s f AtDone left below event refl r notes1 rest P Complete (put_same s.phases.phase f.part Complete) (popped_same s.phases.running f.part) changed same stands (stack_below f below) refl handed waits columns go

pub done_runs : (w : World) (at : PlaceNumbers) → IsProgramWorld w → (s : Objects) (f : Going) (left : List Item) (below : List Going) → (event : IsOwnEvent w s.classes s.phases f AtDone left below) → (r : Running) (rest : List Op) (P : Running → Stop → Type 0)
    → RunsGoing w (heap_of s.classes r.memory.regions) f below (complete_of event) r.top → ColumnsStand w s r.memory r.objects r.heap r.notes
    → Rest w at f (objects_after w.setup.program s (event_of AtDone f.part)) r (event_outs s (event_of AtDone f.part)) rest P → OpsLead (fixed w) (event_then w.setup f.course f.form f.class AtDone rest) r P
done_runs w at world s f left below event r rest P runs columns go =
    let g = heap_of s.classes r.memory.regions in
    let p = f.part in
    let c = f.class in
    let going = event.planned.going.0 in
    let raw : s.phases.phase p ≡ Raw → ⊥ = λ e. let same : ReadyBuilding ≡ Raw = sym event.fits.0 ∙ e in cc (same) in
    leads_set_phase (fixed w) c.0 ByteComplete ByteReadyBuilding (at_part w g p) runs.this (found w g s.phases r.notes p c ReadyBuilding going.made columns.phases event.fits.0) refl
    (done_back w world s f left below event r (phased r.notes (at_part w g p) c.0 ByteComplete) (Trace (TraceBuilt c.0) ∷ rest) P
    (phased_at w g s.phases r.notes p c (complete_of event) Complete ByteComplete going.made going.whole columns.phases raw refl) (λ a n. refl) f.form going.stands runs.handed event.planned.waits.0 columns
    (λ notes stand. leads_trace_built (fixed w) {s = with_notes r notes} c.0 (at_part w g p) runs.this
    (go r.top.registers r.memory notes (r.outs ++ Built c.0 (at_part w g p) ∷ []) (low_itself w (PlanCode f.course f.form c) r.top.registers) (record { columns = stand; starts = refl; tells = tells_built w at g s p c r.outs refl going.made }))))
