-- What ready and ending lead to: the virtual pointers are those of the part as a view.
use Rattle.std.proofs.Common.{◌≡◌, true, false, List, [], ◌∷◌, ◌++◌, refl, ap, sym, ◌∙◌}
use Rattle.path_plan.specs.Phases.{Raw, InBases, ReadyBuilding, Complete, ReadyEnding, phases_after, is_running}
use Rattle.path_plan.proofs.Same.{put_same}
use Rattle.path_model.specs.Values.{Objects}
use Rattle.path_model.specs.Steps.{objects_after, event_outs}
use Rattle.byte_code.specs.declared.op.Op.{Op}
use Rattle.byte_code.specs.declared.op.Op.TheVariants.{SetPhase, SetView, Trace}
use Rattle.byte_code.specs.declared.op.TraceKind.TheVariants.{Ending as TraceEnding}
use Rattle.byte_code.specs.declared.op.Phase.TheVariants.{InBases as ByteInBases, ReadyBuilding as ByteReadyBuilding, Complete as ByteComplete, ReadyEnding as ByteReadyEnding}
use Rattle.byte_shadow.specs.Shadows.{phased, viewed}
use Rattle.byte_machine.specs.declared.turn.RawOut.TheVariants.{Ending}
use Rattle.byte_machine.specs.Running.{Running, Stop}
use Rattle.byte_machine.specs.Plans.{frame_owner}
use Rattle.byte_machine.specs.Leads.{OpsLead}
use Rattle.byte_machine.proofs.PlanLeads.{leads_set_phase, leads_set_view}
use Rattle.byte_machine.proofs.ControlLeads.{leads_trace_ending}
use Rattle.code_blocks.specs.Blocks.{event_then, whose_of}
use Rattle.code_blocks.specs.Items.{Item, event_of}
use Rattle.code_blocks.specs.declared.items.Kind.TheVariants.{AtReady, AtEnding}
use Rattle.code_ops.specs.Setups.{PlanCode}
use Rattle.agree_relation.specs.Worlds.{World, IsProgramWorld, fixed}
use Rattle.agree_relation.specs.Words.{heap_of}
use Rattle.agree_relation.specs.Columns.{ColumnsStand}
use Rattle.agree_relation.specs.Goings.{Going}
use Rattle.agree_relation.specs.Frames.{PlaceNumbers}
use Rattle.agree_relation.proofs.Objects.{objects_laid}
use Rattle.agree_events.specs.Events.{IsOwnEvent, Rest, RunsGoing, complete_of, stack_below}
use Rattle.agree_events.proofs.Own.{below_runs_after, view_before, view_after, whole_in, whole_runs}
use Rattle.agree_events.proofs.Noted.{at_part, event_only, phases_change}
use Rattle.agree_events.proofs.Steps.{low_itself, with_bits, columns_after}
use Rattle.agree_events.proofs.Changes.{phased_at, viewed_at, viewed_here, owner_is, owner_noted, found, quietly}
use Rattle.agree_events.proofs.Points.{pointers_lead}
use Rattle.agree_events.proofs.Told.{tells_ending}

pub ready_runs : (w : World) (at : PlaceNumbers) → IsProgramWorld w → (s : Objects) (f : Going) (left : List Item) (below : List Going) → (event : IsOwnEvent w s.classes s.phases f AtReady left below) → (r : Running) (rest : List Op) (P : Running → Stop → Type 0) → s.is_closed f.part.object ≡ false
    → RunsGoing w (heap_of s.classes r.memory.regions) f below (complete_of event) r.top → ColumnsStand w s r.memory r.objects r.heap r.notes
    → Rest w at f (objects_after w.setup.program s (event_of AtReady f.part)) r (event_outs s (event_of AtReady f.part)) rest P → OpsLead (fixed w) (event_then w.setup f.course f.form f.class AtReady rest) r P
ready_runs w at world s f left below event r rest P is_open runs columns go =
    let g = heap_of s.classes r.memory.regions in
    let p = f.part in
    let c = f.class in
    let d = complete_of event in
    let going = event.planned.going.0 in
    let s' = phases_after s.phases (event_of AtReady p) in
    let notes' = phased r.notes (at_part w g p) c.0 ByteReadyBuilding in
    let raw : s.phases.phase p ≡ Raw → ⊥ = λ e. let same : InBases ≡ Raw = sym event.fits.0 ∙ e in cc (same) in
    pointers_lead w world s r f.form c d p (stack_below f below) columns is_open going.made going.whole going.stands runs.handed runs.this (SetPhase c.0 ByteReadyBuilding ∷ rest) P
    (λ bit' others leaves has. leads_set_phase (fixed w) {s = record r { memory = with_bits r.memory bit' }} c.0 ByteReadyBuilding ByteInBases (at_part w g p) runs.this (found w g s.phases r.notes p c InBases going.made columns.phases event.fits.0) refl
    (go r.top.registers (with_bits r.memory bit') notes' r.outs (low_itself w (PlanCode f.course f.form c) r.top.registers) (quietly w at (objects_after w.setup.program s (event_of AtReady p)) r bit' notes'
    (columns_after w s r.memory r.objects r.heap r.notes (objects_laid w s r.memory.regions r.objects r.heap world columns.objects) s' p c d ReadyBuilding bit' notes'
    (record {
      made = going.made;
      whole = going.whole;
      only = event_only s.phases AtReady p;
      phase = put_same s.phases.phase p ReadyBuilding;
      phased = phased_at w g s.phases r.notes p c d ReadyBuilding ByteReadyBuilding going.made going.whole columns.phases raw refl;
      viewed = record { there = λ a n differ. refl };
      others = others;
      leaves = leaves;
    })
    p.at c (record {
      class = going.made.of_class;
      view_is = view_after w s.classes s.phases f AtReady left below event refl;
      noted = columns.views.view p.object p.owner d c p.at going.whole (view_before w s.classes s.phases f AtReady left below event refl) going.made;
    })
    (λ ready dynamic opened. has dynamic) columns))))

pub ending_runs : (w : World) (at : PlaceNumbers) → IsProgramWorld w → (s : Objects) (f : Going) (left : List Item) (below : List Going) → (event : IsOwnEvent w s.classes s.phases f AtEnding left below) → (r : Running) (rest : List Op) (P : Running → Stop → Type 0) → s.is_closed f.part.object ≡ false
    → RunsGoing w (heap_of s.classes r.memory.regions) f below (complete_of event) r.top → ColumnsStand w s r.memory r.objects r.heap r.notes
    → Rest w at f (objects_after w.setup.program s (event_of AtEnding f.part)) r (event_outs s (event_of AtEnding f.part)) rest P → OpsLead (fixed w) (event_then w.setup f.course f.form f.class AtEnding rest) r P
ending_runs w at world s f left below event r rest P is_open runs columns go =
    let g = heap_of s.classes r.memory.regions in
    let p = f.part in
    let c = f.class in
    let d = complete_of event in
    let going = event.planned.going.0 in
    let s' = phases_after s.phases (event_of AtEnding p) in
    let laid = objects_laid w s r.memory.regions r.objects r.heap world columns.objects in
    let raw : s.phases.phase p ≡ Raw → ⊥ = λ e. let same : Complete ≡ Raw = sym event.fits ∙ e in cc (same) in
    let pair = frame_owner r.top.handed (whose_of f.form) (at_part w g p) c.0 in
    let is = owner_is w g f.form c d p (stack_below f below) r.top.handed going.stands runs.handed in
    let notes1 = phased r.notes (at_part w g p) c.0 ByteReadyEnding in
    let notes2 = viewed notes1 pair.0 pair.1 (at_part w g p) c.0 in
    let changed = phased_at w g s.phases r.notes p c d ReadyEnding ByteReadyEnding going.made going.whole columns.phases raw refl in
    let stand = phases_change w g laid s.phases s' r.notes notes1 p c d ReadyEnding going.made going.whole (event_only s.phases AtEnding p) (put_same s.phases.phase p ReadyEnding) changed columns.phases in
    let on : is_running (s'.phase (whole_in p d)) ≡ true = whole_runs s' f.form c d p (stack_below f below) going.stands (below_runs_after w s.classes s.phases f AtEnding left below event) (ap is_running (put_same s.phases.phase p ReadyEnding)) in
    let owner = owner_noted w g s' notes1 p d pair going.whole stand is on in
    let view = viewed_at w g notes1 p d pair (at_part w g p, c.0) is in
    pointers_lead w world s r f.form c d p (stack_below f below) columns is_open going.made going.whole going.stands runs.handed runs.this (SetPhase c.0 ByteReadyEnding ∷ SetView c.0 (whose_of f.form) ∷ Trace (TraceEnding c.0) ∷ rest) P
    (λ bit' others leaves has. leads_set_phase (fixed w) {s = record r { memory = with_bits r.memory bit' }} c.0 ByteReadyEnding ByteComplete (at_part w g p) runs.this (found w g s.phases r.notes p c Complete going.made columns.phases event.fits) refl
    (leads_set_view (fixed w) {s = record r { memory = with_bits r.memory bit'; notes = notes1 }} c.0 (whose_of f.form) (at_part w g p) owner.0 runs.this owner.1
    (leads_trace_ending (fixed w) {s = record r { memory = with_bits r.memory bit'; notes = notes2 }} c.0 (at_part w g p) runs.this
    (go r.top.registers (with_bits r.memory bit') notes2 (r.outs ++ Ending c.0 (at_part w g p) ∷ []) (low_itself w (PlanCode f.course f.form c) r.top.registers) (record {
      columns = columns_after w s r.memory r.objects r.heap r.notes laid s' p c d ReadyEnding bit' notes2
          (record {
            made = going.made;
            whole = going.whole;
            only = event_only s.phases AtEnding p;
            phase = put_same s.phases.phase p ReadyEnding;
            phased = record { here = changed.here; there = changed.there; owner = changed.owner; owners = changed.owners };
            viewed = record { there = view.there };
            others = others;
            leaves = leaves;
          })
          p.at c (record {
            class = going.made.of_class;
            view_is = view_after w s.classes s.phases f AtEnding left below event refl;
            noted = viewed_here w g notes1 p d pair (at_part w g p, c.0) is;
          })
          (λ ready dynamic opened. has dynamic) columns;
      starts = refl;
      tells = tells_ending w at g s p c r.outs refl going.made;
    })))))
