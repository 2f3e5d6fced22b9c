-- What a body, begin and bases lead to.
use Rattle.std.proofs.Common.{◌≡◌, true, false, Some, List, refl, ap, sym, ◌∙◌}
use Rattle.path_plan.specs.Phases.{Raw, InBases, ReadyEnding, EndingBases, phases_after, is_ready, is_running}
use Rattle.path_plan.proofs.Same.{put_same}
use Rattle.path_model.specs.Values.{Objects}
use Rattle.path_model.specs.Steps.{objects_after, event_outs}
use Rattle.byte_code.specs.declared.op.Op.{Op}
use Rattle.byte_code.specs.declared.op.Phase.TheVariants.{Raw as ByteRaw, InBases as ByteInBases, ReadyEnding as ByteReadyEnding, EndingBases as ByteEndingBases}
use Rattle.byte_shadow.specs.Shadows.{noted_raw, phased, viewed}
use Rattle.byte_shadow.proofs.Changed.{put_at-same}
use Rattle.byte_machine.specs.Running.{Running, Stop}
use Rattle.byte_machine.specs.Plans.{frame_owner, with_notes}
use Rattle.byte_machine.specs.Leads.{OpsLead}
use Rattle.byte_machine.proofs.PlanLeads.{leads_begin, leads_set_phase, leads_set_view}
use Rattle.code_blocks.specs.Blocks.{event_then, whose_of}
use Rattle.code_blocks.specs.Items.{Item, event_of}
use Rattle.code_blocks.specs.declared.items.Kind.TheVariants.{AtBegin, AtBody, AtBases}
use Rattle.code_ops.specs.Setups.{PlanCode}
use Rattle.agree_relation.specs.Worlds.{World, IsProgramWorld, fixed}
use Rattle.agree_relation.specs.Words.{heap_of}
use Rattle.agree_relation.specs.Columns.{ColumnsStand}
use Rattle.agree_relation.specs.Goings.{Going}
use Rattle.agree_relation.specs.Frames.{PlaceNumbers}
use Rattle.agree_relation.proofs.Objects.{objects_laid}
use Rattle.agree_events.specs.Events.{IsOwnEvent, Rest, RunsGoing, complete_of, stack_below}
use Rattle.agree_events.proofs.Own.{below_runs_after, view_before, view_after, whole_in, whole_runs}
use Rattle.agree_events.proofs.Noted.{at_part, event_only, phases_change}
use Rattle.agree_events.proofs.Steps.{low_itself, columns_after}
use Rattle.agree_events.proofs.Changes.{phased_at, begun_at, viewed_at, viewed_here, owner_is, owner_noted, found, quietly}

-- a body is entered: nothing changes
pub body_runs : (w : World) (at : PlaceNumbers) (s : Objects) (f : Going) (r : Running) (rest : List Op) (P : Running → Stop → Type 0) → ColumnsStand w s r.memory r.objects r.heap r.notes
    → Rest w at f (objects_after w.setup.program s (event_of AtBody f.part)) r (event_outs s (event_of AtBody f.part)) rest P → OpsLead (fixed w) (event_then w.setup f.course f.form f.class AtBody rest) r P
body_runs w at s f r rest P columns go = go r.top.registers r.memory r.notes r.outs (low_itself w (PlanCode f.course f.form f.class) r.top.registers) (quietly w at (objects_after w.setup.program s (event_of AtBody f.part)) r r.memory.bit r.notes columns)

pub bases_runs : (w : World) (at : PlaceNumbers) → IsProgramWorld w → (s : Objects) (f : Going) (left : List Item) (below : List Going) → (event : IsOwnEvent w s.classes s.phases f AtBases left below) → (r : Running) (rest : List Op) (P : Running → Stop → Type 0)
    → RunsGoing w (heap_of s.classes r.memory.regions) f below (complete_of event) r.top → ColumnsStand w s r.memory r.objects r.heap r.notes
    → Rest w at f (objects_after w.setup.program s (event_of AtBases f.part)) r (event_outs s (event_of AtBases f.part)) rest P → OpsLead (fixed w) (event_then w.setup f.course f.form f.class AtBases rest) r P
bases_runs w at world s f left below event r rest P runs columns go =
    let g = heap_of s.classes r.memory.regions in
    let p = f.part in
    let c = f.class in
    let d = complete_of event in
    let going = event.planned.going.0 in
    let s' = phases_after s.phases (event_of AtBases p) in
    let notes' = phased r.notes (at_part w g p) c.0 ByteEndingBases in
    let raw : s.phases.phase p ≡ Raw → ⊥ = λ e. let f : ReadyEnding ≡ Raw = sym event.fits.0 ∙ e in cc (f) in
    leads_set_phase (fixed w) c.0 ByteEndingBases ByteReadyEnding (at_part w g p) runs.this (found w g s.phases r.notes p c ReadyEnding going.made columns.phases event.fits.0) refl
    (go r.top.registers r.memory notes' r.outs (low_itself w (PlanCode f.course f.form c) r.top.registers) (quietly w at (objects_after w.setup.program s (event_of AtBases p)) r r.memory.bit notes'
    (columns_after w s r.memory r.objects r.heap r.notes (objects_laid w s r.memory.regions r.objects r.heap world columns.objects) s' p c d EndingBases r.memory.bit notes'
    (record {
      made = going.made;
      whole = going.whole;
      only = event_only s.phases AtBases p;
      phase = put_same s.phases.phase p EndingBases;
      phased = phased_at w g s.phases r.notes p c d EndingBases ByteEndingBases going.made going.whole columns.phases raw refl;
      viewed = record { there = λ a n differ. refl };
      others = λ k o differ is_open q e made dynamic object owner. refl;
      leaves = λ a t made i low high. refl;
    })
    p.at c (record {
      class = going.made.of_class;
      view_is = view_after w s.classes s.phases f AtBases left below event refl;
      noted = columns.views.view p.object p.owner d c p.at going.whole (view_before w s.classes s.phases f AtBases left below event refl) going.made;
    })
    (λ ready dynamic is_open. let off : is_ready (s'.phase p) ≡ false = ap is_ready (put_same s.phases.phase p EndingBases) in absurd (cc (ready, off))) columns)))

pub begin_runs : (w : World) (at : PlaceNumbers) → IsProgramWorld w → (s : Objects) (f : Going) (left : List Item) (below : List Going) → (event : IsOwnEvent w s.classes s.phases f AtBegin left below) → (r : Running) (rest : List Op) (P : Running → Stop → Type 0)
    → RunsGoing w (heap_of s.classes r.memory.regions) f below (complete_of event) r.top → ColumnsStand w s r.memory r.objects r.heap r.notes
    → Rest w at f (objects_after w.setup.program s (event_of AtBegin f.part)) r (event_outs s (event_of AtBegin f.part)) rest P → OpsLead (fixed w) (event_then w.setup f.course f.form f.class AtBegin rest) r P
begin_runs w at world s f left below event r rest P runs columns go =
    let g = heap_of s.classes r.memory.regions in
    let p = f.part in
    let c = f.class in
    let d = complete_of event in
    let going = event.planned.going.0 in
    let s' = phases_after s.phases (event_of AtBegin p) in
    let laid = objects_laid w s r.memory.regions r.objects r.heap world columns.objects in
    let pair = frame_owner r.top.handed (whose_of f.form) (at_part w g p) c.0 in
    let is = owner_is w g f.form c d p (stack_below f below) r.top.handed going.stands runs.handed in
    let notes1 = noted_raw r.notes (at_part w g p) c.0 pair.0 pair.1 in
    let notes2 = phased notes1 (at_part w g p) c.0 ByteInBases in
    let notes3 = viewed notes2 pair.0 pair.1 (at_part w g p) c.0 in
    let changed = begun_at w g r.notes p c d InBases ByteInBases pair refl is in
    let stand = phases_change w g laid s.phases s' r.notes notes2 p c d InBases going.made going.whole (event_only s.phases AtBegin p) (put_same s.phases.phase p InBases) changed columns.phases in
    let on : is_running (s'.phase (whole_in p d)) ≡ true = whole_runs s' f.form c d p (stack_below f below) going.stands (below_runs_after w s.classes s.phases f AtBegin left below event) (ap is_running (put_same s.phases.phase p InBases)) in
    let owner = owner_noted w g s' notes2 p d pair going.whole stand is on in
    let view = viewed_at w g notes2 p d pair (at_part w g p, c.0) is in
    leads_begin (fixed w) c.0 (whose_of f.form) (at_part w g p) runs.this (found w g s.phases r.notes p c Raw going.made columns.phases event.fits)
    (leads_set_phase (fixed w) {s = with_notes r notes1} c.0 ByteInBases ByteRaw (at_part w g p) runs.this (put_at-same r.notes.phase (at_part w g p) c.0 (Some ByteRaw)) refl
    (leads_set_view (fixed w) {s = with_notes r notes2} c.0 (whose_of f.form) (at_part w g p) owner.0 runs.this owner.1
    (go r.top.registers r.memory notes3 r.outs (low_itself w (PlanCode f.course f.form c) r.top.registers) (quietly w at (objects_after w.setup.program s (event_of AtBegin p)) r r.memory.bit notes3
    (columns_after w s r.memory r.objects r.heap r.notes laid s' p c d InBases r.memory.bit notes3
    (record {
      made = going.made;
      whole = going.whole;
      only = event_only s.phases AtBegin p;
      phase = put_same s.phases.phase p InBases;
      phased = record { here = changed.here; there = changed.there; owner = changed.owner; owners = changed.owners };
      viewed = record { there = view.there };
      others = λ k o differ is_open q e made dynamic object owner. refl;
      leaves = λ a t made i low high. refl;
    })
    p.at c (record {
      class = going.made.of_class;
      view_is = view_after w s.classes s.phases f AtBegin left below event refl;
      noted = viewed_here w g notes2 p d pair (at_part w g p, c.0) is;
    })
    (λ ready dynamic is_open. let off : is_ready (s'.phase p) ≡ false = ap is_ready (put_same s.phases.phase p InBases) in absurd (cc (ready, off))) columns)))))
