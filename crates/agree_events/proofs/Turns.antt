-- An own event of a plan, of whatever kind: its ops lead to the columns of the objects after it, and to what it tells.
use Rattle.std.proofs.Common.{◌≡◌, false, List, [], refl}
use Rattle.path_model.specs.Values.{Objects}
use Rattle.path_model.specs.Steps.{objects_after, event_outs}
use Rattle.byte_code.specs.declared.op.Op.{Op}
use Rattle.byte_machine.specs.Running.{Running, Stop}
use Rattle.byte_machine.specs.Leads.{OpsLead}
use Rattle.byte_machine.proofs.Leads.{leads_end}
use Rattle.code_blocks.specs.Blocks.{event_then}
use Rattle.code_blocks.specs.Items.{Item, event_of}
use Rattle.code_blocks.specs.declared.items.Kind.{Kind}
use Rattle.code_blocks.specs.declared.items.Kind.TheVariants.{AtBegin, AtReady, AtInit, AtBody, AtDone, AtEnding, AtBases, AtEnd}
use Rattle.agree_relation.specs.Worlds.{World, IsProgramWorld, fixed}
use Rattle.agree_relation.specs.Words.{heap_of}
use Rattle.agree_relation.specs.Columns.{ColumnsStand}
use Rattle.agree_relation.specs.Goings.{Going}
use Rattle.agree_relation.specs.Frames.{PlaceNumbers}
use Rattle.agree_events.specs.Events.{IsOwnEvent, HasHappened, Rest, RunsGoing, complete_of, now}
use Rattle.agree_events.proofs.Begins.{body_runs, bases_runs, begin_runs}
use Rattle.agree_events.proofs.Leaves.{done_runs}
use Rattle.agree_events.proofs.Ends.{end_runs}
use Rattle.agree_events.proofs.Readies.{ready_runs, ending_runs}
use Rattle.agree_events.proofs.Inits.{init_runs}

pub event_runs : (w : World) (at : PlaceNumbers) → IsProgramWorld w → (s : Objects) (f : Going) (k : Kind) (left : List Item) (below : List Going) → (event : IsOwnEvent w s.classes s.phases f k left below) → (r : Running) (rest : List Op) (P : Running → Stop → Type 0) → s.is_closed f.part.object ≡ false
    → RunsGoing w (heap_of s.classes r.memory.regions) f below (complete_of event) r.top → ColumnsStand w s r.memory r.objects r.heap r.notes
    → Rest w at f (objects_after w.setup.program s (event_of k f.part)) r (event_outs s (event_of k f.part)) rest P → OpsLead (fixed w) (event_then w.setup f.course f.form f.class k rest) r P
event_runs w at world s f AtBegin left below event r rest P is_open runs columns go = begin_runs w at world s f left below event r rest P runs columns go
event_runs w at world s f AtReady left below event r rest P is_open runs columns go = ready_runs w at world s f left below event r rest P is_open runs columns go
event_runs w at world s f (AtInit m) left below event r rest P is_open runs columns go = init_runs w at world s f m left below event r rest P is_open runs columns go
event_runs w at world s f AtBody left below event r rest P is_open runs columns go = body_runs w at s f r rest P columns go
event_runs w at world s f AtDone left below event r rest P is_open runs columns go = done_runs w at world s f left below event r rest P runs columns go
event_runs w at world s f AtEnding left below event r rest P is_open runs columns go = ending_runs w at world s f left below event r rest P is_open runs columns go
event_runs w at world s f AtBases left below event r rest P is_open runs columns go = bases_runs w at world s f left below event r rest P runs columns go
event_runs w at world s f AtEnd left below event r rest P is_open runs columns go = end_runs w at world s f left below event r rest P is_open runs columns go

-- with nothing behind its ops
pub event_happens : (w : World) (at : PlaceNumbers) → IsProgramWorld w → (s : Objects) (f : Going) (k : Kind) (left : List Item) (below : List Going) → (event : IsOwnEvent w s.classes s.phases f k left below) → (r : Running) → s.is_closed f.part.object ≡ false
    → RunsGoing w (heap_of s.classes r.memory.regions) f below (complete_of event) r.top → ColumnsStand w s r.memory r.objects r.heap r.notes
    → OpsLead (fixed w) (event_then w.setup f.course f.form f.class k []) r (HasHappened w at f (objects_after w.setup.program s (event_of k f.part)) r (event_outs s (event_of k f.part)))
event_happens w at world s f k left below event r is_open runs columns = event_runs w at world s f k left below event r [] (HasHappened w at f (objects_after w.setup.program s (event_of k f.part)) r (event_outs s (event_of k f.part))) is_open runs columns
    (λ registers memory notes outs low then. leads_end (fixed w) {s = now r registers memory notes outs} (record { registers = registers; memory = memory; notes = notes; outs = outs; is = refl; low = low; then = then; goes_on = refl }))
