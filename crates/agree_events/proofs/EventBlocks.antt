-- The block of an own event of a plan: the event, and then the parts that it opens, or the end of the part's plan.
use Rattle.std.proofs.Common.{◌≡◌, ℕ, false, Option, List, [], ◌∷◌, ◌++◌}
use Rattle.path_model.specs.Values.{Objects}
use Rattle.path_model.specs.States.{Planned, Frame as PathFrame}
use Rattle.path_model.specs.Steps.{objects_after, event_outs}
use Rattle.code_blocks.specs.Blocks.{plan_tail, event_block}
use Rattle.code_blocks.specs.Items.{Item, event_of}
use Rattle.code_blocks.specs.declared.items.Kind.{Kind}
use Rattle.byte_memory.specs.Store.{Store}
use Rattle.byte_shadow.specs.Shadows.{Notes}
use Rattle.byte_machine.specs.declared.turn.RawOut.{RawOut}
use Rattle.byte_machine.specs.declared.turn.MachineTurn.{MachineTurn}
use Rattle.byte_machine.specs.declared.turn.MachineTurn.TheVariants.{Went}
use Rattle.byte_machine.specs.Frames.{MachineFrame}
use Rattle.byte_machine.specs.Running.{Running}
use Rattle.byte_machine.specs.Leads.{LeadsBlock, HoldsOfAnswer}
use Rattle.agree_parts.specs.Heaps.{Heap}
use Rattle.agree_relation.specs.Worlds.{World, IsProgramWorld, fixed}
use Rattle.agree_relation.specs.Words.{heap_of}
use Rattle.agree_relation.specs.Columns.{ColumnsStand}
use Rattle.agree_relation.specs.Goings.{Going, at_left, opened_goings, stops}
use Rattle.agree_relation.specs.Frames.{PlaceNumbers, WaitInPlan}
use Rattle.agree_relation.proofs.Objects.{objects_laid}
use Rattle.agree_events.specs.Events.{IsOwnEvent, IsAfter, now}
use Rattle.agree_events.specs.Turns.{IsTopFrame, ReturnsFromPlan}
use Rattle.agree_events.proofs.Left.{opens_bases}
use Rattle.agree_events.proofs.Opened.{Holding}
use Rattle.agree_events.proofs.Planned.{at_next}
use Rattle.agree_events.proofs.Tops.{top_moves}
use Rattle.agree_events.proofs.Tails.{frame_runs, leads_tail}
use Rattle.agree_events.proofs.Turns.{event_runs}

-- what a block of a plan goes on to: frames that wait for the parts that are opened
abbrev pub GoesOn : World → PlaceNumbers → Heap → Planned → List PathFrame → (List Going → List MachineFrame → Type 0) → List Going → Running → (Running → MachineTurn → Type 0) → Type 0
GoesOn w at g p path under gs r Q = (above : List MachineFrame) (b : MachineFrame) (bs : List MachineFrame) → WaitInPlan w at g p path gs (above ++ b ∷ bs) under → Q (record r { opened = above; top = b; below = bs }) Went

pub leads_event : (w : World) (at : PlaceNumbers) → IsProgramWorld w → (p : Planned) (path : List PathFrame) (under : List Going → List MachineFrame → Type 0) (Q : Running → MachineTurn → Type 0) (s : Objects) (f : Going) (k : Kind) (left : List Item) (below : List Going) → IsOwnEvent w s.classes s.phases f k left below → (r : Running)
    → r.opened ≡ [] → s.is_closed f.part.object ≡ false → ColumnsStand w s r.memory r.objects r.heap r.notes → IsTopFrame w at (heap_of s.classes r.memory.regions) p path under (at_left f left) below r.top r.below
    → ((registers : List (Option ℕ)) (memory : Store) (notes : Notes) (outs : List RawOut) → IsAfter w at (objects_after w.setup.program s (event_of k f.part)) r (event_outs s (event_of k f.part)) memory notes outs
    → GoesOn w at (heap_of s.classes r.memory.regions) p path under (opened_goings w f left below) (now r registers memory notes outs) Q × ReturnsFromPlan w at (heap_of s.classes r.memory.regions) p path under f left below (now r registers memory notes outs) Q)
    → LeadsBlock (fixed w) (event_block w.setup at f.course f.form f.class k left) r Q
leads_event w at world p path under Q s f k left below event r none is_open columns top go =
    let g = heap_of s.classes r.memory.regions in
    let laid = objects_laid w s r.memory.regions r.objects r.heap world columns.objects in
    let going = event.planned.going in
    let holds : Holding w s.classes f below = record { made = going.0.made; complete = going.0.complete; whole = going.0.whole; course = going.0.course; deep = going.0.deep; stands = going.0.stands } in
    let behind = (at_next w world.hierarchy s.classes f k left below going.0).behind in
    event_runs w at world s f k left below event r (plan_tail w.setup at f.course f.form f.class left) (HoldsOfAnswer (fixed w) Q) is_open (frame_runs w at g f left below r.top holds top.frame) columns
    (λ registers memory notes outs low then.
    let next = go registers memory notes outs then in
    leads_tail w at world g laid p path under Q f below (now r registers memory notes outs) none holds going.1 left (stops k) (opens_bases k) behind
    (top_moves w at g p path under (at_left f left) left below r.top r.below registers r.top.block (λ e. e) low top) next.0 next.1)
