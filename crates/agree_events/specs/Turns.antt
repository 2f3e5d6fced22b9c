-- Turns of plans: the frame on top of a plan, and the block that it runs next.
use Rattle.std.specs.Prelude.{◌≡◌, ◌⊎◌, ℕ, false, Option, None, List, [], ◌∷◌, ◌++◌, map}
use Rattle.path_plan.specs.Views.{Fits}
use Rattle.path_model.specs.declared.outs.Out.{Out}
use Rattle.path_model.specs.States.{ProgramState, RunningBody as PathRunning, Planned, Frame as PathFrame, InPlan, with_objects}
use Rattle.path_model.specs.Effects.{Goes}
use Rattle.path_model.specs.Steps.{objects_after, event_outs, resumed}
use Rattle.path_model.specs.Runs.{Moves, open_count}
use Rattle.code_blocks.specs.Blocks.{AtStatement, AtEvent, plan_return, event_block}
use Rattle.code_blocks.specs.Items.{Item, Does, event_of}
use Rattle.code_blocks.specs.Lowered.{IsEnd}
use Rattle.code_blocks.specs.declared.items.Kind.{Kind}
use Rattle.code_blocks.specs.declared.items.Kind.TheVariants.{AtBody}
use Rattle.code_ops.specs.Routines.{IsCourse}
use Rattle.code_ops.specs.Setups.{PlanCode, plan_owner}
use Rattle.byte_memory.specs.Store.{Store}
use Rattle.byte_shadow.specs.Shadows.{Notes}
use Rattle.byte_machine.specs.declared.turn.RawOut.{RawOut}
use Rattle.byte_machine.specs.declared.turn.MachineTurn.{MachineTurn}
use Rattle.byte_machine.specs.Frames.{MachineFrame}
use Rattle.byte_machine.specs.Running.{Running}
use Rattle.byte_machine.specs.Leads.{OpsLead, LeadsBlock, HoldsOfAnswer}
use Rattle.agree_parts.specs.Heaps.{Heap}
use Rattle.agree_relation.specs.Worlds.{World, world_classes, fixed}
use Rattle.agree_relation.specs.Words.{heap_of, register_word}
use Rattle.agree_relation.specs.Columns.{ColumnsStand}
use Rattle.agree_relation.specs.Goings.{Going, at_left, opened_goings, builds, AreOf, ArePlanned, events_left}
use Rattle.agree_relation.specs.Frames.{PlaceNumbers, IsPlanFrame, AreElements, IsInner, IsOuter, WaitInPlan, Behind, StandOver}
use Rattle.agree_relation.specs.Agrees.{Agrees}
use Rattle.agree_statements.specs.Statements.{BeginsBlock}
use Rattle.agree_events.specs.Events.{IsAfter, now}

-- the frame that runs f, over the parts below: the elements behind f, and the frames below
pub record IsTopFrame (w : World) (at : PlaceNumbers) (g : Heap) (p : Planned) (path : List PathFrame) (under : List Going → List MachineFrame → Type 0) (f : Going) (below : List Going) (b : MachineFrame) (bs : List MachineFrame) : Type 0 where
  pub more : List Going
  pub rest : List Going
  pub is : below ≡ more ++ rest
  pub frame : IsPlanFrame w at g f below b
  pub again : AreElements w g f b.again b.stride more
  pub kind : (IsInner b × WaitInPlan w at g p path rest bs under) ⊎ (IsOuter w g p f path b × under rest bs)

-- and where it is the last of a heap object: the return to who waits for the object
abbrev pub ReturnsFromPlan : World → PlaceNumbers → Heap → Planned → List PathFrame → (List Going → List MachineFrame → Type 0) → Going → List Item → List Going → Running → (Running → MachineTurn → Type 0) → Type 0
ReturnsFromPlan w at g p path under f left below r Q = left ≡ [] → IsPlanFrame w at g (at_left f left) below r.top → IsOuter w g p (at_left f left) path r.top → under below r.below → OpsLead (fixed w) (plan_return f.course ∷ []) r (HoldsOfAnswer (fixed w) Q)

-- a turn of a plan: f is on top, at its event k; others are the other parts of the plan, and lower those of the plans below
pub record IsTurn (w : World) (at : PlaceNumbers) (s : ProgramState) (p : Planned) (path : List PathFrame) (f : Going) (k : Kind) (left : List Item) (others lower : List Going) (r : Running) : Type 0 where
  pub planned : ArePlanned w s.objects.classes s.objects.phases (at_left f (Does k ∷ left) ∷ (others ++ lower))
  pub fits : Fits (world_classes w) s.objects.phases (event_of k f.part)
  pub is_open : s.objects.is_closed f.part.object ≡ false
  pub columns : ColumnsStand w s.objects r.memory r.objects r.heap r.notes
  pub globals : r.globals ≡ map (register_word w (heap_of s.objects.classes r.memory.regions)) s.globals
  pub calls : r.calls ≡ open_count (InPlan p ∷ path)
  pub opened : r.opened ≡ []
  pub outs : r.outs ≡ []
  pub course : builds f.course ≡ p.is_building
  pub courses : AreOf p.is_building others
  pub top : IsTopFrame w at (heap_of s.objects.classes r.memory.regions) p path (Behind lower (StandOver w at (heap_of s.objects.classes r.memory.regions) None path)) (at_left f left) (others ++ lower) r.top r.below

-- the block of its event agrees with the step, but for the return to who waits for a heap object
pub record IsPlanTurn (w : World) (at : PlaceNumbers) (s : ProgramState) (p : Planned) (path : List PathFrame) (f : Going) (k : Kind) (left : List Item) (others lower : List Going) (r : Running) (s' : ProgramState) (told : List Out) : Type 0 where
  pub turn : IsTurn w at s p path f k left others lower r
  pub next : resumed w.setup.program (with_objects s (objects_after w.setup.program s.objects (event_of k f.part))) p path (event_outs s.objects (event_of k f.part)) (events_left w (opened_goings w f left others)) ≡ Goes s' told
  pub leads : ((registers : List (Option ℕ)) (memory : Store) (notes : Notes) (outs : List RawOut) → IsAfter w at (objects_after w.setup.program s.objects (event_of k f.part)) r (event_outs s.objects (event_of k f.part)) memory notes outs
      → ReturnsFromPlan w at (heap_of s.objects.classes r.memory.regions) p path (Behind lower (StandOver w at (heap_of s.objects.classes r.memory.regions) None path)) f left (others ++ lower) (now r registers memory notes outs) (Agrees w at (Moves s' told)))
      → LeadsBlock (fixed w) (event_block w.setup at f.course f.form f.class k left) r (Agrees w at (Moves s' told))

-- a plan on top of a state, at the block of the event that is next
pub record IsPlanBlock (w : World) (at : PlaceNumbers) (s : ProgramState) (p : Planned) (path : List PathFrame) (r : Running) (begins : BeginsBlock w at s r) (s' : ProgramState) (told : List Out) : Type 0 where
  pub f : Going
  pub k : Kind
  pub left : List Item
  pub others : List Going
  pub lower : List Going
  pub block : begins.top.block ≡ at (AtEvent f.course f.form f.class (Does k ∷ left))
  pub course : IsCourse f.course f.form
  pub ends : IsEnd w.setup f.course f.form f.class (Does k ∷ left)
  pub events : p.events ≡ event_of k f.part ∷ events_left w (opened_goings w f left others)
  pub turn : IsPlanTurn w at s p path f k left others lower r s' told

-- a body of a plan on top of a state: f is the part whose body runs, and left what is left behind the body
pub record InPlanBody (w : World) (at : PlaceNumbers) (s : ProgramState) (fb : PathRunning) (p : Planned) (path : List PathFrame) (r : Running) (begins : BeginsBlock w at s r) : Type 0 where
  pub f : Going
  pub left : List Item
  pub others : List Going
  pub lower : List Going
  pub owner : fb.owner ≡ plan_owner f.course f.class
  pub block : begins.top.block ≡ at (AtStatement (PlanCode f.course f.form f.class) fb.next)
  pub planned : ArePlanned w s.objects.classes s.objects.phases (at_left f (Does AtBody ∷ left) ∷ (others ++ lower))
  pub events : p.events ≡ events_left w (opened_goings w f left others)
  pub course : builds f.course ≡ p.is_building
  pub courses : AreOf p.is_building others
  pub top : IsTopFrame w at (heap_of s.objects.classes r.memory.regions) p path (Behind lower (StandOver w at (heap_of s.objects.classes r.memory.regions) None path)) (at_left f []) (others ++ lower) r.top r.below
