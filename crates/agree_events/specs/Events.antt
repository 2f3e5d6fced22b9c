-- An own event of the part on top, and what the ops of its block lead to.
use Rattle.std.specs.Prelude.{◌≡◌, ℕ, ◌+◌, ◌≤◌, Option, Some, List, ◌∷◌, ◌++◌, length, map}
use Rattle.cxx_hierarchy.specs.declared.records.ClassId.{ClassId}
use Rattle.cxx_subobject.specs.declared.Subobject.{Subobject}
use Rattle.path_plan.specs.Phases.{Phases}
use Rattle.path_plan.specs.Views.{Fits}
use Rattle.path_model.specs.declared.outs.Out.{Out}
use Rattle.path_model.specs.Values.{Objects}
use Rattle.byte_memory.specs.Store.{Store}
use Rattle.byte_code.specs.declared.op.Op.{Op}
use Rattle.byte_shadow.specs.Shadows.{Notes}
use Rattle.byte_machine.specs.declared.turn.RawOut.{RawOut}
use Rattle.byte_machine.specs.Frames.{MachineFrame, register_of}
use Rattle.byte_machine.specs.declared.turn.MachineTurn.TheVariants.{Went}
use Rattle.byte_machine.specs.Running.{Running, Stop, Answers}
use Rattle.byte_machine.specs.Leads.{OpsLead}
use Rattle.code_blocks.specs.Items.{Item, Does, event_of}
use Rattle.code_blocks.specs.declared.items.Kind.{Kind}
use Rattle.code_ops.specs.Setups.{Routine, PlanCode, body_of_routine, locals_in}
use Rattle.agree_parts.specs.Heaps.{Heap}
use Rattle.agree_parts.specs.Addresses.{address}
use Rattle.agree_relation.specs.Worlds.{World, world_classes, places_in, fixed}
use Rattle.agree_relation.specs.Words.{heap_of, start_in}
use Rattle.agree_relation.specs.Columns.{ColumnsStand}
use Rattle.agree_relation.specs.Goings.{Going, at_left, stack_in, ArePlanned}
use Rattle.agree_relation.specs.Frames.{PlaceNumbers, IsHandedBy}
use Rattle.agree_relation.specs.Agrees.{ReadAs}

-- an own event of the top frame f, which fits
pub record IsOwnEvent (w : World) (classes : List ClassId) (s : Phases) (f : Going) (k : Kind) (left : List Item) (below : List Going) : Type 0 where
  pub planned : ArePlanned w classes s (at_left f (Does k ∷ left) ∷ below)
  pub fits : Fits (world_classes w) s (event_of k f.part)

-- what has begun of its complete object besides f
abbrev pub stack_below : Going → List Going → List Subobject
stack_below f below = stack_in below f.part.object f.part.owner

-- the class of its complete object
abbrev pub complete_of : {w : World} {classes : List ClassId} {s : Phases} {f : Going} {k : Kind} {left : List Item} {below : List Going} → IsOwnEvent w classes s f k left below → ClassId
complete_of event = event.planned.going.0.complete

-- the frame that runs f: its `this`, and what it was handed
pub record RunsGoing (w : World) (g : Heap) (f : Going) (below : List Going) (d : ClassId) (top : MachineFrame) : Type 0 where
  pub size : length top.registers ≡ w.code.registers
  pub this : register_of top.registers 0 ≡ Some (address (world_classes w) (places_in w) g f.part)
  pub handed : IsHandedBy w g f.form f.class d f.part (stack_below f below) top.handed

-- registers of a plan that have `this` and its locals as before, and the spare one
pub record KeepsLow (w : World) (r : Routine) (registers registers' : List (Option ℕ)) : Type 0 where
  pub size : length registers' ≡ length registers
  pub low : (n : ℕ) → n ≤ locals_in (body_of_routine w.setup r) + 1 → register_of registers' n ≡ register_of registers n

-- what was told more
pub record HasToldMore (w : World) (at : PlaceNumbers) (g : Heap) (outs outs' : List RawOut) (told : List Out) : Type 0 where
  pub more : List RawOut
  pub is : outs' ≡ outs ++ more
  pub reads : ReadAs w at g more told

-- what ops run on, with other registers, memory and notes, and with more told
abbrev pub now : Running → List (Option ℕ) → Store → Notes → List RawOut → Running
now r registers memory notes outs = record r { memory = memory; notes = notes; top = record r.top { registers = registers }; outs = outs }

-- the columns stand for the objects after it, which lie where they lay
pub record IsAfter (w : World) (at : PlaceNumbers) (s' : Objects) (r : Running) (told : List Out) (memory : Store) (notes : Notes) (outs : List RawOut) : Type 0 where
  pub columns : ColumnsStand w s' memory r.objects r.heap notes
  pub starts : map start_in memory.regions ≡ map start_in r.memory.regions
  pub tells : HasToldMore w at (heap_of s'.classes r.memory.regions) r.outs outs told

-- what is left of the block leads on from whatever an event of f leads to
abbrev pub Rest : World → PlaceNumbers → Going → Objects → Running → List Out → List Op → (Running → Stop → Type 0) → Type 0
Rest w at f s' r told rest P = (registers : List (Option ℕ)) (memory : Store) (notes : Notes) (outs : List RawOut) → KeepsLow w (PlanCode f.course f.form f.class) r.top.registers registers → IsAfter w at s' r told memory notes outs → OpsLead (fixed w) rest (now r registers memory notes outs) P

-- an event of f has happened: only registers, memory, notes and what is told are others
pub record HasHappened (w : World) (at : PlaceNumbers) (f : Going) (s' : Objects) (r : Running) (told : List Out) (new : Running) (stop : Stop) : Type 0 where
  pub registers : List (Option ℕ)
  pub memory : Store
  pub notes : Notes
  pub outs : List RawOut
  pub is : new ≡ now r registers memory notes outs
  pub low : KeepsLow w (PlanCode f.course f.form f.class) r.top.registers registers
  pub then : IsAfter w at s' r told memory notes outs
  pub goes_on : stop ≡ Answers Went
