-- What stands for a state behind a statement: the frame on top goes on.
use Rattle.std.proofs.Common.{◌≡◌, ℕ, Option, None, List, ◌∷◌, map, refl, ap, sym, ◌∙◌, subst}
use Rattle.path_model.specs.Values.{Value, Objects}
use Rattle.path_model.specs.States.{ProgramState, RunningBody as Body, Frame as PathFrame, InBody}
use Rattle.path_model.specs.Runs.{open_count}
use Rattle.byte_memory.specs.Store.{Store}
use Rattle.byte_machine.specs.Frames.{MachineFrame}
use Rattle.byte_machine.specs.Running.{Running}
use Rattle.code_blocks.specs.Blocks.{AtStatement}
use Rattle.agree_parts.specs.Heaps.{Heap}
use Rattle.agree_relation.specs.Worlds.{World}
use Rattle.agree_relation.specs.Words.{heap_of, register_word}
use Rattle.agree_relation.specs.Columns.{ColumnsStand}
use Rattle.agree_relation.specs.Goings.{Going, ArePlanned}
use Rattle.agree_relation.specs.Frames.{PlaceNumbers, HasVariables, StandOver}
use Rattle.agree_relation.specs.Stands.{StateStands}
use Rattle.agree_statements.specs.Registers.{body_on, frame_on}
use Rattle.agree_statements.specs.Statements.{BeginsBlock}
use Rattle.agree_statements.proofs.Tops.{IsOnTop, body_on_top}

-- the frames of a state with a body on top
pub record HasTop (w : World) (at : PlaceNumbers) (s : ProgramState) (f : Body) (below : List PathFrame) (b : Running) : Type 0 where
  pub begins : BeginsBlock w at s b
  pub goings : List Going
  pub planned : ArePlanned w s.objects.classes s.objects.phases goings
  pub on : IsOnTop w at (heap_of s.objects.classes b.memory.regions) f below goings (begins.top ∷ b.below)
  pub calls : b.calls ≡ open_count (InBody f ∷ below)

pub top_of : (w : World) (at : PlaceNumbers) (s : ProgramState) (f : Body) (below : List PathFrame) (b : Running) → s.frames ≡ InBody f ∷ below → BeginsBlock w at s b → HasTop w at s f below b
top_of w at s f below b frames begins =
    let a = begins.stands.frames in
    let over : StandOver w at (heap_of s.objects.classes b.memory.regions) None (InBody f ∷ below) a.goings (begins.top ∷ b.below) = subst (λ (fs : List PathFrame). StandOver w at (heap_of s.objects.classes b.memory.regions) None fs a.goings (begins.top ∷ b.below)) frames a.frames in
    record { begins = begins; goings = a.goings; planned = a.planned; on = body_on_top w at (heap_of s.objects.classes b.memory.regions) f below a.goings (begins.top ∷ b.below) over; calls = a.calls ∙ ap open_count frames }

-- other values of leaves, globals and locals, and where control goes on
abbrev pub state_on : ProgramState → Objects → List Value → Body → List PathFrame → ProgramState
state_on s objects globals f below = record { objects = objects; globals = globals; frames = InBody f ∷ below }

-- the same objects in the same phases
pub record AreSame (s objects : Objects) : Type 0 where
  pub classes : objects.classes ≡ s.classes
  pub phases : objects.phases ≡ s.phases

pub stands_after : (w : World) (at : PlaceNumbers) (s : ProgramState) (f : Body) (below : List PathFrame) (b : Running) → (a : HasTop w at s f below b) → (objects : Objects) (memory : Store) (globals : List Value) (words : List (Option ℕ)) (locals : List Value) (next : ℕ) (registers : List (Option ℕ)) →
    AreSame s.objects objects → memory.regions ≡ b.memory.regions → ColumnsStand w objects memory b.objects b.heap b.notes → words ≡ map (register_word w (heap_of s.objects.classes b.memory.regions)) globals → HasVariables w (heap_of s.objects.classes b.memory.regions) (body_on f locals next) registers →
    StateStands w at (state_on s objects globals (body_on f locals next) below) memory b.objects b.heap b.notes words (frame_on b.top registers (at (AtStatement a.on.routine next)) ∷ b.below) b.calls
stands_after w at s f below b a objects memory globals words locals next registers same regions columns has variables =
    let heap : heap_of s.objects.classes b.memory.regions ≡ heap_of objects.classes memory.regions = ap (λ c. heap_of c b.memory.regions) (sym same.classes) ∙ ap (λ r. heap_of objects.classes r) (sym regions) in
    let there : a.begins.top ∷ b.below ≡ a.on.frame ∷ a.on.rest = a.on.is in
    let first : a.on.frame ≡ a.begins.top = cc in
    let others : a.on.rest ≡ b.below = cc in
    let block : ℕ = at (AtStatement a.on.routine next) in
    let on : frame_on a.on.frame registers block ≡ frame_on b.top registers block = ap (λ (t : MachineFrame). frame_on t registers block) first ∙ sym (ap (λ (t : MachineFrame). frame_on t registers block) a.begins.stepped) in
    let stack : frame_on a.on.frame registers block ∷ a.on.rest ≡ frame_on b.top registers block ∷ b.below = ap (λ (t : MachineFrame). t ∷ a.on.rest) on ∙ ap (λ (bs : List MachineFrame). frame_on b.top registers block ∷ bs) others in
    let over = a.on.goes_on locals next registers (at (AtStatement a.on.routine next)) (record { variables = variables; block = refl }) in
    record {
      columns = columns;
      globals = has ∙ ap (λ g. map (register_word w g) globals) heap;
      frames = record {
        goings = a.goings;
        planned = subst (λ c. ArePlanned w c objects.phases a.goings) (sym same.classes) (subst (λ p. ArePlanned w s.objects.classes p a.goings) (sym same.phases) a.planned);
        frames = subst (λ (g : Heap). StandOver w at g None (InBody (body_on f locals next) ∷ below) a.goings (frame_on b.top registers block ∷ b.below)) heap (subst (λ (bs : List MachineFrame). StandOver w at (heap_of s.objects.classes b.memory.regions) None (InBody (body_on f locals next) ∷ below) a.goings bs) stack over);
        calls = a.calls;
      };
    }
