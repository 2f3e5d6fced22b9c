-- Behind a function that is left: the body that waits is on top, with its result if a variable takes it.
use Rattle.agree_calls.proofs.Waiting.{IsCalled}
use Rattle.agree_calls.proofs.Below.{caller_takes}
use Rattle.agree_calls.proofs.TakenResults.{HasPlace, variable_set}
use Rattle.code_ops.specs.Setups.{local_register}
use Rattle.agree_parts.specs.Heaps.{Heap}
use Rattle.agree_relation.specs.Agrees.{Agrees, ReadAs, StandsNow}
use Rattle.agree_relation.specs.Frames.{HasVariables, PlaceNumbers, StandOver}
use Rattle.agree_relation.specs.Stands.{StateStands}
use Rattle.agree_relation.specs.Words.{heap_of, register_word}
use Rattle.agree_relation.specs.Worlds.{World, world_classes}
use Rattle.agree_statements.proofs.Scenes.{values_count}
use Rattle.agree_statements.proofs.Taken.{variables_set}
use Rattle.agree_statements.specs.Registers.{body_on, frame_on}
use Rattle.agree_statements.specs.Statements.{BeginsBlock}
use Rattle.byte_machine.specs.Calls.{left_calls}
use Rattle.byte_machine.specs.Frames.{MachineFrame}
use Rattle.byte_machine.specs.Running.{Running}
use Rattle.byte_machine.specs.declared.turn.MachineTurn.TheVariants.{Went}
use Rattle.byte_machine.specs.declared.turn.RawOut.{RawOut}
use Rattle.cxx_hierarchy.specs.declared.records.ClassId.{ClassId}
use Rattle.cxx_hierarchy.specs.declared.records.ValueType.{ValueType}
use Rattle.cxx_overrider.specs.declared.FunctionId.{FunctionId}
use Rattle.cxx_program.specs.Typed.{scope_of, variable_type}
use Rattle.cxx_program.specs.declared.operand.Variable.{Variable}
use Rattle.cxx_program.specs.declared.operand.Variable.TheVariants.{Global, Local}
use Rattle.path_model.specs.Runs.{Moves, open_count}
use Rattle.path_model.specs.States.{Frame as PathFrame, InBody, RunningBody as Body, ProgramState, assigned, with_frames}
use Rattle.path_model.specs.TypedStates.{IsTypedState}
use Rattle.path_model.specs.Values.{Value}
use Rattle.std.proofs.Common.{◌≡◌, ℕ, ◌+◌, ◌<◌, Option, Some, None, List, [], ◌∷◌, ◌++◌, length, map, refl, ap, sym, subst, ◌∙◌, arith}
use Rattle.std.proofs.lemmas.List.{length-map, map-set}
use Rattle.std.proofs.lemmas.Option.{slice_get_within}
use Rattle.std.specs.Prelude.{slice_set}

module _ (w : World) (at : PlaceNumbers) (s : ProgramState) (f : Body) (below : List PathFrame) (b : Running) (typed : IsTypedState (world_classes w) w.setup.program s) (begins : BeginsBlock w at s b) (n : FunctionId) (k : IsCalled w at s f below b begins n) where
  abbrev g : Heap
  g = heap_of s.objects.classes b.memory.regions

  abbrev caller : Body
  caller = k.waits.caller

  abbrev under : MachineFrame
  under = k.waits.under

  -- the frame below on top, with other registers and globals
  abbrev pub left : List (Option ℕ) → List (Option ℕ) → Running
  left registers words = record b { top = frame_on k.waits.under registers k.waits.under.block; below = k.waits.rest; calls = left_calls b; globals = words }

  -- and the body that waits, with other locals and globals
  abbrev pub state_left : List Value → List Value → ProgramState
  state_left locals globals = record { objects = s.objects; globals = globals; frames = InBody (body_on k.waits.caller locals k.waits.caller.next) ∷ k.waits.further }

  left_stands : (locals globals : List Value) (registers words : List (Option ℕ)) → words ≡ map (register_word w (heap_of s.objects.classes b.memory.regions)) globals → HasVariables w (heap_of s.objects.classes b.memory.regions) (body_on k.waits.caller locals k.waits.caller.next) registers
      → StandsNow w at (state_left locals globals) (left registers words)
  left_stands locals globals registers words has variables =
      let stack : frame_on under registers under.block ∷ k.waits.rest ≡ b.opened ++ frame_on under registers under.block ∷ k.waits.rest = ap (λ (o : List MachineFrame). o ++ frame_on under registers under.block ∷ k.waits.rest) (sym begins.opened) in
      let over : StandOver w at g None (InBody (body_on caller locals caller.next) ∷ k.waits.further) begins.stands.frames.goings (frame_on under registers under.block ∷ k.waits.rest) = caller_takes w at g caller k.waits.further begins.stands.frames.goings under k.waits.rest locals registers k.waits.stands variables in
      let count : left_calls b ≡ open_count (InBody caller ∷ k.waits.further) = k.calls ∙ ap open_count k.waits.is in
      subst (λ (bs : List MachineFrame). StateStands w at (state_left locals globals) b.memory b.objects b.heap b.notes words bs (left_calls b)) stack
      (record { columns = begins.stands.columns; globals = has; frames = record { goings = begins.stands.frames.goings; planned = begins.stands.frames.planned; frames = over; calls = count } })

  left_agrees : (locals globals : List Value) (registers words : List (Option ℕ)) → words ≡ map (register_word w (heap_of s.objects.classes b.memory.regions)) globals → HasVariables w (heap_of s.objects.classes b.memory.regions) (body_on k.waits.caller locals k.waits.caller.next) registers
      → Agrees w at (Moves (state_left locals globals) []) (left registers words) Went
  left_agrees locals globals registers words has variables =
      (left_stands locals globals registers words has variables, subst (λ (o : List RawOut). ReadAs w at g o []) (sym begins.silent) tt, refl)

  -- no variable takes a result
  pub nothing_left : Agrees w at (Moves (with_frames s below) []) (record b { top = k.waits.under; below = k.waits.rest; calls = left_calls b }) Went
  nothing_left =
      subst (λ (fs : List PathFrame). Agrees w at (Moves (with_frames s fs) []) (record b { top = under; below = k.waits.rest; calls = left_calls b }) Went) (sym k.waits.is)
      (left_agrees caller.locals s.globals under.registers b.globals begins.stands.globals k.waits.variables)

  -- the frame below with any registers: what a result is given to
  abbrev pub given_to : List (Option ℕ) → Running
  given_to first = record b { top = record k.waits.under { registers = first }; below = k.waits.rest; calls = left_calls b }

  -- a variable takes a value
  pub variable_left : (variable : Variable) (t : ValueType ClassId) (v : Value) (first registers : List (Option ℕ)) → variable_type (scope_of (world_classes w) w.setup.program.globals k.waits.waiting) variable ≡ Some t → HasVariables w (heap_of s.objects.classes b.memory.regions) k.waits.caller registers
      → HasPlace (given_to first) registers variable × Agrees w at (Moves (assigned (with_frames s below) variable v) []) (variable_set (given_to first) registers variable (register_word w (heap_of s.objects.classes b.memory.regions) v)) Went
  variable_left (Global m) t v first registers there variables =
      let inside = slice_get_within w.setup.program.globals m t there in
      let known = values_count (world_classes w) s.objects.classes s.globals w.setup.program.globals typed.globals in
      let size : length b.globals ≡ length s.globals = ap length begins.stands.globals ∙ length-map s.globals (register_word w g) in
      let words : slice_set b.globals m (register_word w g v) ≡ map (register_word w g) (slice_set s.globals m v) = ap (λ (ws : List (Option ℕ)). slice_set ws m (register_word w g v)) begins.stands.globals ∙ sym (map-set (register_word w g) s.globals m v) in (
        omega (arith, inside, known, size),
        subst (λ (fs : List PathFrame). Agrees w at (Moves (assigned (with_frames s fs) (Global m) v) []) (variable_set (given_to first) registers (Global m) (register_word w g v)) Went) (sym k.waits.is)
            (left_agrees caller.locals (slice_set s.globals m v) registers (slice_set b.globals m (register_word w g v)) words variables),
      )
  variable_left (Local m) t v first registers there variables =
      let inside = slice_get_within k.waits.waiting.locals m t there in
      let count = k.waits.count in
      let room = k.waits.room in
      let before = k.waits.variables.size in
      let size = variables.size in
      let place : m + 1 < length registers = omega (arith, inside, room, before, size) in (
        place,
        subst (λ (fs : List PathFrame). Agrees w at (Moves (assigned (with_frames s fs) (Local m) v) []) (variable_set (given_to first) registers (Local m) (register_word w g v)) Went) (sym k.waits.is)
            (left_agrees (slice_set caller.locals m v) s.globals (slice_set registers (local_register m) (register_word w g v)) b.globals begins.stands.globals
            (variables_set w g caller b caller.locals caller.next caller.next m v registers variables (omega (arith, inside, count)) place)),
      )
