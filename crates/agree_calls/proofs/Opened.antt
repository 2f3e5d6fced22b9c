-- A state in which a function was called stands; and limit 10 is that of the machine.
use Rattle.std.proofs.Common.{◌≡◌, ℕ, ◌+◌, ◌<◌, ◌≤◌, Bool, Option, Some, None, List, ◌∷◌, length, map, ap, sym, subst, ◌∙◌, if◌then◌else◌}
use Rattle.agree_calls.proofs.Entered.{callee_counts, callee_stands}
use Rattle.code_blocks.specs.Blocks.{AtStatement}
use Rattle.code_ops.specs.Setups.{FunctionCode}
use Rattle.agree_parts.specs.Addresses.{address}
use Rattle.agree_relation.specs.Frames.{KeepsCall, PlaceNumbers, body_below}
use Rattle.agree_relation.specs.Stands.{StateStands}
use Rattle.agree_relation.specs.Words.{heap_of, register_word}
use Rattle.agree_relation.specs.Worlds.{World, world_classes, fixed, places_in}
use Rattle.byte_machine.proofs.Leads.{not_within, within}
use Rattle.byte_machine.specs.Calls.{frame_at, most_calls}
use Rattle.byte_machine.specs.Frames.{MachineFrame, Kept}
use Rattle.byte_machine.specs.declared.heap.Opened.{Opened}
use Rattle.byte_memory.specs.Store.{Store}
use Rattle.byte_shadow.specs.Shadows.{Notes}
use Rattle.cxx_hierarchy.specs.declared.stop.LimitNo.TheVariants.{L10}
use Rattle.cxx_overrider.specs.declared.FunctionId.{FunctionId}
use Rattle.cxx_program.specs.declared.operand.Conversion.{Conversion}
use Rattle.cxx_program.specs.declared.program.Owner.TheVariants.{Function}
use Rattle.cxx_program.specs.declared.program.TypedBody.{TypedBody}
use Rattle.cxx_subobject.specs.Locations.{ObjectPart}
use Rattle.path_model.specs.Runs.{call_limit, most_open, open_count}
use Rattle.path_model.specs.States.{InBody, ProgramState, Target, entered_body as path_entered, with_frames}
use Rattle.path_model.specs.Values.{Pointer, Value}

-- one more would be open than may be
pub limit_full : (s : ProgramState) (calls : ℕ) → calls ≡ open_count s.frames → most_calls ≤ calls → call_limit s ≡ Some L10
limit_full s calls counted full = ap (λ (x : Bool). if x then Some L10 else None) (within most_open (open_count s.frames) (subst (λ (n : ℕ). 4096 ≤ n) counted full))

pub limit_room : (s : ProgramState) (calls : ℕ) → calls ≡ open_count s.frames → calls < most_calls → call_limit s ≡ None
limit_room s calls counted room = ap (λ (x : Bool). if x then Some L10 else None) (not_within most_open (open_count s.frames) (subst (λ (n : ℕ). n < 4096) counted room))

-- the frame of the function on top of those of a state that stands
pub called_stands : (w : World) (at : PlaceNumbers) (s : ProgramState) (memory : Store) (objects : List Opened) (heap : ℕ) (notes : Notes) (globals : List (Option ℕ)) (stack : List MachineFrame) (calls : ℕ) (n : FunctionId) (body : TypedBody) (p : ObjectPart) (values : List Value) (words : List (Option ℕ)) (found : Conversion) (target : Option Target) (kept : Kept) →
    StateStands w at s memory objects heap notes globals stack calls → body.owner ≡ Function n → words ≡ map (register_word w (heap_of s.objects.classes memory.regions)) values → length values < w.code.registers
    → KeepsCall w (path_entered body (Pointer p) values found target) (body_below w s.frames) kept
    → StateStands w at (with_frames s (InBody (path_entered body (Pointer p) values found target) ∷ s.frames)) memory objects heap notes globals
    (frame_at (fixed w) (at (AtStatement (FunctionCode n) 0)) (address (world_classes w) (places_in w) (heap_of s.objects.classes memory.regions) p) words kept ∷ stack) (calls + 1)
called_stands w at s memory objects heap notes globals stack calls n body p values words found target kept a owned are few keeps = record {
  columns = a.columns;
  globals = a.globals;
  frames = record {
    goings = a.frames.goings;
    planned = a.frames.planned;
    frames = callee_stands w at (heap_of s.objects.classes memory.regions) n body p values words found target kept s.frames a.frames.goings stack owned are few keeps a.frames.frames;
    calls = ap (λ (n : ℕ). n + 1) a.frames.calls ∙ sym (callee_counts w at (heap_of s.objects.classes memory.regions) body n p values found target s.frames owned);
  };
}
