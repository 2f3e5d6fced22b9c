-- When a byte state stands for a state of the subobject machine.
use Rattle.std.specs.Prelude.{◌≡◌, ℕ, Option, None, List, map}
use Rattle.path_model.specs.States.{ProgramState}
use Rattle.path_model.specs.Runs.{open_count}
use Rattle.byte_machine.specs.Turn.{ByteState as Bytes}
use Rattle.byte_machine.specs.Frames.{MachineFrame}
use Rattle.byte_memory.specs.Store.{Store}
use Rattle.byte_machine.specs.declared.heap.Opened.{Opened}
use Rattle.byte_shadow.specs.Shadows.{Notes}
use Rattle.agree_relation.specs.Worlds.{World}
use Rattle.agree_relation.specs.Words.{heap_of, register_word}
use Rattle.agree_relation.specs.Columns.{ColumnsStand}
use Rattle.agree_relation.specs.Goings.{Going, ArePlanned}
use Rattle.agree_relation.specs.Frames.{PlaceNumbers, StandOver}

-- frames stand for those of a state, with the parts whose plans go on
pub record StackStandsFor (w : World) (at : PlaceNumbers) (s : ProgramState) (memory : Store) (stack : List MachineFrame) (open_calls : ℕ) : Type 0 where
  pub goings : List Going
  pub planned : ArePlanned w s.objects.classes s.objects.phases goings
  pub frames : StandOver w at (heap_of s.objects.classes memory.regions) None s.frames goings stack
  pub calls : open_calls ≡ open_count s.frames

-- memory, heap objects, notes, globals and frames stand for a state
pub record StateStands (w : World) (at : PlaceNumbers) (s : ProgramState) (memory : Store) (opened : List Opened) (heap : ℕ) (notes : Notes) (variables : List (Option ℕ)) (stack : List MachineFrame) (open_calls : ℕ) : Type 0 where
  pub columns : ColumnsStand w s.objects memory opened heap notes
  pub globals : variables ≡ map (register_word w (heap_of s.objects.classes memory.regions)) s.globals
  pub frames : StackStandsFor w at s memory stack open_calls

-- a byte state stands for a state of the program, and its run has not ended
pub record StandsForState (w : World) (at : PlaceNumbers) (s : ProgramState) (b : Bytes) : Type 0 where
  pub stands : StateStands w at s b.memory b.objects b.heap b.notes b.globals b.frames b.calls
  pub going : b.answer ≡ None
