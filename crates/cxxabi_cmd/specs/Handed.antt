-- Which machine is handed out after a run.
use Rattle.std.specs.Prelude.{◌≡◌, ℕ, ◌≤◌, Bool, Option, Some, None, List, length}
use Rattle.byte_memory.specs.declared.memory.Memory.{Ghosts}
use Rattle.byte_code.specs.declared.code.Code.{Code}
use Rattle.byte_code.specs.declared.code.ImageBytes.{ImageBytes}
use Rattle.byte_machine.specs.declared.machine.Machine.{Machine}
use Rattle.byte_machine.specs.MachineState.{machine_code, machine_image, state_of}
use Rattle.byte_machine.specs.Turn.{ByteState}
use Rattle.cxx_hierarchy.specs.Classes.{Classes}
use Rattle.cxx_syntax.specs.declared.tree.BodyTree.{BodyTree}
use Rattle.cxx_syntax.specs.declared.source_text.SourceText.{SourceText}
use Rattle.cxx_program.specs.declared.program.TypedProgram.{TypedProgram}
use Rattle.abi_sound.specs.declared.class_layout.ClassLayout.{ClassLayout}
use Rattle.abi_sound.specs.Places.{places_of}
use Rattle.abi_slots.specs.declared.code_numbers.CodeRow.{CodeRow}
use Rattle.code_ops.specs.Setups.{setup}
use Rattle.text_told.specs.declared.ending.End.{End}
use Rattle.text_told.specs.Told.{told, told_ending}
use Rattle.abi_refine.specs.Executions.{IsExecution}
use Rattle.cxxabi_words.specs.declared.command.Command.{Command}
use Rattle.cxxabi_words.specs.Commands.{Says}
use Rattle.cxxabi_cmd.specs.Commands.{IsOnBytes, RunsMain, input_of, divided_input}
use Rattle.cxxabi_cmd.specs.Divided.{IsLayoutOf}
use Rattle.cxxabi_cmd.specs.Verdict.{Verdict, Accepts}
use Rattle.foundation.specs.Limits.{source_limit}

-- what is seen of a machine: what it was made with, and the byte state that it is in
pub record SeenMachine : Type 0 where
  pub code : Code
  pub image : ImageBytes
  pub state : ByteState

abbrev pub seen_machine : {M : Type 0} {memory : Ghosts M} → Machine M memory → SeenMachine
seen_machine machine = record { code = machine_code machine; image = machine_image machine; state = state_of machine }

-- the machine of the run of a program: its code, with these numbers of functions, is that of the program, and its image has the tables of
-- the classes; turns over them lead from an empty memory to its state, told the text of the run, and ended as the run did, unless the text
-- passed its limit
pub record IsMachineOf (h : Classes) (rows : List ClassLayout) (program : TypedProgram) (trace : Bool) (steps : ℕ) (machine : SeenMachine) : Type 0 where
  pub numbers : List CodeRow
  pub end_is : End
  pub ending : told_ending end_is ≡ (told h (places_of h rows) program trace steps).ending
  pub executed : IsExecution (setup h rows program) steps trace numbers machine.code machine.image machine.state (told h (places_of h rows) program trace steps).text end_is

-- the source in the input is accepted with this program, has a `main`, and is run over the layout that the command treats
pub record RunsSource (command : Command) (input : List ℕ) (h : Classes) (rows : List ClassLayout) (program : TypedProgram) : Type 0 where
  pub front : List ℕ
  pub text : List ℕ
  pub parts : divided_input command input ≡ Some (front, text)
  pub source : SourceText
  pub accepted : Verdict text (Accepts source h program)
  pub tree : BodyTree
  pub main : source.main ≡ Some tree
  pub laid : IsLayoutOf command front h rows

-- the words ask for a run on the byte machine, and there is one
pub record HasRun (words : List (List ℕ)) (bytes : List ℕ) (h : Classes) (rows : List ClassLayout) (program : TypedProgram) (trace : Bool) (steps : ℕ) : Type 0 where
  pub command : Command
  pub asked : Says words command
  pub runs : RunsMain command steps trace
  pub on_bytes : IsOnBytes command
  pub short : length (input_of command bytes) ≤ source_limit
  pub is_run : RunsSource command (input_of command bytes) h rows program

-- it is the machine of that run
pub record IsHandedOver (words : List (List ℕ)) (bytes : List ℕ) (machine : SeenMachine) : Type 0 where
  pub h : Classes
  pub rows : List ClassLayout
  pub program : TypedProgram
  pub trace : Bool
  pub steps : ℕ
  pub has_run : HasRun words bytes h rows program trace steps
  pub is_machine : IsMachineOf h rows program trace steps machine

-- the machine of the run, or none where there is no run
abbrev pub HandsOut : List (List ℕ) → List ℕ → Option SeenMachine → Type 0
HandsOut words bytes None = (h : Classes) (rows : List ClassLayout) (program : TypedProgram) (trace : Bool) (steps : ℕ) → HasRun words bytes h rows program trace steps → ⊥
HandsOut words bytes (Some machine) = IsHandedOver words bytes machine
