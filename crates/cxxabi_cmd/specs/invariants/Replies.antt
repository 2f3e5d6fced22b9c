-- What the parts of the top call answer.
use Rattle.std.specs.Prelude.{◌≡◌, ℕ, ◌<◌, ◌≤◌, Bool, Option, Some, None, List, length}
use Rattle.std.specs.Option.{option_map}
use Rattle.cxx_hierarchy.specs.Classes.{Classes}
use Rattle.cxx_syntax.specs.declared.tree.BodyTree.{BodyTree}
use Rattle.cxx_syntax.specs.declared.source_text.SourceText.{SourceText}
use Rattle.cxx_program.specs.declared.program.TypedProgram.{TypedProgram}
use Rattle.abi_sound.specs.declared.class_layout.ClassLayout.{ClassLayout}
use Rattle.cxxabi_cmd.specs.declared.reply.Reply.{Reply}
use Rattle.cxxabi_cmd.specs.declared.verdict.Accepted.{Accepted}
use Rattle.cxxabi_words.specs.declared.command.Command.{Command}
use Rattle.cxxabi_words.specs.declared.command.Command.TheVariants.{Foreign}
use Rattle.cxxabi_cmd.specs.Commands.{IsOnBytes, RunsMain}
use Rattle.cxxabi_cmd.specs.Divided.{IsLayoutOf}
use Rattle.cxxabi_cmd.specs.Output.{Answer, Yields}
use Rattle.cxxabi_cmd.specs.Handed.{SeenMachine, seen_machine, IsMachineOf}
use Rattle.foundation.specs.Limits.{source_limit}

-- what was read of a source is all of it, or passes the limit as the source does
pub record IsReadToLimit (read all : List ℕ) : Type 0 where
  pub whole : length read ≤ source_limit → read ≡ all
  pub more : source_limit < length read → source_limit < length all

abbrev pub as_answer : Reply → Answer
as_answer reply = record { text = reply.text.items; status = reply.status }

-- what is seen of the machine of a reply
abbrev pub machine_of : Reply → Option SeenMachine
machine_of reply = option_map (λ m. seen_machine m) reply.machine

-- the machine of the run of a source's program
pub record IsRunBy (command : Command) (front : List ℕ) (source : SourceText) (h : Classes) (program : TypedProgram) (machine : SeenMachine) : Type 0 where
  pub trace : Bool
  pub steps : ℕ
  pub runs : RunsMain command steps trace
  pub on_bytes : IsOnBytes command
  pub tree : BodyTree
  pub main : source.main ≡ Some tree
  pub rows : List ClassLayout
  pub laid : IsLayoutOf command front h rows
  pub is_machine : IsMachineOf h rows program trace steps machine

-- the machine of the run that a command makes, or none where it makes none
abbrev pub HandsBy : Command → List ℕ → SourceText → Classes → TypedProgram → Option SeenMachine → Type 0
HandsBy command front source h program None = (trace : Bool) (steps : ℕ) (tree : BodyTree) (rows : List ClassLayout) → RunsMain command steps trace → IsOnBytes command → source.main ≡ Some tree → IsLayoutOf command front h rows → ⊥
HandsBy command front source h program (Some machine) = IsRunBy command front source h program machine

-- the reply is one that `foreign` gives to this listing and an accepted source
abbrev pub YieldsForeign : Accepted → List ℕ → (size steps : ℕ) → Reply → Type 0
YieldsForeign accepted listing size steps reply = Yields listing size accepted.source accepted.hierarchy accepted.program (Foreign steps) (as_answer reply)
