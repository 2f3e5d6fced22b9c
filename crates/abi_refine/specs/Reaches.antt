-- Many turns of the byte machine, and the text of what they told.
use Rattle.std.specs.Prelude.{◌<◌, ◌+◌, ℕ, List, [], ◌++◌, length}
use Rattle.byte_code.specs.declared.code.Code.{Code}
use Rattle.byte_machine.specs.declared.turn.MachineTurn.TheVariants.{Went}
use Rattle.byte_machine.specs.declared.turn.RawOut.{RawOut}
use Rattle.byte_machine.specs.Running.{Fixed}
use Rattle.byte_machine.specs.Turn.{ByteState, Turns}
use Rattle.text_told.specs.Told.{text_limit}
use Rattle.text_told.specs.declared.ending.End.{End}
use Rattle.text_told.specs.declared.ending.End.TheVariants.{Limit}
use Rattle.cxx_hierarchy.specs.declared.stop.LimitNo.TheVariants.{L9}
use Rattle.abi_refine.specs.Endings.{turn_of}

-- the text of what a turn told, read in the state that it left
abbrev pub Lines : Type 0
Lines = ByteState → List RawOut → List ℕ

-- turns lead from b to b', and what each of them tells has this text in order
pub data ReachesWith (f : Fixed) (code : Code) (lines : Lines) (b : ByteState) : ByteState → List ℕ → Type 0 where
  none : ReachesWith f code lines b b []
  further : (mid b' : ByteState) (text : List ℕ) (told : List RawOut) → ReachesWith f code lines b mid text → Turns f code mid [] b' told Went → ReachesWith f code lines b b' (text ++ lines b' told)

-- one turn more ends the run: by its answer, or since its lines pass the limit on the text
pub data EndsWith (f : Fixed) (code : Code) (lines : Lines) (mid : ByteState) (text : List ℕ) : ByteState → End → Type 0 where
  by_answer : (b' : ByteState) (told : List RawOut) (end_is : End) → Turns f code mid [] b' told (turn_of end_is) → EndsWith f code lines mid text b' end_is
  by_length : (b' : ByteState) (told : List RawOut) → Turns f code mid [] b' told Went → text_limit < length text + length (lines b' told) → EndsWith f code lines mid text b' (Limit L9)

-- turns lead from b to the end of a run in b', with this text
pub record Executes (f : Fixed) (code : Code) (lines : Lines) (b b' : ByteState) (text : List ℕ) (end_is : End) : Type 0 where
  pub mid : ByteState
  pub reaches : ReachesWith f code lines b mid text
  pub ends : EndsWith f code lines mid text b' end_is
