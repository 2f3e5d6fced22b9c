-- What an execution of a program gives: its code and image, and the turns that made its text.
use Rattle.std.specs.Prelude.{◌≡◌, ℕ, Bool, Some, List}
use Rattle.cxx_subobject.specs.Parts.{most_subobjects}
use Rattle.cxx_hierarchy.specs.declared.stop.LimitNo.TheVariants.{L9}
use Rattle.byte_code.specs.declared.code.Code.{Code}
use Rattle.byte_code.specs.declared.code.ImageBytes.{ImageBytes}
use Rattle.byte_memory.specs.Store.{empty}
use Rattle.byte_machine.specs.Turn.{ByteState, start_state, fixed_of}
use Rattle.code_blocks.specs.Lowered.{IsLowered}
use Rattle.text_bytes.specs.RawTexts.{raw_texts, raw_outs_to_show}
use Rattle.code_ops.specs.Setups.{Setup, places}
use Rattle.abi_slots.specs.declared.code_numbers.CodeRow.{CodeRow}
use Rattle.text_told.specs.declared.ending.End.{End}
use Rattle.text_told.specs.declared.ending.End.TheVariants.{Limit}
use Rattle.abi_world.specs.Made.{HasImage}
use Rattle.abi_refine.specs.Endings.{turn_of}
use Rattle.abi_refine.specs.Reaches.{Lines, Executes}

-- the text of what a turn told, with the lines of a trace or without, read in the state that it left and in the image; a call names its function by the numbers of all code
abbrev pub text_of_turn : Setup → List CodeRow → ImageBytes → Bool → Lines
text_of_turn x numbers image trace b told = raw_texts x.h (places x) numbers image b.memory b.objects (raw_outs_to_show trace told)

-- the machine's code is that of the program, and its image has the tables of all classes; its turns, from before the first step over an empty memory, made the text and ended the run; and it has ended as the run did, unless its text passed the limit
pub record IsExecution (x : Setup) (steps : ℕ) (trace : Bool) (numbers : List CodeRow) (code : Code) (image : ImageBytes) (b : ByteState) (text : List ℕ) (end_is : End) : Type 0 where
  pub lowered : IsLowered x code numbers
  pub image_is : HasImage x.h (places x) numbers image
  pub executes : Executes (fixed_of image code most_subobjects) code (text_of_turn x numbers image trace) (start_state empty code steps) b text end_is
  pub ended : (end_is ≡ Limit L9 → ⊥) → b.answer ≡ Some (turn_of end_is)
