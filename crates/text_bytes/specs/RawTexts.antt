-- The text of what a byte machine tells, by its own memory and heap objects.
use Rattle.std.specs.Prelude.{ℕ, ◌<◌, Bool, true, false, not, nat_eq, ◌&&◌, if◌then◌else◌, Option, Some, None, List, [], ◌∷◌, ◌++◌, codes, filter, length}
use Rattle.std.specs.List.{flat_map}
use Rattle.std.specs.Fmt.{signed_decimal}
use Rattle.cxx_hierarchy.specs.Classes.{Classes}
use Rattle.cxx_overrider.specs.declared.FunctionId.{FunctionId}
use Rattle.abi_sound.specs.Places.{Places}
use Rattle.abi_slots.specs.declared.code_numbers.BlockKind.TheVariants.{Plain}
use Rattle.abi_slots.specs.declared.code_numbers.CodeRow.{CodeRow}
use Rattle.abi_slots.specs.CodeRows.{kind_number}
use Rattle.byte_memory.specs.Store.{Store}
use Rattle.byte_code.specs.declared.code.ImageBytes.{ImageBytes}
use Rattle.byte_machine.specs.declared.heap.Opened.{Opened}
use Rattle.byte_machine.specs.declared.turn.RawOut.{RawOut}
use Rattle.byte_machine.specs.declared.turn.RawOut.TheVariants.{Number, Address, Class, Dump, Call, Built, Ending}
use Rattle.byte_machine.specs.Heap.{object_at}
use Rattle.abi_print.specs.LayoutTexts.{declared_class_name}
use Rattle.abi_print.specs.TableTexts.{function_text}
use Rattle.text_bytes.specs.RawDumps.{address_text, raw_dump}

-- the code of a plain function begins at a block
abbrev pub code_begins_at : ℕ → CodeRow → Bool
code_begins_at block row = nat_eq row.code block && nat_eq (kind_number row.kind) (kind_number Plain)

-- the function whose code begins at a block
abbrev pub function_at_block : List CodeRow → ℕ → Option FunctionId
function_at_block [] block = None
function_at_block (row ∷ rows) block = if code_begins_at block row then Some row.function else function_at_block rows block

abbrev pub function_name_text : Classes → Option FunctionId → List ℕ
function_name_text h None = []
function_name_text h (Some f) = function_text h f

-- what is told, without the line feed at its end; `rows` are the numbers of all code, by which a call names its function
abbrev pub raw_line : Classes → Places → List CodeRow → ImageBytes → Store → List Opened → RawOut → List ℕ
raw_line h l rows image memory objects (Number z) = signed_decimal z
raw_line h l rows image memory objects (Address at) = address_text objects at
raw_line h l rows image memory objects (Class c) = declared_class_name h (record { 0 = c })
raw_line h l rows image memory objects (Dump at) = raw_dump h l image memory objects at
raw_line h l rows image memory objects (Call block this) = codes "call " ++ function_name_text h (function_at_block rows block) ++ codes " " ++ address_text objects this
raw_line h l rows image memory objects (Built c at) = codes "built " ++ declared_class_name h (record { 0 = c }) ++ codes " " ++ address_text objects at
raw_line h l rows image memory objects (Ending c at) = codes "ending " ++ declared_class_name h (record { 0 = c }) ++ codes " " ++ address_text objects at

-- the text of what is told: a line, or the lines of a dump
abbrev pub raw_text : Classes → Places → List CodeRow → ImageBytes → Store → List Opened → RawOut → List ℕ
raw_text h l rows image memory objects raw = raw_line h l rows image memory objects raw ++ 10 ∷ []

-- calls, and the ends of constructions and begins of destructions, are told in a trace alone
abbrev pub is_raw_traced : RawOut → Bool
is_raw_traced (Number z) = false
is_raw_traced (Address at) = false
is_raw_traced (Class c) = false
is_raw_traced (Dump at) = false
is_raw_traced (Call block this) = true
is_raw_traced (Built c at) = true
is_raw_traced (Ending c at) = true

-- what is told without a trace too
abbrev pub printed_raw_outs : List RawOut → List RawOut
printed_raw_outs told = filter (λ raw. not (is_raw_traced raw)) told

-- what a run shows: all that it tells where it is traced, else what is printed
abbrev pub raw_outs_to_show : Bool → List RawOut → List RawOut
raw_outs_to_show true told = told
raw_outs_to_show false told = printed_raw_outs told

-- the text of what is shown, in order
abbrev pub raw_texts : Classes → Places → List CodeRow → ImageBytes → Store → List Opened → List RawOut → List ℕ
raw_texts h l rows image memory objects told = flat_map (raw_text h l rows image memory objects) told

-- the object that is to be dumped

abbrev pub IsKnownObject : Classes → Option Opened → Type 0
IsKnownObject h None = Unit {0}
IsKnownObject h (Some object) = object.class < length h

-- an object that is to be dumped is of a class of the hierarchy
abbrev pub HasText : Classes → List Opened → RawOut → Type 0
HasText h objects (Number z) = Unit {0}
HasText h objects (Address at) = Unit {0}
HasText h objects (Class c) = Unit {0}
HasText h objects (Dump at) = IsKnownObject h (object_at objects at)
HasText h objects (Call block this) = Unit {0}
HasText h objects (Built c at) = Unit {0}
HasText h objects (Ending c at) = Unit {0}
