-- The bytes of pointers to members (Itanium C++ ABI 2.3).
use Rattle.std.specs.Prelude.{◌≡◌, ℕ, ◌+◌, ◌-◌, ◌*◌, ◌^◌, Bool, true, false, if◌then◌else◌, Option, Some, None, List, ◌++◌}
use Rattle.std.specs.Int.{w64, to_le_bytes}
use Rattle.cxx_hierarchy.specs.declared.records.ClassId.{ClassId}
use Rattle.cxx_hierarchy.specs.Classes.{Classes}
use Rattle.cxx_subobject.specs.declared.Subobject.{Subobject}
use Rattle.cxx_overrider.specs.declared.FunctionId.{FunctionId}
use Rattle.cxx_overrider.specs.Virtuals.{is_virtual}
use Rattle.abi_sound.specs.Places.{Places}
use Rattle.abi_slots.specs.declared.code_numbers.BlockKind.TheVariants.{Plain}
use Rattle.abi_slots.specs.declared.code_numbers.CodeRow.{CodeRow}
use Rattle.abi_slots.specs.CodeRows.{code_of}
use Rattle.abi_slots.specs.Listing.{entry_number}
use Rattle.abi_slots.specs.Slots.{first_key}
use Rattle.abi_memptr.specs.declared.pointers.MemberPointer.{MemberPointer}
use Rattle.abi_memptr.specs.declared.pointers.MemberPointer.TheVariants.{NullData, Data, NullFunction, Function}

-- where the member m of the subobject s, of class c, lies in an object of class d
abbrev pub data_place : Places → ClassId → ClassId → ℕ → Subobject → ℕ
data_place l d c m s = l.place d s + l.member c m

-- the word of a virtual function: 1, and the bytes from the address point to its entry
abbrev pub entry_word : Classes → Places → FunctionId → ℕ
entry_word h l f = 1 + 8 * entry_number h l (first_key h f)

-- the word of code: twice its number, and 2, so that it is even and not 0
abbrev pub even_word : ℕ → ℕ
even_word code = 2 * code + 2

abbrev pub code_word_of : Option ℕ → ℕ
code_word_of None = 0
code_word_of (Some code) = even_word code

-- the first word of a pointer to a function
abbrev pub function_word : Classes → Places → List CodeRow → FunctionId → ℕ
function_word h l codes f = if is_virtual h f then entry_word h l f else code_word_of (code_of codes f Plain)

-- there is code for a function that is not virtual
abbrev pub HasFunctionCode : Classes → List CodeRow → MemberPointer → Type 0
HasFunctionCode h codes NullData = Unit {0}
HasFunctionCode h codes (Data c m s) = Unit {0}
HasFunctionCode h codes NullFunction = Unit {0}
HasFunctionCode h codes (Function f s) = is_virtual h f ≡ false → (code : ℕ) × (code_of codes f Plain ≡ Some code)

abbrev pub word_bytes : ℕ → List ℕ
word_bytes word = to_le_bytes w64 word

-- the bytes of a pointer to members of class d, the lowest first: the place of data, -1 for null; of a function its word and the
-- place of its subobject, 0 and 0 for null
abbrev pub member_pointer_bytes : Classes → Places → List CodeRow → ClassId → MemberPointer → List ℕ
member_pointer_bytes h l codes d NullData = word_bytes (2 ^ 64 - 1)
member_pointer_bytes h l codes d (Data c m s) = word_bytes (data_place l d c m s)
member_pointer_bytes h l codes d NullFunction = word_bytes 0 ++ word_bytes 0
member_pointer_bytes h l codes d (Function f s) = word_bytes (function_word h l codes f) ++ word_bytes (l.place d s)
