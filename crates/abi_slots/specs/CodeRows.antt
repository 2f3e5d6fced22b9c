-- The numbers of the code that entries run (Itanium C++ ABI 2.5.2).
use Rattle.std.specs.Prelude.{◌≡◌, ℕ, Bool, true, nat_eq, ◌&&◌, if◌then◌else◌, Option, Some, None, List, [], ◌∷◌, slice_get}
use Rattle.cxx_overrider.specs.declared.FunctionId.{FunctionId}
use Rattle.abi_slots.specs.declared.words.CodeKind.{CodeKind}
use Rattle.abi_slots.specs.declared.words.CodeKind.TheVariants.{Plain as PlainCode, Complete, Deleting}
use Rattle.abi_slots.specs.declared.code_numbers.BlockKind.{BlockKind}
use Rattle.abi_slots.specs.declared.code_numbers.BlockKind.TheVariants.{Plain, BuildComplete, BuildBase, EndComplete, EndBase, EndDeleting}
use Rattle.abi_slots.specs.declared.code_numbers.CodeRow.{CodeRow}

abbrev pub kind_number : BlockKind → ℕ
kind_number Plain = 0
kind_number BuildComplete = 1
kind_number BuildBase = 2
kind_number EndComplete = 3
kind_number EndBase = 4
kind_number EndDeleting = 5

-- the row is that of a form of a function
abbrev pub is_row : FunctionId → BlockKind → CodeRow → Bool
is_row f kind row = nat_eq f.class.0 row.function.class.0 && (nat_eq f.index row.function.index && nat_eq (kind_number kind) (kind_number row.kind))

-- the number of the code of a form of a function: that of the first row which has them
abbrev pub code_of : List CodeRow → FunctionId → BlockKind → Option ℕ
code_of [] f kind = None
code_of (row ∷ rows) f kind = if is_row f kind row then Some row.code else code_of rows f kind

-- the form of a function that an entry runs
abbrev pub block_kind : CodeKind → BlockKind
block_kind PlainCode = Plain
block_kind Complete = EndComplete
block_kind Deleting = EndDeleting

-- no two rows have one function and one kind
abbrev pub AreDistinctRows : List CodeRow → Type 0
AreDistinctRows rows = (i j : ℕ) (a b : CodeRow) → slice_get rows i ≡ Some a → slice_get rows j ≡ Some b → is_row b.function b.kind a ≡ true → i ≡ j
