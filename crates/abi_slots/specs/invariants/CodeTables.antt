-- A table of the numbers of code, as a map from functions and their forms.
use Rattle.std.specs.Prelude.{Bool, nat_eq, ◌&&◌, ℕ, Option}
use Rattle.indexmap.specs.IndexMap.{get_by}
use Rattle.cxx_overrider.specs.declared.FunctionId.{FunctionId}
use Rattle.abi_slots.specs.CodeRows.{kind_number}
use Rattle.abi_slots.specs.declared.code_numbers.BlockKind.{BlockKind}
use Rattle.abi_slots.specs.declared.code_table.CodeKey.{CodeKey}
use Rattle.abi_slots.specs.declared.code_table.CodeTable.{CodeTable}

abbrev pub code_key : FunctionId → BlockKind → CodeKey
code_key f kind = record { class = f.class.0; index = f.index; kind = kind_number kind }

abbrev pub same_code_key : CodeKey → CodeKey → Bool
same_code_key a b = nat_eq a.class b.class && (nat_eq a.index b.index && nat_eq a.kind b.kind)

-- the number under a key
abbrev pub code_in : CodeTable → CodeKey → Option ℕ
code_in table q = get_by (same_code_key q) table.codes
