-- How far rows are read.
use Rattle.std.specs.Prelude.{◌≡◌, ℕ, suc, ◌≤◌, List, ◌++◌, length, take}
use Rattle.std.specs.List.{concat}
use Rattle.cxx_hierarchy.specs.Classes.{Classes}
use Rattle.abi_inspect.specs.declared.seen.SeenValue.{SeenValue}
use Rattle.abi_inspect.specs.declared.slots.Row.{Row}
use Rattle.abi_inspect.specs.declared.reading.RowsRead.{RowsRead}
use Rattle.abi_inspect.specs.declared.reading.RowsRead.TheVariants.{Values, Fault}
use Rattle.abi_inspect.specs.SeenTexts.{AreValuesOf, row_lines}

-- the text begins with so many lines of rows, of which the leaves have these values
pub record BeginsRows (h : Classes) (rows : List Row) (text : List ℕ) (lines : ℕ) (values : List SeenValue) : Type 0 where
  pub rest : List ℕ
  pub fits : AreValuesOf rows values
  pub enough : lines ≤ length (row_lines h rows values)
  pub is : text ≡ concat (take lines (row_lines h rows values)) ++ rest

-- the text is that of the rows with these values, and with no others
pub record AreReadFrom (h : Classes) (rows : List Row) (text : List ℕ) (values : List SeenValue) : Type 0 where
  pub fits : AreValuesOf rows values
  pub is : text ≡ concat (row_lines h rows values)
  pub one : (others : List SeenValue) → AreValuesOf rows others → text ≡ concat (row_lines h rows others) → others ≡ values

-- the text begins with so many lines and no more, and is not that of the rows
pub record IsStopped (h : Classes) (rows : List Row) (text : List ℕ) (lines : ℕ) : Type 0 where
  pub values : List SeenValue
  pub before : BeginsRows h rows text lines values
  pub here : (others : List SeenValue) → BeginsRows h rows text (suc lines) others → ⊥
  pub none : (others : List SeenValue) → AreValuesOf rows others → text ≡ concat (row_lines h rows others) → ⊥

-- what was read of the rows
abbrev pub IsRowsRead : Classes → List Row → List ℕ → RowsRead → Type 0
IsRowsRead h rows text (Values values) = AreReadFrom h rows text values.items
IsRowsRead h rows text (Fault lines) = IsStopped h rows text lines
