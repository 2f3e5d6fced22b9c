-- What is read behind the first line.
use Rattle.std.specs.Prelude.{◌≡◌, ℕ, ◌+◌, ◌≤◌, Result, Ok, Err, List}
use Rattle.std.specs.Fmt.{decimal}
use Rattle.cxx_hierarchy.specs.declared.records.ClassId.{ClassId}
use Rattle.cxx_hierarchy.specs.Classes.{Classes}
use Rattle.abi_sound.specs.Places.{Places}
use Rattle.abi_inspect.specs.declared.seen.Seen.{Seen}
use Rattle.abi_inspect.specs.declared.seen.InspectFault.{InspectFault}
use Rattle.abi_inspect.specs.declared.seen.InspectFault.TheVariants.{UnknownClass, Form, NoMemory}
use Rattle.abi_inspect.specs.Rows.{rows_of}
use Rattle.abi_inspect.specs.Values.{most_dumped_number}
use Rattle.abi_inspect.specs.invariants.RowReads.{AreReadFrom, IsStopped}

-- the lines behind the first are those of an object of this number and class
pub record IsSeenBehind (h : Classes) (l : Places) (object : ℕ) (c : ClassId) (text : List ℕ) (seen : Seen) : Type 0 where
  pub object_is : seen.object ≡ object
  pub class_is : seen.class ≡ c
  pub read : AreReadFrom h (rows_of h l c) text seen.leaves

-- the fault is in the line behind so many lines of the rows
pub record IsFaultBehind (h : Classes) (l : Places) (c : ClassId) (text : List ℕ) (line : ℕ) : Type 0 where
  pub lines : ℕ
  pub line_is : line ≡ lines + 2
  pub stopped : IsStopped h (rows_of h l c) text lines

-- what is read of the lines behind the first
abbrev pub IsReadBehind : Classes → Places → ℕ → ClassId → List ℕ → Result Seen InspectFault → Type 0
IsReadBehind h l object c text (Ok seen) = IsSeenBehind h l object c text seen
IsReadBehind h l object c text (Err UnknownClass) = ⊥
IsReadBehind h l object c text (Err (Form line)) = IsFaultBehind h l c text line
IsReadBehind h l object c text (Err NoMemory) = Unit {0}

-- the number of an object that these digits are
pub record IsObjectOf (digits : List ℕ) (object : ℕ) : Type 0 where
  pub low : 1 ≤ object
  pub high : object ≤ most_dumped_number
  pub one : (n : ℕ) → n ≤ most_dumped_number → digits ≡ decimal n → object ≡ n
