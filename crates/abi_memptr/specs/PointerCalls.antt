-- What a call through a pointer to a function runs (Itanium C++ ABI 2.3; ISO C++03 5.5 p4, 10.3).
use Rattle.std.specs.Prelude.{◌≡◌, ℕ, ◌+◌, ◌<◌, ◌^◌, true, false, Option, Some, None, List, ℤ, pos, length}
use Rattle.cxx_hierarchy.specs.declared.records.ClassId.{ClassId}
use Rattle.cxx_hierarchy.specs.Classes.{Classes}
use Rattle.cxx_hierarchy.specs.Hierarchies.{IsHierarchy}
use Rattle.cxx_subobject.specs.declared.Subobject.{Subobject}
use Rattle.cxx_subobject.specs.Subobjects.{whole_of}
use Rattle.cxx_overrider.specs.declared.FunctionId.{FunctionId}
use Rattle.cxx_overrider.specs.declared.Overrider.{Overrider}
use Rattle.cxx_overrider.specs.Functions.{is_pure}
use Rattle.cxx_overrider.specs.Overriding.{IsVirtual, IsFinalOverrider}
use Rattle.abi_primary.specs.Kinds.{IsDynamic}
use Rattle.abi_sound.specs.declared.class_layout.ClassLayout.{ClassLayout}
use Rattle.abi_sound.specs.Places.{Places, places_of}
use Rattle.abi_sound.specs.Sound.{IsSoundLayout}
use Rattle.abi_slots.specs.declared.code_numbers.BlockKind.TheVariants.{Plain}
use Rattle.abi_slots.specs.declared.code_numbers.CodeRow.{CodeRow}
use Rattle.abi_slots.specs.CodeRows.{code_of}
use Rattle.abi_slots.specs.Views.{whole_view}
use Rattle.abi_slots.specs.Seen.{PlacedTables}
use Rattle.byte_memory.specs.Store.{Store}
use Rattle.byte_code.specs.declared.code.ImageBytes.{ImageBytes}
use Rattle.agree_dispatch.specs.Standing.{IsViewAt}
use Rattle.abi_memptr.specs.declared.calls.Applied.{Applied}
use Rattle.abi_memptr.specs.declared.pointers.MemberPointer.TheVariants.{Function}
use Rattle.abi_memptr.specs.Pointers.{IsFunctionIn}
use Rattle.abi_memptr.specs.PointerBytes.{HasFunctionCode, function_word}

-- the virtual pointers of an object of class d lead to the tables of the whole object, in an image with these numbers of code
pub record HasWholeTables (h : Classes) (rows : List ClassLayout) (image : ImageBytes) (codes : List CodeRow) (memory : Store) (d : ClassId) (at : ℕ) : Type 0 where
  pub placed : PlacedTables
  pub numbers : placed.codes ≡ codes
  pub stands : IsViewAt h rows image memory d at (whole_of d) (whole_view d) placed

-- a complete object of class d stands at an address, over a sound layout; where its class is dynamic it has its tables. The numbers of
-- code have 32 bits
pub record IsCompleteAt (h : Classes) (rows : List ClassLayout) (image : ImageBytes) (codes : List CodeRow) (memory : Store) (d : ClassId) (at : ℕ) : Type 0 where
  pub keeps : IsHierarchy h
  pub sound : IsSoundLayout h rows
  pub fits : at + (places_of h rows).size d < 2 ^ 63
  pub small : (f : FunctionId) (code : ℕ) → code_of codes f Plain ≡ Some code → code < 2 ^ 32
  pub tables : IsDynamic h d → HasWholeTables h rows image codes memory d at

-- the code with this number runs, and `this` is the address of the subobject s
abbrev pub applied : Places → ClassId → ℕ → Subobject → ℕ → Option Applied
applied l d at s code = Some (record { code = code; this_at = at + l.place d s })

-- what a call of f in the subobject s of a whole object of class d runs: the final overrider of a virtual function, or nothing where
-- that is pure; any other function itself
pub data Applies (h : Classes) (l : Places) (codes : List CodeRow) (d : ClassId) (at : ℕ) (f : FunctionId) (s : Subobject) : Option Applied → Type 0 where
  runs_overrider : (o : Overrider) (code : ℕ) → IsVirtual h f → IsFinalOverrider h d s f o → is_pure h o.function ≡ false → code_of codes o.function Plain ≡ Some code → Applies h l codes d at f s (applied l d at o.at code)
  runs_nothing : (o : Overrider) → IsVirtual h f → IsFinalOverrider h d s f o → is_pure h o.function ≡ true → Applies h l codes d at f s None
  runs_itself : (code : ℕ) → (IsVirtual h f → ⊥) → code_of codes f Plain ≡ Some code → Applies h l codes d at f s (applied l d at s code)

-- the two words of a pointer to a function f of the subobject s, applied to a complete object of class d that stands at an address, give
-- what a call of f in s runs
abbrev pub AppliesWords : ImageBytes → Store → ℕ → (ptr adj : ℤ) → Option Applied → Type 0
AppliesWords image memory at ptr adj result = (h : Classes) (rows : List ClassLayout) (codes : List CodeRow) (d : ClassId) (f : FunctionId) (s : Subobject) →
    IsCompleteAt h rows image codes memory d at → IsFunctionIn h d f s → HasFunctionCode h codes (Function f s) →
    ptr ≡ pos (function_word h (places_of h rows) codes f) → adj ≡ pos ((places_of h rows).place d s) → Applies h (places_of h rows) codes d at f s result
