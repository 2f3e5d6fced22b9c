-- The virtual functions that the non-virtual part of a class declares.
use Rattle.std.specs.Prelude.{◌≡◌, ℕ, ◌<◌, Bool, true, false, Some, List, [], length, slice_get, slice_index_or}
use Rattle.cxx_hierarchy.specs.declared.records.ClassId.{ClassId}
use Rattle.cxx_hierarchy.specs.Classes.{Classes}
use Rattle.cxx_subobject.specs.Subobjects.{Leads, last_of}
use Rattle.cxx_overrider.specs.declared.FunctionId.{FunctionId}
use Rattle.cxx_overrider.specs.declared.within.PartQuestion.{PartQuestion}
use Rattle.cxx_overrider.specs.declared.within.PartQuestion.TheVariants.{LeavesPure, DeclaresVirtual}
use Rattle.cxx_overrider.specs.Functions.{Signature, signature_of}
use Rattle.cxx_overrider.specs.Overriding.{IsVirtual}
use Rattle.cxx_overrider.specs.invariants.Numbers.{IsNumberOf, row_of}
use Rattle.cxx_overrider.specs.invariants.Pure.{LeavesPure as LeavesPureOf}

-- the class, or one to which non-virtual bases alone lead from it, declares a virtual function of the signature
pub record HasVirtualWithin (h : Classes) (c : ClassId) (signature : Signature) : Type 0 where
  pub path : List ClassId
  pub leads : Leads h c path
  pub function : FunctionId
  pub class : last_of c path ≡ function.class
  pub same : signature_of h function ≡ Some signature
  pub is_virtual : IsVirtual h function

-- the answer to the question is yes
abbrev pub IsAnswered : Classes → PartQuestion → ClassId → Signature → Type 0
IsAnswered h LeavesPure = LeavesPureOf h
IsAnswered h DeclaresVirtual = HasVirtualWithin h

-- the list has the numbers below a bound that a row marks, in their order
pub record ListsMarked (row : List Bool) (bound : ℕ) (list : List ℕ) : Type 0 where
  pub below : (i n : ℕ) → slice_get list i ≡ Some n → n < bound
  pub marked : (i n : ℕ) → slice_get list i ≡ Some n → slice_index_or row n false ≡ true
  pub listed : (n : ℕ) → n < bound → slice_index_or row n false ≡ true → (i : ℕ) × (slice_get list i ≡ Some n)
  pub ordered : (i j m n : ℕ) → i < j → slice_get list i ≡ Some m → slice_get list j ≡ Some n → m < n

-- so do the lists for the rows of the classes
pub record AreListed (rows : List (List Bool)) (bound : ℕ) (lists : List (List ℕ)) : Type 0 where
  pub each : (c : ClassId) → c.0 < length lists → ListsMarked (slice_index_or rows c.0 []) bound (row_of lists c)

-- for each class the numbers, in their order, of the signatures of which its non-virtual part declares a virtual
-- function
pub record AreWithin (h : Classes) (numbers : List (List ℕ)) (count : ℕ) (lists : List (List ℕ)) : Type 0 where
  pub few : (c : ClassId) (i n : ℕ) → c.0 < length lists → slice_get (row_of lists c) i ≡ Some n → n < count
  pub valid : (c : ClassId) (i n : ℕ) (s : Signature) → c.0 < length lists → slice_get (row_of lists c) i ≡ Some n → IsNumberOf h numbers n s → HasVirtualWithin h c s
  pub listed : (c : ClassId) (n : ℕ) (s : Signature) → c.0 < length lists → IsNumberOf h numbers n s → HasVirtualWithin h c s → (i : ℕ) × (slice_get (row_of lists c) i ≡ Some n)
  pub ordered : (c : ClassId) (i j m n : ℕ) → c.0 < length lists → i < j → slice_get (row_of lists c) i ≡ Some m → slice_get (row_of lists c) j ≡ Some n → m < n
