-- Marks: for each class the signatures, by number, of which something holds.
use Rattle.std.specs.Prelude.{◌≡◌, ◌↔◌, ◌+◌, ◌<◌, ◌≤◌, ℕ, Bool, true, false, Some, List, [], Contains, length, slice_index_or}
use Rattle.cxx_hierarchy.specs.declared.records.ClassId.{ClassId}
use Rattle.cxx_hierarchy.specs.declared.records.Base.{Base}
use Rattle.cxx_hierarchy.specs.Classes.{Classes, bases_of}
use Rattle.cxx_overrider.specs.declared.FunctionId.{FunctionId}
use Rattle.cxx_overrider.specs.Functions.{Signature, signature_of, says_virtual}
use Rattle.cxx_overrider.specs.invariants.Numbers.{IsNumberOf}

abbrev pub mark_of : List (List Bool) → ClassId → ℕ → Bool
mark_of rows c n = slice_index_or (slice_index_or rows c.0 []) n false

-- of the numbers below a count the row marks those of the signatures that are as P says; behind its end nothing is marked
pub record IsMarkRow (h : Classes) (numbers : List (List ℕ)) (count : ℕ) (P : Signature → Type 0) (row : List Bool) : Type 0 where
  pub short : length row ≤ count
  pub each : (n : ℕ) (s : Signature) → n < count → IsNumberOf h numbers n s → ((slice_index_or row n false ≡ true) ↔ P s)

-- the new row says of one number more whether it is marked
pub record MarksNext (row : List Bool) (n : ℕ) (flag : Bool) (new : List Bool) : Type 0 where
  pub short : length new ≤ n + 1
  pub told : slice_index_or new n false ≡ flag
  pub kept : (m : ℕ) → m < n → slice_index_or new m false ≡ slice_index_or row m false

-- the rows of all classes mark those that are as P says
pub record AreMarks (h : Classes) (numbers : List (List ℕ)) (P : ClassId → Signature → Type 0) (rows : List (List Bool)) : Type 0 where
  pub each : (c : ClassId) (n : ℕ) (s : Signature) → c.0 < length rows → IsNumberOf h numbers n s → ((mark_of rows c n ≡ true) ↔ P c s)

-- a direct base has the mark
pub record HasMarkedBase (h : Classes) (rows : List (List Bool)) (c : ClassId) (n : ℕ) : Type 0 where
  pub base : Base ClassId
  pub listed : Contains (bases_of h c) base
  pub marked : mark_of rows base.class n ≡ true

-- a direct non-virtual base has it
pub record HasMarkedPart (h : Classes) (rows : List (List Bool)) (c : ClassId) (n : ℕ) : Type 0 where
  pub base : Base ClassId
  pub listed : Contains (bases_of h c) base
  pub plain : base.is_virtual ≡ false
  pub marked : mark_of rows base.class n ≡ true

-- the class itself declares a function of the signature with the word `virtual`
pub record SaysVirtual (h : Classes) (c : ClassId) (signature : Signature) : Type 0 where
  pub source : FunctionId
  pub class : source.class ≡ c
  pub same : signature_of h source ≡ Some signature
  pub says : says_virtual h source ≡ true
