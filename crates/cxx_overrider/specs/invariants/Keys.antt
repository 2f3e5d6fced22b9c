-- Signatures as lists of bytes, to be looked up in a table.
use Rattle.std.specs.Prelude.{◌≡◌, ℕ, ◌+◌, ◌/◌, ◌%◌, Some, List, [], ◌∷◌, ◌++◌, length, slice_get}
use Rattle.cxx_hierarchy.specs.declared.names.NameTable.{NameTable}
use Rattle.cxx_hierarchy.specs.declared.records.ClassId.{ClassId}
use Rattle.cxx_hierarchy.specs.declared.records.ValueType.{ValueType}
use Rattle.cxx_hierarchy.specs.declared.records.ValueType.TheVariants.{Number, Pointer}
use Rattle.cxx_hierarchy.specs.Classes.{Classes}
use Rattle.cxx_hierarchy.specs.NameTables.{Text, Numbers}
use Rattle.cxx_overrider.specs.declared.FunctionId.{FunctionId}
use Rattle.cxx_overrider.specs.Functions.{Signature, named, destructor, signature_of}
use Rattle.cxx_overrider.specs.Virtuals.{scalar_number}

-- a type is two bytes: 0 and the number of a number type, or the number of a class, 256 above
abbrev pub first_code : ValueType ClassId → ℕ
first_code (Number _) = 0
first_code (Pointer c) = c.0 / 256 + 1

abbrev pub second_code : ValueType ClassId → ℕ
second_code (Number kind) = scalar_number kind
second_code (Pointer c) = c.0 % 256

abbrev pub type_codes : List (ValueType ClassId) → List ℕ
type_codes [] = []
type_codes (t ∷ ts) = first_code t ∷ second_code t ∷ type_codes ts

-- the number of the parameters and one, their types, and the name; nothing for a destructor
abbrev pub signature_key : Signature → List ℕ
signature_key (named name types) = (length types + 1) ∷ (type_codes types ++ name)
signature_key destructor = []

-- the table numbers the signatures of the functions by their places
pub record AreKeyed (h : Classes) (table : NameTable) (firsts : List FunctionId) : Type 0 where
  pub keys : List Text
  pub numbers : Numbers table keys
  pub size : length keys ≡ length firsts
  pub each : (i : ℕ) (f : FunctionId) (s : Signature) → slice_get firsts i ≡ Some f → signature_of h f ≡ Some s → slice_get keys i ≡ Some (signature_key s)
