-- Signatures by numbers: functions have one number exactly where they have one signature.
use Rattle.std.specs.Prelude.{◌≡◌, ℕ, ◌+◌, ◌<◌, ◌≤◌, Option, Some, IsSome, List, [], length, slice_get, slice_index_or}
use Rattle.cxx_hierarchy.specs.declared.records.ClassId.{ClassId}
use Rattle.cxx_hierarchy.specs.Classes.{Classes, functions_of}
use Rattle.cxx_overrider.specs.declared.FunctionId.{FunctionId}
use Rattle.cxx_overrider.specs.Functions.{Signature, signature_of}

abbrev pub row_of : List (List ℕ) → ClassId → List ℕ
row_of rows c = slice_index_or rows c.0 []

-- the number of a function, in the row of its class
abbrev pub number_of : List (List ℕ) → FunctionId → Option ℕ
number_of rows f = slice_get (row_of rows f.class) f.index

-- a row has at most 1024 functions and a destructor
pub record AreShort (rows : List (List ℕ)) : Type 0 where
  pub each : (c : ClassId) → length (row_of rows c) ≤ 1025

-- functions have one number exactly where they have one signature
pub record IsNumbering (h : Classes) (rows : List (List ℕ)) (count : ℕ) : Type 0 where
  pub all : length rows ≡ length h
  pub numbered : (f : FunctionId) (s : Signature) → signature_of h f ≡ Some s → (n : ℕ) × (number_of rows f ≡ Some n)
  pub known : (f : FunctionId) (n : ℕ) → number_of rows f ≡ Some n → (s : Signature) × (signature_of h f ≡ Some s)
  pub same : (f g : FunctionId) (n : ℕ) → number_of rows f ≡ Some n → number_of rows g ≡ Some n → signature_of h f ≡ signature_of h g
  pub apart : (f g : FunctionId) (n m : ℕ) → number_of rows f ≡ Some n → number_of rows g ≡ Some m → signature_of h f ≡ signature_of h g → n ≡ m
  pub short : AreShort rows
  pub used : (n : ℕ) → n < count → (f : FunctionId) × (number_of rows f ≡ Some n)
  pub few : (f : FunctionId) (n : ℕ) → number_of rows f ≡ Some n → n < count

-- the number is that of the signature
pub record IsNumberOf (h : Classes) (rows : List (List ℕ)) (n : ℕ) (signature : Signature) : Type 0 where
  pub function : FunctionId
  pub number : number_of rows function ≡ Some n
  pub is : signature_of h function ≡ Some signature

-- the functions that were met first, each of a signature of its own
pub record AreFirst (h : Classes) (firsts : List FunctionId) : Type 0 where
  pub known : (i : ℕ) (f : FunctionId) → slice_get firsts i ≡ Some f → IsSome (signature_of h f)
  pub classes : (i : ℕ) (f : FunctionId) → slice_get firsts i ≡ Some f → f.class.0 < length h
  pub apart : (i j : ℕ) (f g : FunctionId) → slice_get firsts i ≡ Some f → slice_get firsts j ≡ Some g → signature_of h f ≡ signature_of h g → i ≡ j

-- the number is the place of the first function of f's signature
pub record IsFirstOf (h : Classes) (firsts : List FunctionId) (f : FunctionId) (n : ℕ) : Type 0 where
  pub first : FunctionId
  pub at_n : slice_get firsts n ≡ Some first
  pub same : signature_of h first ≡ signature_of h f

-- the row of a class has a number for each of its functions, the destructor last
pub record IsRow (h : Classes) (firsts : List FunctionId) (c : ClassId) (row : List ℕ) : Type 0 where
  pub size : length row ≡ length (functions_of h c) + 1
  pub each : (i n : ℕ) → slice_get row i ≡ Some n → IsFirstOf h firsts (record { class = c; index = i }) n
