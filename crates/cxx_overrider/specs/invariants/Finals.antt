-- The first class on a path that declares a function of a signature, by its number.
use Rattle.std.specs.Prelude.{◌≡◌, ℕ, ◌+◌, ◌<◌, Some, List, take, slice_get}
use Rattle.cxx_hierarchy.specs.declared.records.ClassId.{ClassId}
use Rattle.cxx_subobject.specs.declared.Subobject.{Subobject}
use Rattle.cxx_hierarchy.specs.Classes.{Classes}
use Rattle.cxx_subobject.specs.Subobjects.{IsSubobject, subobject, class_of}
use Rattle.cxx_overrider.specs.declared.FunctionId.{FunctionId}
use Rattle.cxx_overrider.specs.declared.Overrider.{Overrider}
use Rattle.cxx_overrider.specs.Overriding.{HasPart, IsFinalOverrider}
use Rattle.cxx_overrider.specs.invariants.Numbers.{number_of}

-- the first classes of the path declare no function of the number
pub record DeclareNone (rows : List (List ℕ)) (path : List ClassId) (n count : ℕ) : Type 0 where
  pub none : (i : ℕ) (g : FunctionId) → i < count → slice_get path i ≡ Some g.class → number_of rows g ≡ Some n → ⊥

-- the class at the place is the first one that declares such a function
pub record IsFirstAt (rows : List (List ℕ)) (path : List ClassId) (n place : ℕ) (f : FunctionId) : Type 0 where
  pub class : slice_get path place ≡ Some f.class
  pub number : number_of rows f ≡ Some n
  pub before : DeclareNone rows path n place

-- that function, in the subobject to which the path leads there
pub record IsFirstOverrider (rows : List (List ℕ)) (s : Subobject) (n : ℕ) (o : Overrider) : Type 0 where
  pub place : ℕ
  pub first : IsFirstAt rows s.path n place o.function
  pub at_front : o.at ≡ subobject s.root (take (place + 1) s.path)

-- the first function on the path of s is the final overrider of f in s
pub record IsByPath (h : Classes) (rows : List (List ℕ)) (n : ℕ) (c : ClassId) (s : Subobject) (f : FunctionId) : Type 0 where
  pub final : (o : Overrider) → IsFirstOverrider rows s n o → IsFinalOverrider h c s f o

-- g is the final overrider of f in s, in whichever subobject of its class
pub record IsByClass (h : Classes) (c : ClassId) (s : Subobject) (f g : FunctionId) : Type 0 where
  pub part : HasPart h c g.class
  pub final : (at : Subobject) → IsSubobject h c at → class_of at ≡ Some g.class → IsFinalOverrider h c s f (record { at = at; function = g })
