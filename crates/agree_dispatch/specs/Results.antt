-- How the result of an overrider is moved (ISO C++03 10.3 p5; Itanium C++ ABI 2.5.3).
use Rattle.std.specs.Prelude.{◌≡◌, ◌⊎◌, ℕ, Some}
use Rattle.cxx_hierarchy.specs.declared.records.ClassId.{ClassId}
use Rattle.cxx_hierarchy.specs.Classes.{Classes}
use Rattle.cxx_subobject.specs.declared.Subobject.{Subobject}
use Rattle.cxx_subobject.specs.Subobjects.{IsSubobject, class_of}
use Rattle.cxx_overrider.specs.declared.FunctionId.{FunctionId}
use Rattle.cxx_overrider.specs.Covariance.{Overrides}
use Rattle.cxx_overrider.specs.Functions.{return_of, pointee}
use Rattle.abi_sound.specs.Places.{Places}
use Rattle.abi_slots.specs.Groups.{return_for}
use Rattle.abi_slots.specs.Images.{return_constant, return_vbase}
use Rattle.byte_memory.specs.Store.{Store}
use Rattle.byte_code.specs.declared.code.ImageBytes.{ImageBytes}
use Rattle.byte_code.specs.Numbers.{word_of}
use Rattle.byte_machine.specs.Running.{moved}
use Rattle.byte_machine.specs.Calls.{moved_by_word}

-- g runs where f is called: it is f, or overrides it
abbrev pub RunsFor : Classes → FunctionId → FunctionId → Type 0
RunsFor h g f = (g ≡ f) ⊎ Overrides h g f

-- g runs where f is called, and returns a pointer to e, of which i is the subobject to which a result of f points
pub record Returns (h : Classes) (g f : FunctionId) (e : ClassId) (i : Subobject) : Type 0 where
  pub runs : RunsFor h g f
  pub own : pointee (return_of h g) ≡ Some e
  pub class : ClassId
  pub found : pointee (return_of h f) ≡ Some class
  pub valid : IsSubobject h e i
  pub of_class : class_of i ≡ Some class

-- a result is moved by a word of its table, where one is named, and then by a constant
pub record IsMoved (image : ImageBytes) (memory : Store) (from vbase add to : ℕ) : Type 0 where
  pub base : ℕ
  pub by_word : moved_by_word image memory from vbase ≡ Some base
  pub by_constant : moved base add ≡ to

-- the result of g is moved from one address to another where f was called, by the two words of that
abbrev pub MovesReturned : Classes → Places → ImageBytes → Store → FunctionId → FunctionId → ℕ → ℕ → Type 0
MovesReturned h l image memory g f from to = IsMoved image memory from (word_of (return_vbase (return_for h l g f))) (word_of (return_constant (return_for h l g f))) to
