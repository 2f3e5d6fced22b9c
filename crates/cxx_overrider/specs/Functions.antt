-- The functions of a class, and what an overriding function shares with the overridden one (ISO C++03 10.3, 12.4).
use Rattle.std.specs.Prelude.{ℕ, Bool, true, false, nat_eq, Option, Some, None, List, map, length, slice_get, ◌&&◌}
use Rattle.cxx_hierarchy.specs.declared.records.ClassId.{ClassId}
use Rattle.cxx_hierarchy.specs.declared.records.Function.{Function}
use Rattle.cxx_hierarchy.specs.declared.records.ValueType.{ValueType}
use Rattle.cxx_hierarchy.specs.declared.records.ReturnType.{ReturnType}
use Rattle.cxx_hierarchy.specs.declared.records.Destructor.{Destructor}
use Rattle.cxx_hierarchy.specs.Declarations.{is_virtual_destructor}
use Rattle.cxx_hierarchy.specs.Classes.{Class, Classes, class_at, functions_of}
use Rattle.cxx_subobject.specs.declared.Subobject.{Subobject}
use Rattle.cxx_overrider.specs.declared.FunctionId.{FunctionId}
use Rattle.cxx_overrider.specs.declared.Overrider.{Overrider}
use Rattle.cxx_hierarchy.specs.declared.records.ReturnType.TheVariants.{Void, Value}
use Rattle.cxx_hierarchy.specs.declared.records.ValueType.TheVariants.{Number, Pointer}

-- a name and the types of the parameters; all destructors count as one name
pub data Signature : Type 0 where
  named : List ℕ → List (ValueType ClassId) → Signature
  destructor : Signature

-- the function f in the subobject s
abbrev pub overrider : Subobject → FunctionId → Overrider
overrider s f = record { at = s; function = f }

-- what a class declares under an index, if it is no destructor
abbrev pub declaration_of : Classes → FunctionId → Option (Function ClassId)
declaration_of h f = slice_get (functions_of h f.class) f.index

abbrev pub signature_at : Option (Function ClassId) → Bool → Option Signature
signature_at (Some f) is_last = Some (named f.name (map (λ p. p.ty) f.params))
signature_at None true = Some destructor
signature_at None false = None

abbrev pub signature_in : Option Class → ℕ → Option Signature
signature_in None index = None
signature_in (Some class) index = signature_at (slice_get class.functions index) (nat_eq index (length class.functions))

-- the signature of a function of the hierarchy. The index after the last function is the destructor's, which
-- counts as declared where it is implicit
abbrev pub signature_of : Classes → FunctionId → Option Signature
signature_of h f = signature_in (class_at h f.class) f.index

abbrev pub says_virtual_at : Option (Function ClassId) → Destructor → Bool
says_virtual_at (Some f) d = f.is_virtual
says_virtual_at None d = is_virtual_destructor d

abbrev pub says_virtual_in : Option Class → ℕ → Bool
says_virtual_in None index = false
says_virtual_in (Some class) index = says_virtual_at (slice_get class.functions index) class.destructor

-- whether the declaration has the word `virtual`
abbrev pub says_virtual : Classes → FunctionId → Bool
says_virtual h f = says_virtual_in (class_at h f.class) f.index

abbrev pub is_pure_at : Option (Function ClassId) → Bool
is_pure_at (Some f) = f.is_pure
is_pure_at None = false

-- whether the declaration ends in `= 0` (ISO C++03 10.4)
abbrev pub is_pure : Classes → FunctionId → Bool
is_pure h f = is_pure_at (declaration_of h f)

abbrev pub return_at : Option (Function ClassId) → Option (ReturnType ClassId)
return_at (Some f) = Some f.ret
return_at None = None

-- what the function returns; a destructor has no return type
abbrev pub return_of : Classes → FunctionId → Option (ReturnType ClassId)
return_of h f = return_at (declaration_of h f)

-- the test that two functions are one
abbrev pub same_function : FunctionId → FunctionId → Bool
same_function f g = nat_eq f.class.0 g.class.0 && nat_eq f.index g.index

-- the class to which a function returns a pointer
abbrev pub pointee : Option (ReturnType ClassId) → Option ClassId
pointee None = None
pointee (Some Void) = None
pointee (Some (Value (Number t))) = None
pointee (Some (Value (Pointer c))) = Some c
