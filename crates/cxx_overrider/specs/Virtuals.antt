-- The virtual functions that a class declares, in the order of declaration (Itanium C++ ABI 2.5.2; ISO C++03 10.3, 12.4).
use Rattle.std.specs.Prelude.{ℕ, Bool, true, false, nat_eq, ◌&&◌, Option, Some, None, List, [], ◌∷◌, ◌++◌, map, filter, length}
use Rattle.std.specs.List.{list_any, filter_map}
use Rattle.std.specs.Str.{bytes_eq}
use Rattle.cxx_hierarchy.specs.declared.records.ClassId.{ClassId}
use Rattle.cxx_hierarchy.specs.declared.records.PartAt.{PartAt}
use Rattle.cxx_hierarchy.specs.declared.records.PartKind.{PartKind}
use Rattle.cxx_hierarchy.specs.declared.records.PartKind.TheVariants.{Member, Function, Constructor, Destructor}
use Rattle.cxx_hierarchy.specs.declared.records.Destructor.{Destructor as DestructorKind}
use Rattle.cxx_hierarchy.specs.declared.records.Destructor.TheVariants.{Implicit, Plain, Virtual}
use Rattle.cxx_hierarchy.specs.declared.records.Scalar.{Scalar}
use Rattle.cxx_hierarchy.specs.declared.records.Scalar.TheVariants.{Bool as TheBool, Char, SChar, UChar, Short, UShort, Int, UInt, Long, ULong, LongLong, ULongLong}
use Rattle.cxx_hierarchy.specs.declared.records.ValueType.{ValueType}
use Rattle.cxx_hierarchy.specs.declared.records.ValueType.TheVariants.{Number, Pointer}
use Rattle.cxx_hierarchy.specs.Classes.{Class, Classes, class_at}
use Rattle.cxx_subobject.specs.Subobjects.{class_of}
use Rattle.cxx_subobject.specs.Preorder.{preorder}
use Rattle.cxx_overrider.specs.declared.FunctionId.{FunctionId}
use Rattle.cxx_overrider.specs.Functions.{Signature, named, destructor, signature_of, says_virtual}

abbrev pub scalar_number : Scalar → ℕ
scalar_number TheBool = 0
scalar_number Char = 1
scalar_number SChar = 2
scalar_number UChar = 3
scalar_number Short = 4
scalar_number UShort = 5
scalar_number Int = 6
scalar_number UInt = 7
scalar_number Long = 8
scalar_number ULong = 9
scalar_number LongLong = 10
scalar_number ULongLong = 11

abbrev pub same_type : ValueType ClassId → ValueType ClassId → Bool
same_type (Number s) (Number t) = nat_eq (scalar_number s) (scalar_number t)
same_type (Number s) (Pointer d) = false
same_type (Pointer c) (Number t) = false
same_type (Pointer c) (Pointer d) = nat_eq c.0 d.0

abbrev pub same_types : List (ValueType ClassId) → List (ValueType ClassId) → Bool
same_types [] [] = true
same_types [] (t ∷ ts) = false
same_types (s ∷ ss) [] = false
same_types (s ∷ ss) (t ∷ ts) = same_type s t && same_types ss ts

abbrev pub same_signature : Signature → Signature → Bool
same_signature (named n ts) (named m us) = bytes_eq n m && same_types ts us
same_signature (named n ts) destructor = false
same_signature destructor (named m us) = false
same_signature destructor destructor = true

abbrev pub same_signatures : Option Signature → Option Signature → Bool
same_signatures None s = false
same_signatures (Some s) None = false
same_signatures (Some s) (Some t) = same_signature s t

-- two functions have one name and one list of parameter types; all destructors count as one name
abbrev pub same_name : Classes → FunctionId → FunctionId → Bool
same_name h f g = same_signatures (signature_of h f) (signature_of h g)

abbrev pub function_at : ClassId → ℕ → FunctionId
function_at c index = record { class = c; index = index }

-- a function stands under its number, and the destructor under the index after the last function
abbrev pub index_of : Class → PartKind → ℕ → Option ℕ
index_of class Member number = None
index_of class Function number = Some number
index_of class Constructor number = None
index_of class Destructor number = Some (length class.functions)

-- an implicit destructor stands last
abbrev pub implicit_index : Class → DestructorKind → List ℕ
implicit_index class Implicit = length class.functions ∷ []
implicit_index class Plain = []
implicit_index class Virtual = []

abbrev pub indices_in : Class → List ℕ
indices_in class = filter_map (λ (part : PartAt). index_of class part.kind part.number) class.order ++ implicit_index class class.destructor

abbrev pub function_ids_in : ClassId → Option Class → List FunctionId
function_ids_in c None = []
function_ids_in c (Some class) = map (function_at c) (indices_in class)

-- the functions that a class declares, its destructor among them, in the order of declaration
abbrev pub declared : Classes → ClassId → List FunctionId
declared h c = function_ids_in c (class_at h c)

-- the class declares a function of this name with the word `virtual`
abbrev pub says_named : Classes → FunctionId → Option ClassId → Bool
says_named h f None = false
says_named h f (Some c) = list_any (λ g. same_name h f g && says_virtual h g) (declared h c)

-- f is virtual: its class or a base of it declares a function of its name with the word `virtual` (ISO C++03 10.3 p2)
abbrev pub is_virtual : Classes → FunctionId → Bool
is_virtual h f = list_any (λ s. says_named h f (class_of s)) (preorder h f.class)

-- the virtual functions that a class declares
abbrev pub own : Classes → ClassId → List FunctionId
own h c = filter (is_virtual h) (declared h c)
