-- The ops that find the address of a place, and its tests.
use Rattle.std.specs.Prelude.{ℕ, ◌+◌, Option, Some, None, List, [], ◌∷◌, ◌++◌, if◌then◌else◌, slice_get}
use Rattle.cxx_hierarchy.specs.declared.records.ClassId.{ClassId}
use Rattle.cxx_hierarchy.specs.declared.records.ValueType.{ValueType}
use Rattle.cxx_hierarchy.specs.declared.records.ValueType.TheVariants.{Number as NumberType}
use Rattle.cxx_hierarchy.specs.declared.records.Scalar.TheVariants.{Int}
use Rattle.cxx_hierarchy.specs.Classes.{Classes, members_of, element_type}
use Rattle.cxx_subobject.specs.declared.Subobject.{Subobject}
use Rattle.cxx_subobject.specs.Subobjects.{class_of}
use Rattle.cxx_program.specs.declared.statement.PassedMember.{PassedMember}
use Rattle.cxx_program.specs.declared.statement.TypedPlace.{TypedPlace}
use Rattle.cxx_program.specs.Typed.{Scope}
use Rattle.path_model.specs.Uses.{is_shared}
use Rattle.path_model.specs.Order.{first_name_base}
use Rattle.path_model.specs.Outs.{class_or_first}
use Rattle.abi_sound.specs.Locations.{element_place}
use Rattle.byte_code.specs.declared.op.Finish.{Finish}
use Rattle.byte_code.specs.declared.op.Finish.TheVariants.{Add, Move}
use Rattle.code_ops.specs.Setups.{Setup, places}
use Rattle.code_ops.specs.Operands.{base_ops, operand_register}
use Rattle.code_ops.specs.declared.uses.Used.{Used}
use Rattle.code_ops.specs.declared.uses.Used.TheVariants.{Guards}
use Rattle.code_ops.specs.Uses.{arrow_used, views_if}

-- how far an element lies behind the subobject that declares its member
abbrev pub element_distance : Setup → Subobject → ℕ → ℕ → ℕ
element_distance x base member index = element_place x.h (places x) (class_of base) member index

-- from a part of class c in a register to the element of a member of its subobject
abbrev pub element_ops : Setup → ClassId → Subobject → ℕ → ℕ → ℕ → List Finish
element_ops x c base member index r = base_ops x c base r r ++ (Add r r (element_distance x base member index) ∷ [])

-- through the class members of a path, and to its last name
abbrev pub path_ops : Setup → ClassId → List PassedMember → Subobject → ℕ → ℕ → ℕ → List Finish
path_ops x c [] base member index r = element_ops x c base member index r
path_ops x c (p ∷ passed) base member index r = element_ops x c p.base p.member p.index r ++ path_ops x p.class passed base member index r

-- the address of a place, in a register, from the one that has the pointer
abbrev pub place_ops : Setup → TypedPlace → (to from : ℕ) → List Finish
place_ops x place to from = Move to from ∷ path_ops x place.class place.passed place.base place.member place.index to

-- the class members before the first step behind a virtual base, each so many bytes behind the pointer
abbrev pub passed_used : Setup → ClassId → ℕ → List PassedMember → ℕ → List Used
passed_used x c offset [] r = []
passed_used x c offset (p ∷ passed) r =
    if is_shared p.base then []
    else Guards r (offset + ((places x).place c p.base + element_distance x p.base p.member p.index)) p.class.0
    ∷ passed_used x p.class (offset + ((places x).place c p.base + element_distance x p.base p.member p.index)) passed r

-- the tests of a place whose pointer is read into a register
abbrev pub place_used : Setup → Scope → TypedPlace → ℕ → List Used
place_used x e place r =
    arrow_used e r place.pointer place.class
    ++ (views_if (is_shared (first_name_base place.passed place.base)) (operand_register r place.pointer) 0 place.class ++ passed_used x place.class 0 place.passed (operand_register r place.pointer))

abbrev pub type_or_int : Option (ValueType ClassId) → ValueType ClassId
type_or_int None = NumberType Int
type_or_int (Some type) = type

abbrev pub element_type_at : Classes → ClassId → ℕ → Option (ValueType ClassId)
element_type_at h c m = element_type (slice_get (members_of h c) m)

-- the type of the leaf that a place leads to
abbrev pub place_type : Setup → TypedPlace → ValueType ClassId
place_type x place = type_or_int (element_type_at x.h (class_or_first (class_of place.base)) place.member)
