-- The classes of a hierarchy, and what each has.
use Rattle.std.specs.Prelude.{ℕ, Option, Some, None, List, [], map, slice_get, ◌≡◌, Contains}
use Rattle.cxx_hierarchy.specs.declared.records.ClassId.{ClassId}
use Rattle.cxx_hierarchy.specs.declared.records.ClassRec.{ClassRec}
use Rattle.cxx_hierarchy.specs.declared.records.Base.{Base}
use Rattle.cxx_hierarchy.specs.declared.records.Member.{Member}
use Rattle.cxx_hierarchy.specs.declared.records.Function.{Function}
use Rattle.cxx_hierarchy.specs.declared.records.ValueType.{ValueType}
use Rattle.cxx_hierarchy.specs.declared.records.FieldType.{FieldType}
use Rattle.cxx_hierarchy.specs.declared.records.FieldType.TheVariants.{Value, Object}

-- a class, with each reference a class number
abbrev pub Class : Type 0
Class = ClassRec ClassId

-- the classes of a source in its order; the n-th has the number n
abbrev pub Classes : Type 0
Classes = List Class

-- the class of a number
abbrev pub class_by_number : ℕ → ClassId
class_by_number n = record { 0 = n }

-- what the class of a number declares
abbrev pub class_at : Classes → ClassId → Option Class
class_at h c = slice_get h c.0

abbrev pub bases_in : Option Class → List (Base ClassId)
bases_in None = []
bases_in (Some class) = class.bases

abbrev pub members_in : Option Class → List (Member ClassId)
members_in None = []
members_in (Some class) = class.members

abbrev pub functions_in : Option Class → List (Function ClassId)
functions_in None = []
functions_in (Some class) = class.functions

-- the direct bases of a class
abbrev pub bases_of : Classes → ClassId → List (Base ClassId)
bases_of h c = bases_in (class_at h c)

-- the data members that a class declares
abbrev pub members_of : Classes → ClassId → List (Member ClassId)
members_of h c = members_in (class_at h c)

-- the member functions that a class declares
abbrev pub functions_of : Classes → ClassId → List (Function ClassId)
functions_of h c = functions_in (class_at h c)

abbrev pub value_type_in : FieldType ClassId → Option ℕ → Option (ValueType ClassId)
value_type_in (Value ty) None = Some ty
value_type_in (Value ty) (Some count) = None
value_type_in (Object c) count = None

abbrev pub leaf_type_in : Option (Member ClassId) → Option (ValueType ClassId)
leaf_type_in None = None
leaf_type_in (Some member) = value_type_in member.ty member.count

-- the type of a member that is a number or a pointer, and no array
abbrev pub leaf_type : Classes → ClassId → ℕ → Option (ValueType ClassId)
leaf_type h c m = leaf_type_in (slice_get (members_of h c) m)

abbrev pub element_value_type : FieldType ClassId → Option (ValueType ClassId)
element_value_type (Value type) = Some type
element_value_type (Object c) = None

-- the type of the elements of a member that is a number or a pointer, or an array of them
abbrev pub element_type : Option (Member ClassId) → Option (ValueType ClassId)
element_type None = None
element_type (Some member) = element_value_type member.ty

abbrev pub width_in : Option (Member ClassId) → Option ℕ
width_in None = None
width_in (Some member) = member.width

-- the width of the member m of class c, where it is a bit-field (ISO C++03 9.6)
abbrev pub width_of_member : Classes → ClassId → ℕ → Option ℕ
width_of_member h c m = width_in (slice_get (members_of h c) m)

-- the names of the classes
abbrev pub class_names : Classes → List (List ℕ)
class_names h = map (λ class. class.name) h

-- the class of the name, or none where no class has it
abbrev pub IsClassNamed : Classes → List ℕ → Option ClassId → Type 0
IsClassNamed h name None = Contains (class_names h) name → ⊥
IsClassNamed h name (Some c) = slice_get (class_names h) c.0 ≡ Some name
