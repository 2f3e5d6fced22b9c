-- POD classes, which are laid out as C does it (Itanium C++ ABI 1.1 and 2.2; ISO C++03 9).
use Rattle.std.specs.Prelude.{Bool, true, not, ◌&&◌, ◌==◌, length}
use Rattle.std.specs.List.{list_all}
use Rattle.cxx_hierarchy.specs.declared.records.ClassId.{ClassId}
use Rattle.cxx_hierarchy.specs.declared.records.Member.{Member}
use Rattle.cxx_hierarchy.specs.declared.records.FieldType.{FieldType}
use Rattle.cxx_hierarchy.specs.declared.records.FieldType.TheVariants.{Value, Object}
use Rattle.cxx_hierarchy.specs.Classes.{Classes}
pub use Rattle.cxx_hierarchy.specs.Declarations.{is_implicit, has_virtual_function}
pub use Rattle.abi_primary.specs.Kinds.{Kind, in_class, is_kind_in, is_kind, empty_kind, is_empty}

abbrev pub is_pod_type : (ClassId → Bool) → FieldType ClassId → Bool
is_pod_type is_pod (Value type) = true
is_pod_type is_pod (Object d) = is_pod d

-- a class as C has it: no base, no virtual function, no declared constructor or destructor, and each member is public
-- and no object of a class that is not such a one
abbrev pub pod_kind : Kind
pod_kind is_pod class =
    (length class.bases == 0)
    && (not (has_virtual_function class)
    && (not class.has_constructor
    && (is_implicit class.destructor
    && list_all (λ (member : Member ClassId). member.is_public && is_pod_type is_pod member.ty) class.members)))

abbrev pub is_pod : Classes → ClassId → Bool
is_pod = is_kind pod_kind
