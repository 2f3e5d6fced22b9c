-- The initializers of a constructor (ISO C++03 12.6.2).
use Rattle.std.specs.Prelude.{ℕ, Bool, true, false, nat_eq, if◌then◌else◌, Option, Some, None, Result, Ok, Err, List, position}
use Rattle.std.specs.List.{list_any}
use Rattle.std.specs.Str.{bytes_eq}
use Rattle.cxx_hierarchy.specs.declared.records.ClassId.{ClassId}
use Rattle.cxx_hierarchy.specs.declared.records.Member.{Member}
use Rattle.cxx_hierarchy.specs.declared.records.ValueType.{ValueType}
use Rattle.cxx_hierarchy.specs.declared.records.ValueType.TheVariants.{Number, Pointer}
use Rattle.cxx_hierarchy.specs.declared.stop.Stop.{Stop}
use Rattle.cxx_hierarchy.specs.declared.stop.Stop.TheVariants.{Refused}
use Rattle.cxx_hierarchy.specs.declared.stop.Rule.TheVariants.{BadInitializer}
use Rattle.cxx_hierarchy.specs.NameTables.{Text}
use Rattle.cxx_hierarchy.specs.Classes.{Classes, members_of, leaf_type, width_of_member}
use Rattle.cxx_syntax.specs.declared.source_text.Init.{Init}
use Rattle.cxx_program.specs.declared.operand.Conversion.{Conversion}
use Rattle.cxx_program.specs.declared.operand.Conversion.TheVariants as conversion
use Rattle.cxx_program.specs.declared.operand.TypedOperand.{TypedOperand}
use Rattle.cxx_program.specs.declared.program.TypedInit.{TypedInit}
use Rattle.cxx_expression.specs.Values.{constant_of, fitted}
use Rattle.cxx_expression.specs.declared.typed.Value.{Value}

-- the number of the member that the class itself declares under a name
abbrev pub member_number : Classes → ClassId → Text → Option ℕ
member_number h c name = position (λ (m : Member ClassId). bytes_eq m.name name) (members_of h c)

-- a constant becomes a number of any type, and a null pointer where it is a null pointer constant (ISO C++03 4.7, 4.10)
abbrev pub constant_conversion : Value → ValueType ClassId → Option Conversion
constant_conversion v (Number t) = Some (conversion.Number t)
constant_conversion v (Pointer d) = if v.is_null then Some conversion.Null else None

-- a bit-field keeps the low bits of the number (ISO C++03 9.6)
abbrev pub initialized : ℕ → Option ℕ → TypedOperand → Option Conversion → Option TypedInit
initialized m width x None = None
initialized m width x (Some c) = Some (record { member = m; operand = x; conversion = fitted width c })

-- a member that is a number or a pointer, the first time
abbrev pub init_once : ℕ → Option ℕ → Value → Option (ValueType ClassId) → Bool → Option TypedInit
init_once m width v None again = None
init_once m width v (Some ty) true = None
init_once m width v (Some ty) false = initialized m width v.operand (constant_conversion v ty)

abbrev pub init_at : Classes → ClassId → List TypedInit → Value → Option ℕ → Option TypedInit
init_at h c before v None = None
init_at h c before v (Some m) = init_once m (width_of_member h c m) v (leaf_type h c m) (list_any (λ (x : TypedInit). nat_eq x.member m) before)

abbrev pub good_init : ℕ → Option TypedInit → Result TypedInit Stop
good_init at None = Err (Refused BadInitializer at)
good_init at (Some x) = Ok x

-- E8: it names no member of this class that is a number or a pointer and no array, or one again, or gives a pointer
-- something else than a null pointer constant
unfoldable pub init_of : Classes → ClassId → List TypedInit → Init → Result TypedInit Stop
init_of h c before i = good_init i.name.at (init_at h c before (constant_of i.value) (member_number h c i.name.name))
