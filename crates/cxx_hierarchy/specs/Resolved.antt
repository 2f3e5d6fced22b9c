-- Records with each class name replaced by the number of its class.
use Rattle.std.specs.Prelude.{◌≡◌, ◌<◌, Some, ℕ, unwrap_or, List, map}
use Rattle.cxx_hierarchy.specs.declared.records.ClassId.{ClassId}
use Rattle.cxx_hierarchy.specs.declared.records.Base.{Base}
use Rattle.cxx_hierarchy.specs.declared.records.Member.{Member}
use Rattle.cxx_hierarchy.specs.declared.records.Param.{Param}
use Rattle.cxx_hierarchy.specs.declared.records.Function.{Function}
use Rattle.cxx_hierarchy.specs.declared.records.ValueType.{ValueType}
use Rattle.cxx_hierarchy.specs.declared.records.ValueType.TheVariants.{Number, Pointer}
use Rattle.cxx_hierarchy.specs.declared.records.FieldType.{FieldType}
use Rattle.cxx_hierarchy.specs.declared.records.FieldType.TheVariants.{Value as ValueField, Object}
use Rattle.cxx_hierarchy.specs.declared.records.ReturnType.{ReturnType}
use Rattle.cxx_hierarchy.specs.declared.records.ReturnType.TheVariants.{Void, Value as ValueReturn}
use Rattle.cxx_hierarchy.specs.Limits.{most_classes}
use Rattle.cxx_hierarchy.specs.Classes.{Class, Classes}
use Rattle.cxx_hierarchy.specs.NameTables.{Text, place_in, number_in}
use Rattle.cxx_hierarchy.specs.declared.names.NameTable.{NameTable}
use Rattle.cxx_hierarchy.specs.ClassPass.{Record, names_of}

-- what a name refers to
abbrev pub ByName : Type 0
ByName = Text → ClassId

-- the class of a name: its first definition
abbrev pub class_of_name : List Text → ByName
class_of_name all name = record { 0 = unwrap_or (place_in all name) 0 }

abbrev pub resolved_value : ByName → ValueType Text → ValueType ClassId
resolved_value class_of (Number n) = Number n
resolved_value class_of (Pointer name) = Pointer (class_of name)

abbrev pub resolved_field : ByName → FieldType Text → FieldType ClassId
resolved_field class_of (ValueField ty) = ValueField (resolved_value class_of ty)
resolved_field class_of (Object name) = Object (class_of name)

abbrev pub resolved_return : ByName → ReturnType Text → ReturnType ClassId
resolved_return class_of Void = Void
resolved_return class_of (ValueReturn ty) = ValueReturn (resolved_value class_of ty)

abbrev pub resolved_base : ByName → Base Text → Base ClassId
resolved_base class_of b = record { class = class_of b.class; is_virtual = b.is_virtual; is_public = b.is_public; at = b.at }

abbrev pub resolved_member : ByName → Member Text → Member ClassId
resolved_member class_of m = record { name = m.name; ty = resolved_field class_of m.ty; count = m.count; width = m.width; width_at = m.width_at; is_public = m.is_public; at = m.at }

abbrev pub resolved_param : ByName → Param Text → Param ClassId
resolved_param class_of p = record { name = p.name; ty = resolved_value class_of p.ty; ty_at = p.ty_at; at = p.at }

abbrev pub resolved_function : ByName → Function Text → Function ClassId
resolved_function class_of f = record { name = f.name; params = map (resolved_param class_of) f.params; ret = resolved_return class_of f.ret; is_virtual = f.is_virtual; is_pure = f.is_pure; at = f.at }

abbrev pub resolved_class : ByName → Record → Class
resolved_class class_of c = record {
  name = c.name;
  at = c.at;
  bases = map (resolved_base class_of) c.bases;
  members = map (resolved_member class_of) c.members;
  functions = map (resolved_function class_of) c.functions;
  order = c.order;
  has_constructor = c.has_constructor;
  destructor = c.destructor;
}

-- the records with each class name replaced by the number of that class
abbrev pub resolved : List Record → Classes
resolved records = map (resolved_class (class_of_name (names_of records))) records

-- the class that the table has for a name
abbrev pub class_in : NameTable → ByName
class_in table name = record { 0 = unwrap_or (number_in table name) 0 }

-- the numbers of the table are those of classes
pub record NumbersAreSmall (table : NameTable) : Type 0 where
  pub below : (name : Text) (number : ℕ) → number_in table name ≡ Some number → number < most_classes
