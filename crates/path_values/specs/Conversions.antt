-- When a value can be converted: a pointer that is moved to a base has begun, and the base is a subobject of its class.
use Rattle.std.specs.Prelude.{◌≡◌, Option, Some, None}
use Rattle.cxx_hierarchy.specs.declared.records.ClassId.{ClassId}
use Rattle.cxx_hierarchy.specs.Classes.{Classes}
use Rattle.cxx_subobject.specs.declared.Subobject.{Subobject}
use Rattle.cxx_subobject.specs.Subobjects.{IsSubobject, class_of}
use Rattle.cxx_subobject.specs.Locations.{ObjectPart}
use Rattle.cxx_program.specs.declared.operand.Conversion.{Conversion}
use Rattle.cxx_program.specs.declared.operand.Conversion.TheVariants.{Number as ToNumber, Bits as ToBits, Null as ToNull, Same as ToSame, Base as ToBase}
use Rattle.path_model.specs.Values.{Value, Unset, Number, Null, Pointer, Objects}
use Rattle.path_heap.specs.Stands.{HasBegun}

-- the part has begun, and i is a subobject of its class
pub record HasBase (h : Classes) (s : Objects) (p : ObjectPart) (i : Subobject) : Type 0 where
  pub begun : HasBegun s p
  pub class : ClassId
  pub of_class : class_of p.at ≡ Some class
  pub valid : IsSubobject h class i

-- the same of the part that a value names, if it names one
abbrev pub CanReach : Classes → Objects → Value → Subobject → Type 0
CanReach h s Unset i = Unit {0}
CanReach h s (Number z) i = Unit {0}
CanReach h s Null i = Unit {0}
CanReach h s (Pointer p) i = HasBase h s p i

-- a conversion asks only of a pointer, and only where it leads to a base
abbrev pub CanConvert : Classes → Objects → Value → Conversion → Type 0
CanConvert h s v (ToNumber t) = Unit {0}
CanConvert h s v (ToBits t n) = Unit {0}
CanConvert h s v ToNull = Unit {0}
CanConvert h s v ToSame = Unit {0}
CanConvert h s v (ToBase i) = CanReach h s v i

-- the way to the class before `::`, where one stands there
abbrev pub CanGo : Classes → Objects → Value → Option Subobject → Type 0
CanGo h s v None = Unit {0}
CanGo h s v (Some i) = CanReach h s v i
