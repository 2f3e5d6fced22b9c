-- What a statement is given: objects that are settled, and values and paths of the classes that it names.
use Rattle.std.specs.Prelude.{◌≡◌, ℕ, Option, Some, None, [], ◌∷◌, ◌++◌, slice_get}
use Rattle.cxx_hierarchy.specs.declared.records.ClassId.{ClassId}
use Rattle.cxx_hierarchy.specs.Classes.{Classes}
use Rattle.cxx_subobject.specs.declared.Subobject.{Subobject}
use Rattle.cxx_subobject.specs.Subobjects.{IsSubobject, class_of, whole_of}
use Rattle.cxx_program.specs.declared.operand.Conversion.{Conversion}
use Rattle.cxx_program.specs.declared.operand.Conversion.TheVariants.{Number as ToNumber, Bits as ToBits, Null as ToNull, Same as ToSame, Base as ToBase}
use Rattle.cxx_program.specs.declared.operand.Argument.{Argument}
use Rattle.cxx_program.specs.declared.statement.TypedPlace.{TypedPlace}
use Rattle.cxx_program.specs.declared.statement.TypedCast.{TypedCast}
use Rattle.cxx_program.specs.declared.statement.TypedCast.TheVariants.{Same as SameClass, Up, Down, Dynamic}
use Rattle.cxx_program.specs.declared.statement.TypedCall.{TypedCall}
use Rattle.cxx_program.specs.declared.statement.TypedRight.{TypedRight}
use Rattle.cxx_program.specs.declared.statement.TypedRight.TheVariants.{Operand, Arithmetic, SamePointer, Not, Read, Address, Call as CallRight, New, Cast, TypeEqual}
use Rattle.cxx_program.specs.declared.statement.Converted.{Converted}
use Rattle.cxx_program.specs.declared.statement.TypedKind.{TypedKind}
use Rattle.cxx_program.specs.declared.statement.TypedKind.TheVariants.{Declare, Assign, Write, Copy, Call, Delete, If, While, Return, Print, PrintType, PrintView, Dump}
pub use Rattle.cxx_program.specs.Typed.{IsProperBase, IsPassed, IsPath}
use Rattle.path_plan.specs.Views.{Settled}
use Rattle.path_model.specs.Values.{Value, Unset, Number, Null, Pointer, Objects, Sight, value_of_operand}
use Rattle.path_model.specs.Places.{last_passed}
use Rattle.path_model.specs.Uses.{Wanted}

-- each object that was made is settled
abbrev pub AllSettled : Classes → Objects → Type 0
AllSettled h s = (k : ℕ) (c : ClassId) → slice_get s.classes k ≡ Some c → Settled h k s.phases

-- a pointer is one to the class c, into an object that was made; of other values nothing is said
abbrev pub IsOf : Objects → Value → ClassId → Type 0
IsOf s Unset c = Unit {0}
IsOf s (Number z) c = Unit {0}
IsOf s Null c = Unit {0}
IsOf s (Pointer p) c = (class_of p.at ≡ Some c) × ((d : ClassId) × (slice_get s.classes p.object ≡ Some d))

-- a conversion from the class c to the class d
abbrev pub ConvertsClass : Classes → ClassId → Conversion → ClassId → Type 0
ConvertsClass h c (ToNumber t) d = c ≡ d
ConvertsClass h c (ToBits t n) d = c ≡ d
ConvertsClass h c ToNull d = c ≡ d
ConvertsClass h c ToSame d = c ≡ d
ConvertsClass h c (ToBase i) d = IsProperBase h c i d

-- the pointer of the place is of its class, and its path is one
abbrev pub IsPlaceAt : Classes → Sight → TypedPlace → Type 0
IsPlaceAt h s place = IsOf s.objects (value_of_operand s place.pointer) place.class × IsPath h place.class place.passed place.base

-- the last member of the place is of class d
abbrev pub IsAddressAt : Classes → Sight → TypedPlace → ClassId → Type 0
IsAddressAt h s place d = IsPlaceAt h s place × IsPath h place.class (place.passed ++ last_passed place d ∷ []) (whole_of d)

-- only a cast to a base needs that the base is one
abbrev pub IsCastFrom : Classes → ClassId → TypedCast → Type 0
IsCastFrom h c SameClass = Unit {0}
IsCastFrom h c (Up i) = (d : ClassId) × IsProperBase h c i d
IsCastFrom h c (Down target i) = Unit {0}
IsCastFrom h c (Dynamic target) = Unit {0}

-- the class before `::` is a base
abbrev pub IsQualifyingBase : Classes → ClassId → Option Subobject → Type 0
IsQualifyingBase h c None = Unit {0}
IsQualifyingBase h c (Some i) = IsSubobject h c i

-- the pointer of the call is of its class, and so is what stands before `::`
abbrev pub IsCallAt : Classes → Sight → TypedCall → Type 0
IsCallAt h s call = IsOf s.objects (value_of_operand s call.pointer) call.class × IsQualifyingBase h call.class call.qualifier

-- what a right side is given
abbrev pub IsRight : Classes → Sight → TypedRight → Type 0
IsRight h s (Operand x) = Unit {0}
IsRight h s (Arithmetic op t x y) = Unit {0}
IsRight h s (SamePointer differ a b) = Unit {0}
IsRight h s (Not x) = Unit {0}
IsRight h s (Read place) = IsPlaceAt h s place
IsRight h s (Address place d) = IsAddressAt h s place d
IsRight h s (CallRight call) = IsCallAt h s call
IsRight h s (New d) = Unit {0}
IsRight h s (Cast cast x) = (c : ClassId) × IsOf s.objects (value_of_operand s x) c × IsCastFrom h c cast
IsRight h s (TypeEqual x d) = Unit {0}

-- what a declaration is given
abbrev pub IsDeclarationAt : Classes → Sight → Option Converted → Type 0
IsDeclarationAt h s None = Unit {0}
IsDeclarationAt h s (Some x) = IsRight h s x.right

-- the result, of a class c, is converted to the function's class, to that of the declaration found, and to the variable's
abbrev pub IsReturn : Classes → Sight → Wanted → Option Argument → Type 0
IsReturn h s w None = Unit {0}
IsReturn h s w (Some a) = (c d e f : ClassId) × IsOf s.objects (value_of_operand s a.operand) c × ConvertsClass h c a.conversion d × ConvertsClass h d w.found e × ConvertsClass h e w.target f

-- only places, casts to a base, copies, calls and returns need classes
abbrev pub IsStatementAt : Classes → Sight → Wanted → TypedKind → Type 0
IsStatementAt h s w (Declare n x) = IsDeclarationAt h s x
IsStatementAt h s w (Assign variable x) = IsRight h s x.right
IsStatementAt h s w (Write place x) = IsPlaceAt h s place
IsStatementAt h s w (Copy to from c) = IsOf s.objects (value_of_operand s to) c × IsOf s.objects (value_of_operand s from) c
IsStatementAt h s w (Call call) = IsCallAt h s call
IsStatementAt h s w (Delete x c) = Unit {0}
IsStatementAt h s w (If x other behind) = Unit {0}
IsStatementAt h s w (While x behind) = Unit {0}
IsStatementAt h s w (Return x) = IsReturn h s w x
IsStatementAt h s w (Print x) = Unit {0}
IsStatementAt h s w (PrintType x c) = Unit {0}
IsStatementAt h s w (PrintView x c) = Unit {0}
IsStatementAt h s w (Dump x c) = Unit {0}
