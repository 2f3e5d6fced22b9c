-- When a program is typed: each operand, place, conversion, call and result has the type that is wanted (ISO C++03 4, 5, 6, 12.6.2).
use Rattle.std.specs.Prelude.{◌≡◌, ◌≢◌, ℕ, ℤ, pos, ◌<◌, ◌≤◌, Bool, true, false, Option, Some, None, List, [], ◌∷◌, ◌++◌, Contains, length, map, slice_get}
use Rattle.std.specs.List.{AllZip}
use Rattle.cxx_hierarchy.specs.declared.records.ClassId.{ClassId}
use Rattle.cxx_hierarchy.specs.declared.records.Scalar.{Scalar}
use Rattle.cxx_hierarchy.specs.declared.records.Scalar.TheVariants.{Bool as TheBool, Int}
use Rattle.cxx_hierarchy.specs.declared.records.ValueType.{ValueType}
use Rattle.cxx_hierarchy.specs.declared.records.ValueType.TheVariants.{Number as NumberType, Pointer as PointerType}
use Rattle.cxx_hierarchy.specs.declared.records.FieldType.{FieldType}
use Rattle.cxx_hierarchy.specs.declared.records.FieldType.TheVariants.{Value as ValueField, Object}
use Rattle.cxx_hierarchy.specs.declared.records.ReturnType.{ReturnType}
use Rattle.cxx_hierarchy.specs.declared.records.ReturnType.TheVariants.{Void, Value as ValueReturn}
use Rattle.cxx_hierarchy.specs.declared.records.Param.{Param}
use Rattle.cxx_hierarchy.specs.declared.records.Function.{Function}
use Rattle.cxx_hierarchy.specs.Scalars.{IsInRange, common_type}
use Rattle.cxx_hierarchy.specs.Declarations.{is_implicit, has_virtual_function}
use Rattle.cxx_hierarchy.specs.Classes.{Class, Classes, class_at, leaf_type, width_of_member}
use Rattle.cxx_subobject.specs.declared.Root.TheVariants.{Whole}
use Rattle.cxx_subobject.specs.declared.Subobject.{Subobject}
use Rattle.cxx_subobject.specs.Subobjects.{IsSubobject, class_of, whole_of}
use Rattle.cxx_subobject.specs.Locations.{IsElement}
use Rattle.cxx_overrider.specs.Functions.{declaration_of}
use Rattle.cxx_overrider.specs.Virtuals.{is_virtual}
use Rattle.cxx_overrider.specs.Overriding.{HasPart}
use Rattle.cxx_program.specs.declared.operand.Variable.{Variable}
use Rattle.cxx_program.specs.declared.operand.Variable.TheVariants.{Global, Local}
use Rattle.cxx_program.specs.declared.operand.TypedOperand.{TypedOperand}
use Rattle.cxx_program.specs.declared.operand.TypedOperand.TheVariants.{Variable as VariableOperand, This, Number as NumberOperand}
use Rattle.cxx_program.specs.declared.operand.Conversion.{Conversion}
use Rattle.cxx_program.specs.declared.operand.Conversion.TheVariants.{Number as ToNumber, Bits as ToBits, Null as ToNull, Same as ToSame, Base as ToBase}
use Rattle.cxx_program.specs.declared.operand.Argument.{Argument}
use Rattle.cxx_program.specs.declared.statement.PassedMember.{PassedMember}
use Rattle.cxx_program.specs.declared.statement.TypedPlace.{TypedPlace}
use Rattle.cxx_program.specs.declared.statement.TypedCast.{TypedCast}
use Rattle.cxx_program.specs.declared.statement.TypedCast.TheVariants.{Same as SameClass, Up, Down, Dynamic}
use Rattle.cxx_program.specs.declared.statement.TypedCall.{TypedCall}
use Rattle.cxx_program.specs.declared.statement.Arithmetic.{Arithmetic as Operator}
use Rattle.cxx_program.specs.declared.statement.Arithmetic.TheVariants.{Add, Subtract, Multiply, Less, LessEqual, Equal, NotEqual}
use Rattle.cxx_program.specs.declared.statement.TypedRight.{TypedRight}
use Rattle.cxx_program.specs.declared.statement.TypedRight.TheVariants.{Operand, Arithmetic, SamePointer, Not, Read, Address, Call as CallRight, New, Cast, TypeEqual}
use Rattle.cxx_program.specs.declared.statement.Converted.{Converted}
use Rattle.cxx_program.specs.declared.statement.TypedKind.{TypedKind}
use Rattle.cxx_program.specs.declared.statement.TypedKind.TheVariants.{Declare, Assign, Write, Copy, Call, Delete, If, While, Return, Print, PrintType, PrintView, Dump}
use Rattle.cxx_program.specs.declared.statement.TypedStatement.{TypedStatement}
use Rattle.cxx_program.specs.declared.program.Owner.{Owner}
use Rattle.cxx_program.specs.declared.program.Owner.TheVariants.{Main, Function as FunctionBody, Constructor, Destructor}
use Rattle.cxx_program.specs.declared.program.TypedInit.{TypedInit}
use Rattle.cxx_program.specs.declared.program.TypedBody.{TypedBody}
use Rattle.cxx_program.specs.declared.program.TypedProgram.{TypedProgram}

abbrev pub Types : Type 0
Types = List (ValueType ClassId)

-- classes

-- i is a base subobject of c, of class d, and not c itself
pub record IsProperBase (h : Classes) (c : ClassId) (i : Subobject) (d : ClassId) : Type 0 where
  pub valid : IsSubobject h c i
  pub class : class_of i ≡ Some d
  pub proper : i ≡ whole_of c → ⊥

-- c declares or inherits a virtual function; a virtual destructor is one (ISO C++03 10.3 p1)
pub record IsPolymorphic (h : Classes) (c : ClassId) : Type 0 where
  pub source : ClassId
  pub part : HasPart h c source
  pub class : Class
  pub there : class_at h source ≡ Some class
  pub declares : has_virtual_function class ≡ true

-- a pointer is one to a class of the source
abbrev pub IsKnown : Classes → ValueType ClassId → Type 0
IsKnown h (NumberType t) = Unit {0}
IsKnown h (PointerType c) = c.0 < length h

-- operands

-- what the statements of a body may name: the types of the globals and of the body's locals, the class of `this`, and what a
-- `return` gives; none where no `return` may stand
pub record Scope : Type 0 where
  pub globals : Types
  pub locals : Types
  pub this : Option ClassId
  pub returns : Option (ReturnType ClassId)

abbrev pub variable_type : Scope → Variable → Option (ValueType ClassId)
variable_type e (Global n) = slice_get e.globals n
variable_type e (Local n) = slice_get e.locals n

-- the operand has the type; a number has each number type that it is in the range of
pub data HasType (e : Scope) : TypedOperand → ValueType ClassId → Type 0 where
  of_variable : (x : Variable) (t : ValueType ClassId) → variable_type e x ≡ Some t → HasType e (VariableOperand x) t
  of_this : (c : ClassId) → e.this ≡ Some c → HasType e This (PointerType c)
  of_number : (z : ℤ) (t : Scalar) → IsInRange t z → HasType e (NumberOperand z) (NumberType t)

-- a value of the one type becomes one of the other (ISO C++03 4.5, 4.7, 4.10, 4.12)
pub data Converts (h : Classes) : ValueType ClassId → Conversion → ValueType ClassId → Type 0 where
  to_number : (s t : Scalar) → Converts h (NumberType s) (ToNumber t) (NumberType t)
  to_same : (t : ValueType ClassId) → Converts h t ToSame t
  to_base : (c d : ClassId) (i : Subobject) → IsProperBase h c i d → Converts h (PointerType c) (ToBase i) (PointerType d)

abbrev pub zero_operand : TypedOperand
zero_operand = NumberOperand (pos 0)

-- the operand becomes a value of the type; the number 0 becomes a null pointer (ISO C++03 4.10)
pub data IsArgument (h : Classes) (e : Scope) : Argument → ValueType ClassId → Type 0 where
  a_value : (a : Argument) (s t : ValueType ClassId) → HasType e a.operand s → Converts h s a.conversion t → IsArgument h e a t
  a_null : (d : ClassId) → IsArgument h e (record { operand = zero_operand; conversion = ToNull }) (PointerType d)

-- the operand becomes what a leaf of the type keeps: a value of the type, or in a bit-field of n bits what these keep of a number
-- (ISO C++03 5.17, 9.6)
pub data IsKept (h : Classes) (e : Scope) : Option ℕ → Argument → ValueType ClassId → Type 0 where
  whole : (a : Argument) (t : ValueType ClassId) → IsArgument h e a t → IsKept h e None a t
  in_bits : (a : Argument) (n : ℕ) (s t : Scalar) → HasType e a.operand (NumberType s) → a.conversion ≡ ToBits t n → IsKept h e (Some n) a (NumberType t)

-- places

-- a path may pass through x from a part of class c: a subobject of c declares the member, which has the element and the class
pub record IsPassed (h : Classes) (c : ClassId) (x : PassedMember) : Type 0 where
  pub valid : IsSubobject h c x.base
  pub class : ClassId
  pub of_class : class_of x.base ≡ Some class
  pub element : IsElement h class x.member x.index (Object x.class)

-- a path from a part of class c, whose last name is in the subobject `last`
abbrev pub IsPath : Classes → ClassId → List PassedMember → Subobject → Type 0
IsPath h c [] last = IsSubobject h c last
IsPath h c (x ∷ rest) last = IsPassed h c x × IsPath h x.class rest last

-- the place leads to a member or an element of this type (ISO C++03 5.2.5)
pub record IsPlace (h : Classes) (e : Scope) (place : TypedPlace) (type : FieldType ClassId) : Type 0 where
  pub pointer : HasType e place.pointer (PointerType place.class)
  pub path : IsPath h place.class place.passed place.base
  pub class : ClassId
  pub of_class : class_of place.base ≡ Some class
  pub element : IsElement h class place.member place.index type

-- the width of the member in a class that may be none
abbrev pub width_within : Classes → Option ClassId → ℕ → Option ℕ
width_within h None m = None
width_within h (Some d) m = width_of_member h d m

-- the width of the member that the place leads to, where it is a bit-field (ISO C++03 9.6)
abbrev pub place_width : Classes → TypedPlace → Option ℕ
place_width h place = width_within h (class_of place.base) place.member

-- casts

-- the cast leads from a pointer to c to one to d: down where c is a base of d by a path through no virtual base
-- (ISO C++03 5.2.7, 5.2.9, 5.4)
pub data Casts (h : Classes) : ClassId → TypedCast → ClassId → Type 0 where
  cast_same : (c : ClassId) → Casts h c SameClass c
  cast_up : (c d : ClassId) (i : Subobject) → IsProperBase h c i d → Casts h c (Up i) d
  cast_down : (c d : ClassId) (i : Subobject) → IsProperBase h d i c → i.root ≡ Whole → d.0 < length h → Casts h c (Down d i) d
  cast_dynamic : (c d : ClassId) → IsPolymorphic h c → d.0 < length h → Casts h c (Dynamic d) d

-- calls

-- a pointer to c is converted to one to k, the class before `::`, where one stands there
abbrev pub IsWay : Classes → ClassId → Option Subobject → ClassId → Type 0
IsWay h c None k = c ≡ k
IsWay h c (Some i) k = IsProperBase h c i k

abbrev pub parameter_types : Function ClassId → Types
parameter_types f = map (λ (p : Param ClassId). p.ty) f.params

-- a call of the function that f declares, found in a subobject of the class before `::` or of the pointer's; what a class
-- before `::` names runs itself, and is not pure (ISO C++03 5.2.2, 10.3 p12)
pub record IsCall (h : Classes) (e : Scope) (call : TypedCall) (f : Function ClassId) : Type 0 where
  pub pointer : HasType e call.pointer (PointerType call.class)
  pub through : ClassId
  pub way : IsWay h call.class call.qualifier through
  pub base : IsSubobject h through call.base
  pub of_class : class_of call.base ≡ Some call.function.class
  pub declared : declaration_of h call.function ≡ Some f
  pub arguments : AllZip (IsArgument h e) call.arguments (parameter_types f)
  pub dispatched : call.is_dispatched ≡ true → (call.qualifier ≡ None) × (is_virtual h call.function ≡ true)
  pub defined : call.is_dispatched ≡ false → f.is_pure ≡ false

-- right sides

-- a sum, difference or product is of the type of its operands, and a comparison is true or false (ISO C++03 5.6, 5.7, 5.9, 5.10)
abbrev pub calculated_type : Operator → Scalar → Scalar
calculated_type Add t = t
calculated_type Subtract t = t
calculated_type Multiply t = t
calculated_type Less t = TheBool
calculated_type LessEqual t = TheBool
calculated_type Equal t = TheBool
calculated_type NotEqual t = TheBool

-- the right side has the type
pub data HasRight (h : Classes) (e : Scope) : TypedRight → ValueType ClassId → Type 0 where
  an_operand : (x : TypedOperand) (t : ValueType ClassId) → HasType e x t → HasRight h e (Operand x) t
  a_calculation : (op : Operator) (s t : Scalar) (x y : TypedOperand) →
      HasType e x (NumberType s) → HasType e y (NumberType t) → HasRight h e (Arithmetic op (common_type s t) x y) (NumberType (calculated_type op (common_type s t)))
  a_comparison : (differ : Bool) (a b : Argument) (c : ClassId) →
      IsArgument h e a (PointerType c) → IsArgument h e b (PointerType c) → HasRight h e (SamePointer differ a b) (NumberType TheBool)
  a_negation : (x : TypedOperand) (t : Scalar) → HasType e x (NumberType t) → HasRight h e (Not x) (NumberType TheBool)
  a_read : (place : TypedPlace) (t : ValueType ClassId) → IsPlace h e place (ValueField t) → HasRight h e (Read place) t
  an_address : (place : TypedPlace) (d : ClassId) → IsPlace h e place (Object d) → HasRight h e (Address place d) (PointerType d)
  a_result : (call : TypedCall) (f : Function ClassId) (t : ValueType ClassId) → IsCall h e call f → f.ret ≡ ValueReturn t → HasRight h e (CallRight call) t
  an_object : (c : ClassId) → c.0 < length h → HasRight h e (New c) (PointerType c)
  a_cast : (cast : TypedCast) (x : TypedOperand) (c d : ClassId) → HasType e x (PointerType c) → Casts h c cast d → HasRight h e (Cast cast x) (PointerType d)
  a_type_test : (x : TypedOperand) (c d : ClassId) → HasType e x (PointerType c) → IsPolymorphic h c → d.0 < length h → HasRight h e (TypeEqual x d) (NumberType TheBool)

-- the right side becomes a value of the type; the number 0 becomes a null pointer
pub data IsConverted (h : Classes) (e : Scope) : Converted → ValueType ClassId → Type 0 where
  a_right : (x : Converted) (s t : ValueType ClassId) → HasRight h e x.right s → Converts h s x.conversion t → IsConverted h e x t
  a_null_right : (d : ClassId) → IsConverted h e (record { right = Operand zero_operand; conversion = ToNull }) (PointerType d)

-- statements

-- what a statement names has the types that it wants
pub data IsTyped (h : Classes) (e : Scope) : TypedKind → Type 0 where
  declares : (n : ℕ) (t : ValueType ClassId) → slice_get e.locals n ≡ Some t → IsTyped h e (Declare n None)
  begins : (n : ℕ) (x : Converted) (t : ValueType ClassId) → slice_get e.locals n ≡ Some t → IsConverted h e x t → IsTyped h e (Declare n (Some x))
  assigns : (variable : Variable) (x : Converted) (t : ValueType ClassId) → variable_type e variable ≡ Some t → IsConverted h e x t → IsTyped h e (Assign variable x)
  writes : (place : TypedPlace) (x : Argument) (t : ValueType ClassId) → IsPlace h e place (ValueField t) → IsKept h e (place_width h place) x t → IsTyped h e (Write place x)
  copies : (to from : TypedOperand) (c : ClassId) → HasType e to (PointerType c) → HasType e from (PointerType c) → IsTyped h e (Copy to from c)
  calls : (call : TypedCall) (f : Function ClassId) → IsCall h e call f → IsTyped h e (Call call)
  deletes : (x : TypedOperand) (c : ClassId) → HasType e x (PointerType c) → IsTyped h e (Delete x c)
  branches : (x : TypedOperand) (t : Scalar) (other behind : ℕ) → HasType e x (NumberType t) → IsTyped h e (If x other behind)
  repeats : (x : TypedOperand) (t : Scalar) (behind : ℕ) → HasType e x (NumberType t) → IsTyped h e (While x behind)
  returns_nothing : e.returns ≡ Some Void → IsTyped h e (Return None)
  returns_value : (a : Argument) (t : ValueType ClassId) → e.returns ≡ Some (ValueReturn t) → IsArgument h e a t → IsTyped h e (Return (Some a))
  prints : (x : TypedOperand) (t : ValueType ClassId) → HasType e x t → IsTyped h e (Print x)
  prints_type : (x : TypedOperand) (c : ClassId) → HasType e x (PointerType c) → IsPolymorphic h c → IsTyped h e (PrintType x c)
  prints_view : (x : TypedOperand) (c : ClassId) → HasType e x (PointerType c) → IsPolymorphic h c → IsTyped h e (PrintView x c)
  dumps : (x : TypedOperand) (c : ClassId) → HasType e x (PointerType c) → IsTyped h e (Dump x c)

-- the numbers to which the condition of statement n leads stand behind it in turn, and within a body of `size` statements
abbrev pub IsWithin : (size n : ℕ) → TypedKind → Type 0
IsWithin size n (Declare m x) = Unit {0}
IsWithin size n (Assign variable x) = Unit {0}
IsWithin size n (Write place x) = Unit {0}
IsWithin size n (Copy to from c) = Unit {0}
IsWithin size n (Call call) = Unit {0}
IsWithin size n (Delete x c) = Unit {0}
IsWithin size n (If x other behind) = (n < other) × (other ≤ behind) × (behind ≤ size)
IsWithin size n (While x behind) = (n < behind) × (behind ≤ size)
IsWithin size n (Return x) = Unit {0}
IsWithin size n (Print x) = Unit {0}
IsWithin size n (PrintType x c) = Unit {0}
IsWithin size n (PrintView x c) = Unit {0}
IsWithin size n (Dump x c) = Unit {0}

-- statement n of a body of `size` statements; control goes on within the body, or to its end
pub record IsTypedStatement (h : Classes) (e : Scope) (size n : ℕ) (statement : TypedStatement) : Type 0 where
  pub typed : IsTyped h e statement.kind
  pub next : statement.next ≤ size
  pub within : IsWithin size n statement.kind

-- bodies

-- the class of `this` (ISO C++03 9.3.2)
abbrev pub this_of : Owner → Option ClassId
this_of Main = None
this_of (FunctionBody f) = Some f.class
this_of (Constructor c) = Some c
this_of (Destructor c) = Some c

abbrev pub parameters_in : Option (Function ClassId) → Types
parameters_in None = []
parameters_in (Some f) = parameter_types f

abbrev pub parameters_of : Classes → Owner → Types
parameters_of h Main = []
parameters_of h (FunctionBody f) = parameters_in (declaration_of h f)
parameters_of h (Constructor c) = []
parameters_of h (Destructor c) = []

abbrev pub return_in : Option (Function ClassId) → Option (ReturnType ClassId)
return_in None = None
return_in (Some f) = Some f.ret

-- what a `return` gives: an `int` in `main`; none may stand in a constructor or a destructor (ISO C++03 3.6.1, 6.6.3)
abbrev pub returns_of : Classes → Owner → Option (ReturnType ClassId)
returns_of h Main = Some (ValueReturn (NumberType Int))
returns_of h (FunctionBody f) = return_in (declaration_of h f)
returns_of h (Constructor c) = None
returns_of h (Destructor c) = None

-- the source has such a body: of a function that is not pure, of a declared constructor or destructor
abbrev pub HasBody : Classes → Owner → Type 0
HasBody h Main = Unit {0}
HasBody h (FunctionBody f) = (declared : Function ClassId) × (declaration_of h f ≡ Some declared) × (declared.is_pure ≡ false)
HasBody h (Constructor c) = (class : Class) × (class_at h c ≡ Some class) × (class.has_constructor ≡ true)
HasBody h (Destructor c) = (class : Class) × (class_at h c ≡ Some class) × (is_implicit class.destructor ≡ false)

-- what a constant may name: nothing
abbrev pub no_scope : Scope
no_scope = record { globals = []; locals = []; this = None; returns = None }

-- an initializer of the class c gives a constant to a member that is a number or a pointer (ISO C++03 12.6.2)
pub record IsTypedInit (h : Classes) (c : ClassId) (init : TypedInit) : Type 0 where
  pub type : ValueType ClassId
  pub of_member : leaf_type h c init.member ≡ Some type
  pub value : IsKept h no_scope (width_of_member h c init.member) (record { operand = init.operand; conversion = init.conversion }) type

-- the initializers of a class c: each member once
pub record AreInits (h : Classes) (c : ClassId) (inits : List TypedInit) : Type 0 where
  pub each : (init : TypedInit) → Contains inits init → IsTypedInit h c init
  pub once : (i j : ℕ) (x y : TypedInit) → slice_get inits i ≡ Some x → slice_get inits j ≡ Some y → x.member ≡ y.member → i ≡ j

-- only a constructor has initializers
abbrev pub AreInitsOf : Classes → Owner → List TypedInit → Type 0
AreInitsOf h Main inits = inits ≡ []
AreInitsOf h (FunctionBody f) inits = inits ≡ []
AreInitsOf h (Constructor c) inits = AreInits h c inits
AreInitsOf h (Destructor c) inits = inits ≡ []

-- what a body with these globals may name
abbrev pub scope_of : Classes → Types → TypedBody → Scope
scope_of h globals body = record { globals = globals; locals = body.locals; this = this_of body.owner; returns = returns_of h body.owner }

-- the locals of a body begin with its parameters
pub record IsTypedBody (h : Classes) (globals : Types) (body : TypedBody) : Type 0 where
  pub owner : HasBody h body.owner
  pub known : (t : ValueType ClassId) → Contains body.locals t → IsKnown h t
  pub others : Types
  pub parameters : body.locals ≡ parameters_of h body.owner ++ others
  pub inits : AreInitsOf h body.owner body.inits
  pub statements : (n : ℕ) (statement : TypedStatement) → slice_get body.statements n ≡ Some statement → IsTypedStatement h (scope_of h globals body) (length body.statements) n statement

-- programs

-- each body that the classes declare stands once among the bodies, and `main` apart from them
pub record IsTypedProgram (h : Classes) (program : TypedProgram) : Type 0 where
  pub globals : (t : ValueType ClassId) → Contains program.globals t → IsKnown h t
  pub bodies : (body : TypedBody) → Contains program.bodies body → IsTypedBody h program.globals body
  pub no_main : (body : TypedBody) → Contains program.bodies body → body.owner ≢ Main
  pub once : (i j : ℕ) (x y : TypedBody) → slice_get program.bodies i ≡ Some x → slice_get program.bodies j ≡ Some y → x.owner ≡ y.owner → i ≡ j
  pub complete : (owner : Owner) → owner ≢ Main → HasBody h owner → (body : TypedBody) × Contains program.bodies body × (body.owner ≡ owner)
  pub main : (body : TypedBody) → program.main ≡ Some body → (body.owner ≡ Main) × IsTypedBody h program.globals body
