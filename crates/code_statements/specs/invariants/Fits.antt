-- What right sides and statements need: their numbers fit, and their bases are there. Every statement of a typed program within the limits has it.
use Rattle.std.specs.Prelude.{◌≡◌, ℕ, ◌<◌, ◌≤◌, true, Option, Some, None, Contains, length}
use Rattle.std.specs.List.{AllByRecursion}
use Rattle.cxx_hierarchy.specs.declared.records.ClassId.{ClassId}
use Rattle.cxx_hierarchy.specs.Classes.{Classes}
use Rattle.cxx_hierarchy.specs.Limits.{most_parameters}
use Rattle.cxx_subobject.specs.declared.Subobject.{Subobject}
use Rattle.cxx_subobject.specs.Subobjects.{class_of}
use Rattle.cxx_overrider.specs.Functions.{return_of, pointee}
use Rattle.cxx_overrider.specs.Virtuals.{own}
use Rattle.cxx_program.specs.declared.statement.Converted.{Converted}
use Rattle.cxx_program.specs.declared.statement.TypedCast.{TypedCast}
use Rattle.cxx_program.specs.declared.statement.TypedCast.TheVariants.{Same as SameClass, Up, Down, Dynamic}
use Rattle.cxx_program.specs.declared.statement.TypedCall.{TypedCall}
use Rattle.cxx_program.specs.declared.statement.TypedRight.{TypedRight}
use Rattle.cxx_program.specs.declared.statement.TypedRight.TheVariants.{Operand, Arithmetic, SamePointer, Not, Read, Address, Call, New, Cast, TypeEqual}
use Rattle.cxx_program.specs.Typed.{Scope}
use Rattle.path_model.specs.Outs.{class_or_first}
use Rattle.code_ops.specs.Operands.{pointed, operand_class}
use Rattle.code_ops.specs.PlaceOps.{type_or_int, element_type_at}
use Rattle.code_statements.specs.Rights.{cast_class, through_class}
use Rattle.cxx_program.specs.declared.operand.Argument.{Argument}
use Rattle.cxx_program.specs.declared.statement.TypedKind.{TypedKind}
use Rattle.cxx_program.specs.declared.statement.TypedKind.TheVariants.{Declare, Assign, Write, Copy, Call as CallKind, Delete, If, While, Return, Print, PrintType, PrintView, Dump}
use Rattle.cxx_program.specs.declared.program.Owner.{Owner}
use Rattle.cxx_program.specs.declared.program.Owner.TheVariants.{Main, Function, Constructor, Destructor}
use Rattle.path_plan.specs.declared.form.Form.TheVariants.{InFull}
use Rattle.code_ops.specs.declared.routines.Course.TheVariants.{Constructs, Destroys}
use Rattle.code_ops.specs.Setups.{Routine, MainCode, FunctionCode, PlanCode}
use Rattle.code_ops.specs.invariants.Fits.{most_local_registers, FitsVariable, FitsOperand, FitsBase, FitsConversion, FitsArgument, FitsPlace}

abbrev pub FitsCast : Classes → ClassId → TypedCast → Type 0
FitsCast h c SameClass = Unit {0}
FitsCast h c (Up i) = FitsBase h c i
FitsCast h c (Down target i) = FitsBase h target i
FitsCast h c (Dynamic target) = target.0 < length h

abbrev pub FitsWay : Classes → ClassId → Option Subobject → Type 0
FitsWay h c None = Unit {0}
FitsWay h c (Some i) = FitsBase h c i

pub record FitsCall (h : Classes) (e : Scope) (call : TypedCall) : Type 0 where
  pub pointer : FitsOperand call.pointer
  pub way : FitsWay h call.class call.qualifier
  pub base : FitsBase h (through_class call) call.base
  pub arguments : AllByRecursion (FitsArgument h e) call.arguments
  pub few : length call.arguments ≤ most_parameters
  pub dispatched : call.is_dispatched ≡ true → Contains (own h call.function.class) call.function

abbrev pub FitsRight : Classes → Scope → TypedRight → Type 0
FitsRight h e (Operand p) = FitsOperand p
FitsRight h e (Arithmetic op t p q) = FitsOperand p × FitsOperand q
FitsRight h e (SamePointer differ p q) = FitsArgument h e p × FitsArgument h e q
FitsRight h e (Not p) = FitsOperand p
FitsRight h e (Read place) = FitsPlace h place
FitsRight h e (Address place d) = FitsPlace h place
FitsRight h e (Call call) = FitsCall h e call
FitsRight h e (New d) = d.0 < length h
FitsRight h e (Cast cast p) = FitsOperand p × FitsCast h (class_or_first (operand_class e p)) cast
FitsRight h e (TypeEqual p d) = FitsOperand p

-- the class to which a right side points, if it is a pointer
abbrev pub right_class : Classes → Scope → TypedRight → Option ClassId
right_class h e (Operand p) = operand_class e p
right_class h e (Arithmetic op t p q) = None
right_class h e (SamePointer differ p q) = None
right_class h e (Not p) = None
right_class h e (Read place) = pointed (type_or_int (element_type_at h (class_or_first (class_of place.base)) place.member))
right_class h e (Address place d) = Some d
right_class h e (Call call) = pointee (return_of h call.function)
right_class h e (New d) = Some d
right_class h e (Cast cast p) = Some (cast_class cast (class_or_first (operand_class e p)))
right_class h e (TypeEqual p d) = None

pub record FitsConverted (h : Classes) (e : Scope) (v : Converted) : Type 0 where
  pub right : FitsRight h e v.right
  pub conversion : FitsConversion h (right_class h e v.right) v.conversion

abbrev pub FitsDeclared : Classes → Scope → Option Converted → Type 0
FitsDeclared h e None = Unit {0}
FitsDeclared h e (Some v) = FitsConverted h e v

abbrev pub FitsReturnedValue : Classes → Scope → Option Argument → Type 0
FitsReturnedValue h e None = Unit {0}
FitsReturnedValue h e (Some a) = FitsArgument h e a

-- statement n of a body, whose numbers are at most `most`
abbrev pub FitsKind : Classes → Scope → (most n : ℕ) → TypedKind → Type 0
FitsKind h e most n (Declare m v) = (m < most_local_registers) × FitsDeclared h e v
FitsKind h e most n (Assign variable v) = FitsVariable variable × FitsConverted h e v
FitsKind h e most n (Write place a) = FitsPlace h place × FitsArgument h e a
FitsKind h e most n (Copy to from c) = FitsOperand to × FitsOperand from × (c.0 < length h)
FitsKind h e most n (CallKind call) = FitsCall h e call
FitsKind h e most n (Delete p c) = FitsOperand p × (c.0 < length h)
FitsKind h e most n (If p other behind) = FitsOperand p × (n < most) × (other ≤ most) × (behind ≤ most)
FitsKind h e most n (While p behind) = FitsOperand p × (n < most) × (behind ≤ most)
FitsKind h e most n (Return a) = FitsReturnedValue h e a
FitsKind h e most n (Print p) = FitsOperand p
FitsKind h e most n (PrintType p c) = FitsOperand p
FitsKind h e most n (PrintView p c) = FitsOperand p
FitsKind h e most n (Dump p c) = FitsOperand p

-- a routine with the body of an owner; what a `return` does depends on no more
abbrev pub routine_of : Owner → Routine
routine_of Main = MainCode
routine_of (Function f) = FunctionCode f
routine_of (Constructor c) = PlanCode Constructs InFull c
routine_of (Destructor c) = PlanCode Destroys InFull c
