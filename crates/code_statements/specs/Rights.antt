-- The ops of right sides. Registers that are free for a block are numbered from 0: the first four have operands, the next ones what is made of them.
use Rattle.std.specs.Prelude.{ℕ, ◌-◌, ◌%◌, ◌^◌, Bool, true, false, ◌||◌, if◌then◌else◌, Option, Some, None, List, [], ◌∷◌, ◌++◌}
use Rattle.cxx_hierarchy.specs.declared.records.ClassId.{ClassId}
use Rattle.cxx_hierarchy.specs.declared.records.ValueType.{ValueType}
use Rattle.cxx_subobject.specs.declared.Subobject.{Subobject}
use Rattle.cxx_subobject.specs.Subobjects.{class_of}
use Rattle.cxx_overrider.specs.declared.FunctionId.{FunctionId}
use Rattle.cxx_overrider.specs.Functions.{return_of, pointee}
use Rattle.cxx_program.specs.declared.operand.TypedOperand.{TypedOperand}
use Rattle.cxx_program.specs.declared.operand.Conversion.{Conversion}
use Rattle.cxx_program.specs.declared.operand.Variable.{Variable}
use Rattle.cxx_program.specs.declared.statement.Arithmetic.{Arithmetic as Operator}
use Rattle.cxx_program.specs.declared.statement.Arithmetic.TheVariants.{Add as Plus, Subtract as Minus, Multiply as Times, Less, LessEqual, Equal, NotEqual}
use Rattle.cxx_program.specs.declared.statement.TypedCast.{TypedCast}
use Rattle.cxx_program.specs.declared.statement.TypedCast.TheVariants.{Same as SameClass, Up, Down, Dynamic}
use Rattle.cxx_program.specs.declared.statement.TypedCall.{TypedCall}
use Rattle.cxx_program.specs.declared.statement.TypedPlace.{TypedPlace}
use Rattle.cxx_program.specs.declared.statement.TypedRight.{TypedRight}
use Rattle.cxx_program.specs.declared.statement.TypedRight.TheVariants.{Operand, Arithmetic, SamePointer, Not, Read, Address, Call, New, Cast, TypeEqual}
use Rattle.path_model.specs.Uses.{is_shared, is_shared_way}
use Rattle.path_model.specs.Outs.{class_or_first}
use Rattle.abi_slots.specs.Listing.{entry_number}
use Rattle.abi_slots.specs.Slots.{first_key}
use Rattle.byte_code.specs.declared.op.ArithKind.{ArithKind}
use Rattle.byte_code.specs.declared.op.ArithKind.TheVariants.{Add as AddKind, Subtract as SubtractKind, Multiply as MultiplyKind, Less as LessKind, LessEqual as LessEqualKind, Equal as EqualKind, NotEqual as NotEqualKind}
use Rattle.byte_code.specs.declared.op.Finish.{Finish}
use Rattle.byte_code.specs.declared.op.Finish.TheVariants.{Add, Move, Check as CheckOp}
use Rattle.byte_code.specs.declared.op.Op.{Op}
use Rattle.byte_code.specs.declared.op.Op.TheVariants.{Does, Const, Arith, TypeOf, Cast as CastOp, CallEntry, CallCode, New as NewOp, Trace}
use Rattle.byte_code.specs.declared.op.TraceKind.TheVariants.{Call as TraceCall}
use Rattle.byte_code.specs.declared.op.ResultUse.{ResultUse}
use Rattle.code_ops.specs.Setups.{Setup, places, Routine, FunctionCode, PlanCode, width_of, word_width}
use Rattle.code_ops.specs.declared.routines.Course.TheVariants.{Constructs}
use Rattle.path_plan.specs.declared.form.Form.TheVariants.{InFull}
use Rattle.code_ops.specs.Operands.{pointed, operand_class, operand_ops, operand_register, base_ops, ops_of}
use Rattle.code_ops.specs.declared.uses.Used.{Used}
use Rattle.code_ops.specs.declared.uses.Used.TheVariants.{ReadsPointer, Guards, Views, Takes, Downs, Overflows}
use Rattle.code_ops.specs.Uses.{check_ops, reads, views_if, convert_used, arrow_used}
use Rattle.code_ops.specs.PlaceOps.{place_ops, place_used, place_type}
use Rattle.code_ops.specs.Leaves.{place_leaf, set_check, load_op}
use Rattle.code_statements.specs.Hints.{hint_of}
use Rattle.code_ops.specs.Arguments.{Block, free, pointed_class, argument_front, argument_used, argument_ops, taken_ops, checked_taken, arguments_front, arguments_used, arguments_ops, arguments_registers}

-- so many bytes back, modulo 2 ^ 64
abbrev pub back_by : ℕ → ℕ
back_by n = (2 ^ 64 - n) % 2 ^ 64

-- arithmetic

abbrev pub arith_kind : Operator → ArithKind
arith_kind Plus = AddKind
arith_kind Minus = SubtractKind
arith_kind Times = MultiplyKind
arith_kind Less = LessKind
arith_kind LessEqual = LessEqualKind
arith_kind Equal = EqualKind
arith_kind NotEqual = NotEqualKind

-- casts: `dynamic_cast` and a cast down make a pointer that is then converted

abbrev pub cast_used : Block → TypedCast → ℕ → TypedOperand → List Used
cast_used b SameClass r p = reads b.scope r p ++ (Guards (operand_register r p) 0 (pointed_class b p).0 ∷ [])
cast_used b (Up i) r p = reads b.scope r p ++ (Guards (operand_register r p) 0 (pointed_class b p).0 ∷ views_if (is_shared i) (operand_register r p) 0 (pointed_class b p))
cast_used b (Down target i) r p = reads b.scope r p ++ (Guards (operand_register r p) 0 (pointed_class b p).0 ∷ Downs (operand_register r p) (back_by ((places b.x).place target i)) target.0 ∷ [])
cast_used b (Dynamic target) r p = reads b.scope r p ++ (Guards (operand_register r p) 0 (pointed_class b p).0 ∷ Views (operand_register r p) 0 (pointed_class b p).0 ∷ [])

abbrev pub cast_ops : Block → TypedCast → (to from : ℕ) → ClassId → List Op
cast_ops b SameClass to from c = Does (Move to from) ∷ []
cast_ops b (Up i) to from c = ops_of (base_ops b.x c i to from)
cast_ops b (Down target i) to from c = Does (Add to from (back_by ((places b.x).place target i))) ∷ []
cast_ops b (Dynamic target) to from c = CastOp to from c.0 target.0 (hint_of b.x.h (places b.x) c target) ∷ []

-- the class to which a cast leads from c
abbrev pub cast_class : TypedCast → ClassId → ClassId
cast_class SameClass c = c
cast_class (Up i) c = class_or_first (class_of i)
cast_class (Down target i) c = target
cast_class (Dynamic target) c = target

-- calls: the pointer is in the first free register, the receiver in the second, the result in the third, and the arguments stand behind

-- the class before `::`, or the pointer's
abbrev pub through_class : TypedCall → ClassId
through_class call = through call.class call.qualifier
  where
    through : ClassId → Option Subobject → ClassId
    through c None = c
    through c (Some i) = class_or_first (class_of i)

abbrev pub qualifier_distance : Block → TypedCall → ℕ
qualifier_distance b call = distance (places b.x).place call.class call.qualifier
  where
    distance : (ClassId → Subobject → ℕ) → ClassId → Option Subobject → ℕ
    distance place c None = 0
    distance place c (Some i) = place c i

-- one look at the view is enough: that of the pointer, else that of the subobject before `::`
abbrev pub call_views : Block → Bool → TypedCall → ℕ → List Used
call_views b true call r = Views r 0 call.class.0 ∷ []
call_views b false call r = views_if (is_shared call.base) r (qualifier_distance b call) (through_class call)

abbrev pub call_used : Block → TypedCall → List Used
call_used b call =
    arrow_used b.scope (free b 0) call.pointer call.class
    ++ (call_views b (call.is_dispatched || is_shared_way call.qualifier) call (operand_register (free b 0) call.pointer) ++ arguments_used b 0 call.arguments)

abbrev pub qualifier_ops : Block → TypedCall → (to from : ℕ) → Option Subobject → List Finish
qualifier_ops b call to from None = Move to from ∷ []
qualifier_ops b call to from (Some i) = base_ops b.x call.class i to from

-- the receiver, in the second free register
abbrev pub receiver_ops : Block → TypedCall → List Finish
receiver_ops b call = qualifier_ops b call (free b 1) (operand_register (free b 0) call.pointer) call.qualifier ++ base_ops b.x (through_class call) call.base (free b 1) (free b 1)

-- the number of the class to which a function's result points
abbrev pub result_class : Setup → FunctionId → Option ℕ
result_class x f = number (pointee (return_of x.h f))
  where
    number : Option ClassId → Option ℕ
    number None = None
    number (Some c) = Some c.0

abbrev pub call_entry : Setup → FunctionId → ℕ
call_entry x f = entry_number x.h (places x) (first_key x.h f)

-- a call by the view, whose entry must run code, or of the function that was found
abbrev pub call_op : Block → (Routine → ℕ) → Bool → TypedCall → ResultUse → List Op
call_op b at true call result = check_ops (Takes (free b 1) (call_entry b.x call.function) ∷ []) ++ (CallEntry (free b 1) (call_entry b.x call.function) (arguments_registers b 0 call.arguments) result ∷ [])
call_op b at false call result = CallCode (at (FunctionCode call.function)) (free b 1) (arguments_registers b 0 call.arguments) result ∷ []

abbrev pub call_front : Block → TypedCall → List Op
call_front b call = operand_ops (free b 0) call.pointer ++ arguments_front b 0 call.arguments

abbrev pub call_ops : Block → (Routine → ℕ) → TypedCall → ResultUse → List Op
call_ops b at call result = ops_of (receiver_ops b call) ++ (ops_of (arguments_ops b 0 call.arguments) ++ (call_op b at call.is_dispatched call result ++ (Trace TraceCall ∷ [])))

-- a result that no variable takes
abbrev pub unused : Setup → FunctionId → ResultUse
unused x f = record { to = None; class = result_class x f; finish = [] }

-- a result that is converted and given to a variable
abbrev pub result_taken : Block → Variable → Option ClassId → Option ℕ → Conversion → ResultUse
result_taken b variable class number conversion = record { to = Some (free b 2); class = number; finish = checked_taken b variable class conversion (free b 3) (free b 2) }

-- the pointer that a `new` gives, whose object is complete then
abbrev pub object_taken : Block → Variable → ClassId → Conversion → ResultUse
object_taken b variable d conversion = record { to = Some (free b 2); class = None; finish = taken_ops b variable (Some d) conversion (free b 3) (free b 2) }

-- right sides: what is read before the tests, what is tested, and what is done

abbrev pub right_front : Block → TypedRight → List Op
right_front b (Operand p) = operand_ops (free b 0) p
right_front b (Arithmetic op t p q) = operand_ops (free b 0) p ++ operand_ops (free b 1) q
right_front b (SamePointer differ p q) = argument_front p (free b 0) ++ argument_front q (free b 1)
right_front b (Not p) = operand_ops (free b 0) p
right_front b (Read place) = operand_ops (free b 0) place.pointer
right_front b (Address place d) = operand_ops (free b 0) place.pointer
right_front b (Call call) = call_front b call
right_front b (New d) = []
right_front b (Cast cast p) = operand_ops (free b 0) p
right_front b (TypeEqual p d) = operand_ops (free b 0) p

abbrev pub right_used : Block → TypedRight → Conversion → List Used
right_used b (Operand p) c = argument_used b (record { operand = p; conversion = c }) (free b 0)
right_used b (Arithmetic op t p q) c = reads b.scope (free b 0) p ++ (reads b.scope (free b 1) q ++ (Overflows (arith_kind op) (width_of t) (operand_register (free b 0) p) (operand_register (free b 1) q) ∷ []))
right_used b (SamePointer differ p q) c = argument_used b p (free b 0) ++ argument_used b q (free b 1)
right_used b (Not p) c = reads b.scope (free b 0) p
right_used b (Read place) c = place_used b.x b.scope place (free b 0)
right_used b (Address place d) c = place_used b.x b.scope place (free b 0)
right_used b (Call call) c = call_used b call
right_used b (New d) c = []
right_used b (Cast cast p) c = cast_used b cast (free b 0) p
right_used b (TypeEqual p d) c = arrow_used b.scope (free b 0) p (pointed_class b p) ++ (Views (operand_register (free b 0) p) 0 (pointed_class b p).0 ∷ [])

-- a leaf is loaded where it is set; a pointer that was loaded is read
abbrev pub loaded_used : ValueType ClassId → Conversion → ℕ → List Used
loaded_used type c r = loaded (pointed type)
  where
    loaded : Option ClassId → List Used
    loaded None = []
    loaded (Some d) = ReadsPointer r ∷ convert_used (Some d) c r

abbrev pub load_ops : Block → TypedPlace → (to from : ℕ) → List Op
load_ops b place to from = ops_of (place_ops b.x place from (operand_register (free b 0) place.pointer)) ++ (Does (CheckOp (set_check (place_leaf b.x place) from)) ∷ load_op (place_leaf b.x place) to from ∷ [])

abbrev pub right_ops : Block → (Routine → ℕ) → Variable → TypedRight → Conversion → List Op
right_ops b at v (Operand p) c = ops_of (taken_ops b v (operand_class b.scope p) c (free b 2) (operand_register (free b 0) p))
right_ops b at v (Arithmetic op t p q) c = Arith (arith_kind op) (width_of t) (free b 2) (operand_register (free b 0) p) (operand_register (free b 1) q) ∷ ops_of (taken_ops b v None c (free b 3) (free b 2))
right_ops b at v (SamePointer differ p q) c =
    ops_of (argument_ops b p (free b 2) (free b 0)) ++ (ops_of (argument_ops b q (free b 3) (free b 1))
    ++ (Arith (if differ then NotEqualKind else EqualKind) word_width (free b 4) (free b 2) (free b 3) ∷ ops_of (taken_ops b v None c (free b 5) (free b 4))))
right_ops b at v (Not p) c = Const (free b 1) 0 ∷ Arith EqualKind word_width (free b 2) (operand_register (free b 0) p) (free b 1) ∷ ops_of (taken_ops b v None c (free b 3) (free b 2))
right_ops b at v (Read place) c = load_ops b place (free b 2) (free b 1) ++ (check_ops (loaded_used (place_type b.x place) c (free b 2)) ++ ops_of (taken_ops b v (pointed (place_type b.x place)) c (free b 3) (free b 2)))
right_ops b at v (Address place d) c = ops_of (place_ops b.x place (free b 1) (operand_register (free b 0) place.pointer)) ++ ops_of (checked_taken b v (Some d) c (free b 2) (free b 1))
right_ops b at v (Call call) c = call_ops b at call (result_taken b v (pointee (return_of b.x.h call.function)) (result_class b.x call.function) c)
right_ops b at v (New d) c = NewOp ((places b.x).size d) d.0 (at (PlanCode Constructs InFull d)) (object_taken b v d c) ∷ []
right_ops b at v (Cast cast p) c = cast_ops b cast (free b 1) (operand_register (free b 0) p) (pointed_class b p) ++ ops_of (checked_taken b v (Some (cast_class cast (pointed_class b p))) c (free b 2) (free b 1))
right_ops b at v (TypeEqual p d) c = TypeOf (free b 1) (operand_register (free b 0) p) ∷ Const (free b 2) d.0 ∷ Arith EqualKind word_width (free b 3) (free b 1) (free b 2) ∷ ops_of (taken_ops b v None c (free b 4) (free b 3))
