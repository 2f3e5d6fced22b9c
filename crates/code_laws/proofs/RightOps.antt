-- The ops of calls and of right sides.
use Rattle.std.proofs.Common.{◌≡◌, ℕ, Bool, true, false, not, Some, refl, ap, ◌∙◌}
use Rattle.cxx_hierarchy.specs.declared.records.ClassId.{ClassId}
use Rattle.cxx_program.specs.declared.operand.Conversion.{Conversion}
use Rattle.cxx_program.specs.declared.operand.Variable.{Variable}
use Rattle.cxx_program.specs.declared.operand.TypedOperand.{TypedOperand}
use Rattle.cxx_program.specs.declared.statement.TypedCall.{TypedCall}
use Rattle.cxx_program.specs.declared.statement.TypedCast.{TypedCast}
use Rattle.cxx_program.specs.declared.statement.TypedCast.TheVariants.{Same as SameClass, Up, Down, Dynamic}
use Rattle.cxx_program.specs.declared.statement.TypedKind.{TypedKind}
use Rattle.cxx_program.specs.declared.statement.TypedPlace.{TypedPlace}
use Rattle.cxx_program.specs.declared.statement.TypedRight.{TypedRight}
use Rattle.cxx_program.specs.declared.statement.TypedRight.TheVariants.{Operand, Arithmetic, SamePointer, Not, Read, Address, Call, New, Cast, TypeEqual}
use Rattle.byte_code.specs.declared.op.TraceKind.TheVariants.{Call as TraceCall}
use Rattle.byte_code.specs.declared.op.ResultUse.{ResultUse}
use Rattle.code_ops.specs.declared.widths.LeafWidth.{LeafWidth}
use Rattle.code_ops.specs.declared.widths.LeafWidth.TheVariants.{Bytes as InBytes, Bits as InBits}
use Rattle.code_ops.specs.Leaves.{place_leaf, load_op}
use Rattle.code_ops.specs.Setups.{Routine}
use Rattle.code_ops.specs.Operands.{pointed, operand_register, base_ops}
use Rattle.code_ops.specs.Uses.{check_list}
use Rattle.code_ops.specs.PlaceOps.{place_ops, place_type}
use Rattle.code_ops.specs.Arguments.{Block, free, pointed_class, argument_ops, taken_ops, checked_taken, arguments_ops}
use Rattle.code_statements.specs.Rights.{cast_ops, cast_class, receiver_ops, call_op, call_ops, loaded_used, load_ops, right_ops}
use Rattle.code_laws.specs.Kinds.{right_within, call_within, call_on_right, reads_leaf, has_operator, compares_type, casts_by_view, makes_object, calls_by_view, calls_by_name, tells_call, shows_type}
use Rattle.code_laws.proofs.Every.{May, AllMay, one_op, last_op, both_may, done_may, second_holds}

call_op_may : (r : Routine) (k : TypedKind) (b : Block) (at : Routine → ℕ) (call : TypedCall) (result : ResultUse) → call_within k ≡ Some call → (way : Bool) → call.is_dispatched ≡ way → AllMay r k (call_op b at way call result)
call_op_may r k b at call result is true way = both_may (done_may r k _) (last_op (ap calls_by_view is ∙ way))
call_op_may r k b at call result is false way = last_op (ap calls_by_name is ∙ ap not way)

pub call_may : (r : Routine) (k : TypedKind) (b : Block) (at : Routine → ℕ) (call : TypedCall) (result : ResultUse) → call_within k ≡ Some call → AllMay r k (call_ops b at call result)
call_may r k b at call result is =
    both_may (done_may r k (receiver_ops b call))
    (both_may (done_may r k (arguments_ops b 0 call.arguments))
    (both_may (call_op_may r k b at call result is call.is_dispatched refl)
    (last_op (ap (tells_call TraceCall) is))))

cast_may : (r : Routine) (k : TypedKind) (b : Block) (cast : TypedCast) (p : TypedOperand) → right_within k ≡ Some (Cast cast p) → (to from : ℕ) (c : ClassId) → AllMay r k (cast_ops b cast to from c)
cast_may r k b SameClass p is to from c = last_op refl
cast_may r k b (Up i) p is to from c = done_may r k (base_ops b.x c i to from)
cast_may r k b (Down target i) p is to from c = last_op refl
cast_may r k b (Dynamic target) p is to from c = last_op (ap casts_by_view is)

load_may : (r : Routine) (k : TypedKind) → reads_leaf (right_within k) ≡ true → (leaf : LeafWidth) (to base : ℕ) → May r k (load_op leaf to base)
load_may r k is (InBytes width) to base = is
load_may r k is (InBits first width) to base = is

loads_may : (r : Routine) (k : TypedKind) → reads_leaf (right_within k) ≡ true → (b : Block) (place : TypedPlace) (to from : ℕ) → AllMay r k (load_ops b place to from)
loads_may r k is b place to from =
    both_may (done_may r k (place_ops b.x place from (operand_register (free b 0) place.pointer))) (one_op refl (last_op (load_may r k is (place_leaf b.x place) to from)))

pub right_may : (r : Routine) (k : TypedKind) (b : Block) (at : Routine → ℕ) (v : Variable) (right : TypedRight) (c : Conversion) → right_within k ≡ Some right → call_within k ≡ call_on_right (Some right) → AllMay r k (right_ops b at v right c)
right_may r k b at v (Operand p) c is called = done_may r k _
right_may r k b at v (Arithmetic op t p q) c is called = one_op (ap has_operator is) (done_may r k _)
right_may r k b at v (SamePointer differ p q) c is called =
    both_may (done_may r k (argument_ops b p (free b 2) (free b 0)))
    (both_may (done_may r k (argument_ops b q (free b 3) (free b 1))) (one_op (ap has_operator is) (done_may r k _)))
right_may r k b at v (Not p) c is called = one_op refl (one_op (ap has_operator is) (done_may r k _))
right_may r k b at v (Read place) c is called =
    both_may (loads_may r k (ap reads_leaf is) b place (free b 2) (free b 1))
    (both_may (done_may r k (check_list (loaded_used (place_type b.x place) c (free b 2)))) (done_may r k (taken_ops b v (pointed (place_type b.x place)) c (free b 3) (free b 2))))
right_may r k b at v (Address place d) c is called =
    both_may (done_may r k (place_ops b.x place (free b 1) (operand_register (free b 0) place.pointer))) (done_may r k (checked_taken b v (Some d) c (free b 2) (free b 1)))
right_may r k b at v (Call call) c is called = call_may r k b at call _ called
right_may r k b at v (New d) c is called = last_op (ap makes_object is)
right_may r k b at v (Cast cast p) c is called =
    both_may (cast_may r k b cast p is (free b 1) (operand_register (free b 0) p) (pointed_class b p))
    (done_may r k (checked_taken b v (Some (cast_class cast (pointed_class b p))) c (free b 2) (free b 1)))
right_may r k b at v (TypeEqual p d) c is called = one_op (second_holds (shows_type k) (compares_type (right_within k)) (ap compares_type is)) (one_op refl (one_op (ap has_operator is) (done_may r k _)))
