-- Right sides are refused, or typed.
use Rattle.std.proofs.Common.{◌≡◌, ◌≤◌, ℕ, Bool, true, false, nat_eq, Result, Ok, Err, List, length, arith}
use Rattle.cxx_hierarchy.specs.declared.records.ClassId.{ClassId}
use Rattle.cxx_hierarchy.specs.declared.records.ValueType.{ValueType}
use Rattle.cxx_hierarchy.specs.declared.records.ValueType.TheVariants as type
use Rattle.cxx_hierarchy.specs.declared.records.ReturnType.{ReturnType}
use Rattle.cxx_hierarchy.specs.declared.records.ReturnType.TheVariants as returns
use Rattle.cxx_hierarchy.specs.declared.stop.Rule.TheVariants as rule
use Rattle.cxx_hierarchy.specs.Classes.{Classes}
use Rattle.cxx_subobject.specs.declared.Root.{Root}
use Rattle.cxx_subobject.specs.declared.Root.TheVariants.{Whole, Shared}
use Rattle.cxx_subobject.specs.declared.Subobject.{Subobject}
use Rattle.cxx_search.specs.Searches.{is_abstract}
use Rattle.cxx_syntax.specs.declared.tree.Spot.{Spot}
use Rattle.cxx_syntax.specs.declared.tree.Operand.{Operand}
use Rattle.cxx_syntax.specs.declared.tree.PointerText.{PointerText}
use Rattle.cxx_syntax.specs.declared.tree.PlaceText.{PlaceText}
use Rattle.cxx_syntax.specs.declared.tree.CallText.{CallText}
use Rattle.cxx_syntax.specs.declared.tree.CastText.{CastText}
use Rattle.cxx_syntax.specs.declared.tree.CastKind.{CastKind}
use Rattle.cxx_syntax.specs.declared.tree.CastKind.TheVariants as kind
use Rattle.cxx_syntax.specs.declared.tree.BinaryOp.{BinaryOp}
use Rattle.cxx_syntax.specs.declared.tree.BinaryOp.TheVariants as binary
use Rattle.cxx_syntax.specs.declared.tree.Right.{Right}
use Rattle.cxx_syntax.specs.declared.tree.Right.TheVariants as right
use Rattle.cxx_program.specs.declared.operand.TypedOperand.{TypedOperand}
use Rattle.cxx_program.specs.declared.operand.Conversion.{Conversion}
use Rattle.cxx_program.specs.declared.statement.Arithmetic.{Arithmetic}
use Rattle.cxx_program.specs.declared.statement.TypedCall.{TypedCall}
use Rattle.cxx_program.specs.declared.statement.TypedRight.{TypedRight}
use Rattle.cxx_expression.specs.declared.faults.Fault.{Fault}
use Rattle.cxx_expression.specs.declared.look_up.Based.{Based}
use Rattle.cxx_expression.specs.declared.look_up.Based.TheVariants as based
use Rattle.cxx_expression.specs.declared.scene.Scene.{Scene}
use Rattle.cxx_expression.specs.declared.scene.Setting.{Setting}
use Rattle.cxx_expression.specs.declared.typed.RightValue.{RightValue}
use Rattle.cxx_expression.specs.Checked.{Checked, pure, ◌>>=◌, both, kept}
use Rattle.cxx_expression.specs.Lookups.{base_up, is_polymorphic}
use Rattle.cxx_expression.specs.Values.{class_of_spot, operand_of, pointer_of, number_operand, conversion_of}
use Rattle.cxx_expression.specs.Places.{leaf_of, object_place_of}
use Rattle.cxx_expression.specs.Calls.{call_of}
use Rattle.cxx_expression.specs.Operators.{arithmetic_right, one_converted, to_one_class, if_null, pointers_right, null_right, compared, equal_right, binary_right, not_right}
use Rattle.cxx_expression.specs.Casts.{down_to, up_or_down, static_cast, if_polymorphic, up_or_dynamic, dynamic_cast, cast_of, cast_right, polymorphic_pointer, type_right}
use Rattle.cxx_expression.specs.Rights.{operand_right, place_right, address_right, as_result, call_right, made, new_right, right_of, whole_right, converted, converted_value, converted_right}
use Rattle.cxx_expression.specs.Laws.{IsComplete, PiecesAreComplete}
use Rattle.cxx_expression.proofs.Complete.{complete_pure, complete_fail, complete_bind, complete_both, complete_if, complete_nested, complete_whole, whole_grows}
use Rattle.cxx_expression.proofs.CompleteValues.{c_class_named, c_class_of, c_type, c_variable, c_operand, c_pointer, c_number, c_class_conversion, c_conversion, c_converted_operand}
use Rattle.cxx_expression.proofs.CompletePlaces.{c_leaf, c_object_place, c_call, c_whole_call}

-- a right side of which all is typed
abbrev all_of : Checked RightValue → Checked TypedRight
all_of p = p >>= (λ r. kept r.right)

c_arithmetic : (e : Setting) (s : Scene) (at : ℕ) (op : Arithmetic) (x y : Operand) → IsComplete (all_of (arithmetic_right e s at op x y))
unfolding arithmetic_right
c_arithmetic e s at op x y = complete_nested (both (number_operand e s at x) (number_operand e s at y)) _ _ (complete_bind _ _ (complete_both _ _ (c_number e s at x) (c_number e s at y)) (λ p. complete_pure _))

c_one_converted : (at : ℕ) (up down : Based) → IsComplete (one_converted at up down)
c_one_converted at (based.Base s) down = complete_pure _
c_one_converted at based.TwoBases down = complete_fail _ _
c_one_converted at based.NotBase based.NotBase = complete_fail _ _
c_one_converted at based.NotBase based.TwoBases = complete_fail _ _
c_one_converted at based.NotBase (based.Base s) = complete_pure _

c_one_class : (h : Classes) (at : ℕ) (c d : ClassId) → IsComplete (to_one_class h at c d)
unfolding to_one_class
c_one_class h at c d = complete_if (nat_eq c.0 d.0) _ _ (complete_pure _) (c_one_converted at (base_up h c d) (base_up h d c))

c_if_null : (at : ℕ) (b : Bool) (c : Conversion × Conversion) → IsComplete (if_null at b c)
c_if_null at true c = complete_pure _
c_if_null at false c = complete_fail _ _

c_pointers : (h : Classes) (at : ℕ) (differ : Bool) (a : TypedOperand) (c : ClassId) (b : TypedOperand) (d : ClassId) → IsComplete (all_of (pointers_right h at differ a c b d))
unfolding pointers_right
c_pointers h at differ a c b d = complete_nested (to_one_class h at c d) _ _ (complete_bind _ _ (c_one_class h at c d) (λ r. complete_pure _))

c_null : (at : ℕ) (is_null differ : Bool) (a b : TypedOperand) (c : Conversion × Conversion) → IsComplete (all_of (null_right at is_null differ a b c))
unfolding null_right
c_null at is_null differ a b c = complete_nested (if_null at is_null c) _ _ (complete_bind _ _ (c_if_null at is_null c) (λ r. complete_pure _))

c_compared : (h : Classes) (at : ℕ) (differ : Bool) (a : TypedOperand) (t : ValueType ClassId) (a_null : Bool) (b : TypedOperand) (u : ValueType ClassId) (b_null : Bool) → IsComplete (all_of (compared h at differ a t a_null b u b_null))
unfolding compared
c_compared h at differ a (type.Number s) a_null b (type.Number t) b_null = complete_pure _
c_compared h at differ a (type.Number s) a_null b (type.Pointer d) b_null = c_null at a_null differ a b _
c_compared h at differ a (type.Pointer c) a_null b (type.Number t) b_null = c_null at b_null differ a b _
c_compared h at differ a (type.Pointer c) a_null b (type.Pointer d) b_null = c_pointers h at differ a c b d

c_equal : (h : Classes) (e : Setting) (s : Scene) (at : ℕ) (differ : Bool) (x y : Operand) → IsComplete (all_of (equal_right h e s at differ x y))
unfolding equal_right
c_equal h e s at differ x y = complete_nested (both (operand_of e s at x) (operand_of e s at y)) _ _
    (complete_bind _ _ (complete_both _ _ (c_operand e s at x) (c_operand e s at y)) (λ p. c_compared h at differ p.0.operand p.0.ty p.0.is_null p.1.operand p.1.ty p.1.is_null))

c_binary : (h : Classes) (e : Setting) (s : Scene) (at : ℕ) (x : Operand) (op : BinaryOp) (y : Operand) → IsComplete (all_of (binary_right h e s at x op y))
unfolding binary_right
c_binary h e s at x binary.Add y = c_arithmetic e s at _ x y
c_binary h e s at x binary.Subtract y = c_arithmetic e s at _ x y
c_binary h e s at x binary.Multiply y = c_arithmetic e s at _ x y
c_binary h e s at x binary.Less y = c_arithmetic e s at _ x y
c_binary h e s at x binary.LessEqual y = c_arithmetic e s at _ x y
c_binary h e s at x binary.Equal y = c_equal h e s at false x y
c_binary h e s at x binary.NotEqual y = c_equal h e s at true x y

c_not : (e : Setting) (s : Scene) (at : ℕ) (x : Operand) → IsComplete (all_of (not_right e s at x))
unfolding not_right
c_not e s at x = complete_nested (number_operand e s at x) _ _ (complete_bind _ _ (c_number e s at x) (λ v. complete_pure _))

c_down : (at : ℕ) (d : ClassId) (s : Subobject) (root : Root) → IsComplete (down_to at d s root)
c_down at d s Whole = complete_pure _
c_down at d s (Shared v) = complete_fail _ _

c_up_or_down : (at : ℕ) (d : ClassId) (up down : Based) → IsComplete (up_or_down at d up down)
c_up_or_down at d (based.Base s) down = complete_pure _
c_up_or_down at d based.TwoBases down = complete_fail _ _
c_up_or_down at d based.NotBase based.NotBase = complete_fail _ _
c_up_or_down at d based.NotBase based.TwoBases = complete_fail _ _
c_up_or_down at d based.NotBase (based.Base s) = c_down at d s s.root

c_static : (h : Classes) (at : ℕ) (c d : ClassId) → IsComplete (static_cast h at c d)
unfolding static_cast
c_static h at c d = complete_if (nat_eq c.0 d.0) _ _ (complete_pure _) (c_up_or_down at d (base_up h c d) (base_up h d c))

c_polymorphic : {X : Type 0} (at : ℕ) (b : Bool) (x : X) → IsComplete (if_polymorphic at b x)
c_polymorphic at true x = complete_pure _
c_polymorphic at false x = complete_fail _ _

c_up_or_dynamic : (h : Classes) (at : ℕ) (c d : ClassId) (up : Based) → IsComplete (up_or_dynamic h at c d up)
c_up_or_dynamic h at c d (based.Base s) = complete_pure _
c_up_or_dynamic h at c d based.TwoBases = complete_fail _ _
c_up_or_dynamic h at c d based.NotBase = c_polymorphic at (is_polymorphic h c) _

c_dynamic : (h : Classes) (at : ℕ) (c d : ClassId) → IsComplete (dynamic_cast h at c d)
unfolding dynamic_cast
c_dynamic h at c d = complete_if (nat_eq c.0 d.0) _ _ (complete_pure _) (c_up_or_dynamic h at c d (base_up h c d))

c_cast_of : (h : Classes) (at : ℕ) (k : CastKind) (c d : ClassId) → IsComplete (cast_of h at k c d)
unfolding cast_of
c_cast_of h at kind.Static c d = c_static h at c d
c_cast_of h at kind.Plain c d = c_static h at c d
c_cast_of h at kind.Dynamic c d = c_dynamic h at c d

c_cast : (h : Classes) (e : Setting) (s : Scene) (at : ℕ) (text : CastText) → IsComplete (all_of (cast_right h e s at text))
unfolding cast_right
c_cast h e s at text = complete_nested (both (class_of_spot h text.target) (pointer_of e s at text.pointer)) _ _ (complete_bind _ _ (complete_both _ _ (c_class_of h text.target) (c_pointer e s at text.pointer))
    (λ p. complete_nested (cast_of h at text.kind p.1.class p.0) _ _ (complete_bind _ _ (c_cast_of h at text.kind p.1.class p.0) (λ c. complete_pure _))))

c_typeid : (h : Classes) (e : Setting) (s : Scene) (at : ℕ) (x : PointerText) → IsComplete (polymorphic_pointer h e s at x)
unfolding polymorphic_pointer
c_typeid h e s at x = complete_bind _ _ (c_pointer e s at x) (λ p. c_polymorphic at (is_polymorphic h p.class) p)

c_made : (at : ℕ) (abstract : Bool) (c : ClassId) → IsComplete (all_of (made at abstract c))
c_made at true c = complete_fail _ _
c_made at false c = complete_pure _

c_type_equal : (h : Classes) (e : Setting) (s : Scene) (at : ℕ) (x : PointerText) (name : Spot) → IsComplete (all_of (type_right h e s at x name))
unfolding type_right
c_type_equal h e s at x name = complete_nested (both (polymorphic_pointer h e s at x) (class_of_spot h name)) _ _ (complete_bind _ _ (complete_both _ _ (c_typeid h e s at x) (c_class_of h name)) (λ p. complete_pure _))

c_operand_right : (e : Setting) (s : Scene) (at : ℕ) (x : Operand) → IsComplete (all_of (operand_right e s at x))
unfolding operand_right
c_operand_right e s at x = complete_nested (operand_of e s at x) _ _ (complete_bind _ _ (c_operand e s at x) (λ v. complete_pure _))

c_place_right : (h : Classes) (e : Setting) (s : Scene) (at : ℕ) (x : PlaceText) → IsComplete (all_of (place_right h e s at x))
unfolding place_right
c_place_right h e s at x = complete_nested (leaf_of h e s at x) _ _ (complete_bind _ _ (c_leaf h e s at x) (λ leaf. complete_pure _))

c_address : (h : Classes) (e : Setting) (s : Scene) (at : ℕ) (x : PlaceText) → IsComplete (all_of (address_right h e s at x))
unfolding address_right
c_address h e s at x = complete_nested (object_place_of h e s at x) _ _ (complete_bind _ _ (c_object_place h e s at x) (λ object. complete_pure _))

pub c_as_result : (at : ℕ) (call : Result TypedCall Fault) (r : ReturnType ClassId) → IsComplete (as_result at call r)
c_as_result at call returns.Void = complete_fail _ _
c_as_result at call (returns.Value t) = complete_pure _

result_grows : (at : ℕ) (call : Result TypedCall Fault) (r : ReturnType ClassId) (b : List Fault) → length b ≤ length ((all_of (as_result at call r)).faults b)
result_grows at call returns.Void b = (complete_fail {X = TypedRight} rule.TypeMismatch at).grows b
result_grows at call (returns.Value t) b = omega arith

result_whole : (at : ℕ) (o : Result TypedCall Fault) (r : ReturnType ClassId) (call : TypedCall) → o ≡ Ok call → IsComplete (all_of (as_result at o r))
result_whole at o returns.Void call is = complete_fail _ _
result_whole at (Err e) (returns.Value t) call is = absurd (cc)
result_whole at (Ok c) (returns.Value t) call is = complete_pure _

c_call_right : (h : Classes) (e : Setting) (s : Scene) (at : ℕ) (x : CallText) → IsComplete (all_of (call_right h e s at x))
unfolding call_right
c_call_right h e s at x = complete_nested (call_of h e s at x) _ _ (complete_whole (call_of h e s at x) (λ v. v.call) _ (c_call h e s at x)
    (λ v b. result_grows at v.call v.returns b) (λ v call is. result_whole at v.call v.returns call is))

c_new : (h : Classes) (x : Spot) → IsComplete (all_of (new_right h x))
unfolding new_right
c_new h x = complete_nested (class_of_spot h x) _ _ (complete_bind _ _ (c_class_of h x) (λ c. c_made x.at (is_abstract h c) c))

-- a right side has a fault, or all of it is typed
pub c_right : (h : Classes) (e : Setting) (s : Scene) (at : ℕ) (r : Right) → IsComplete (all_of (right_of h e s at r))
unfolding right_of
c_right h e s at (right.Operand x) = c_operand_right e s at x
c_right h e s at (right.Binary x op y) = c_binary h e s at x op y
c_right h e s at (right.Not x) = c_not e s at x
c_right h e s at (right.Place x) = c_place_right h e s at x
c_right h e s at (right.Address x) = c_address h e s at x
c_right h e s at (right.Call x) = c_call_right h e s at x
c_right h e s at (right.New x) = c_new h x
c_right h e s at (right.Cast x) = c_cast h e s at x
c_right h e s at (right.TypeEqual x name) = c_type_equal h e s at x name

c_whole_right : (h : Classes) (e : Setting) (s : Scene) (at : ℕ) (r : Right) → IsComplete (whole_right h e s at r)
unfolding whole_right
c_whole_right h e s at r = c_right h e s at r

kept_grows : {X Y : Type 0} (o : Result X Fault) (f : X → Y) (b : List Fault) → length b ≤ length ((kept o >>= (λ x. pure (f x))).faults b)
kept_grows (Err e) f b = omega arith
kept_grows (Ok x) f b = omega arith

kept_whole : {X Y : Type 0} (o : Result X Fault) (f : X → Y) (x : X) → o ≡ Ok x → IsComplete (kept o >>= (λ x. pure (f x)))
kept_whole (Err e) f x is = absurd (cc)
kept_whole (Ok y) f x is = complete_pure _

pub value_grows : (h : Classes) (at : ℕ) (t : ValueType ClassId) (v : RightValue) (b : List Fault) → length b ≤ length ((converted_value h at t v).faults b)
unfolding converted_value
value_grows h at t v b =
    let p = conversion_of h at v.ty v.is_null t in
    omega (arith, (c_conversion h at v.ty v.is_null t).grows b, whole_grows p.typed (λ c. kept v.right >>= (λ right. pure (converted right c))) (λ c f. kept_grows v.right (λ right. converted right c) f) (p.faults b))

pub c_value : (h : Classes) (at : ℕ) (t : ValueType ClassId) (v : RightValue) (right : TypedRight) → v.right ≡ Ok right → IsComplete (converted_value h at t v)
unfolding converted_value
c_value h at t v right is = complete_bind _ _ (c_conversion h at v.ty v.is_null t) (λ c. kept_whole v.right (λ right. converted right c) right is)

c_converted : (h : Classes) (e : Setting) (s : Scene) (at : ℕ) (t : ValueType ClassId) (r : Right) → IsComplete (converted_right h e s at t r)
unfolding converted_right
c_converted h e s at t r = complete_whole (right_of h e s at r) (λ v. v.right) (converted_value h at t) (c_right h e s at r) (value_grows h at t) (c_value h at t)

pub pieces_are_complete : PiecesAreComplete
pieces_are_complete = record {
  class_named = c_class_named;
  class_of = c_class_of;
  type_of = c_type;
  variable = c_variable;
  operand = c_operand;
  pointer = c_pointer;
  number = c_number;
  class_conversion = c_class_conversion;
  conversion = c_conversion;
  converted_operand = c_converted_operand;
  leaf = c_leaf;
  call = c_whole_call;
  polymorphic = c_typeid;
  right_of = c_whole_right;
  right = c_converted;
}
