-- Operators of numbers and of pointers have the types that they are typed to.
use Rattle.std.proofs.Common.{◌≡◌, ℕ, Bool, true, false, Ok, refl, sym, ◌∙◌, ap, subst}
use Rattle.std.specs.Prelude.{nat_eq, if◌then◌else◌}
use Rattle.std.proofs.lemmas.Bool.{eqb-true}
use Rattle.cxx_hierarchy.specs.declared.records.ClassId.{ClassId}
use Rattle.cxx_hierarchy.specs.declared.records.Scalar.{Scalar}
use Rattle.cxx_hierarchy.specs.declared.records.ValueType.{ValueType}
use Rattle.cxx_hierarchy.specs.declared.records.ValueType.TheVariants as type
use Rattle.cxx_hierarchy.specs.Classes.{Classes}
use Rattle.cxx_hierarchy.specs.Hierarchies.{IsHierarchy}
use Rattle.cxx_hierarchy.specs.Scalars.{common_type}
use Rattle.cxx_subobject.proofs.PathLemmas.{same_id}
use Rattle.cxx_syntax.specs.declared.tree.Operand.{Operand}
use Rattle.cxx_syntax.specs.declared.tree.BinaryOp.{BinaryOp}
use Rattle.cxx_syntax.specs.declared.tree.BinaryOp.TheVariants as binary
use Rattle.cxx_program.specs.declared.operand.TypedOperand.{TypedOperand}
use Rattle.cxx_program.specs.declared.operand.Conversion.{Conversion}
use Rattle.cxx_program.specs.declared.operand.Conversion.TheVariants as conversion
use Rattle.cxx_program.specs.declared.statement.Arithmetic.{Arithmetic}
use Rattle.cxx_program.specs.declared.statement.Arithmetic.TheVariants as arithmetic
use Rattle.cxx_program.specs.declared.statement.TypedRight.{TypedRight}
use Rattle.cxx_program.specs.declared.statement.TypedRight.TheVariants as typed
use Rattle.cxx_program.specs.Typed.{Scope, HasType, Converts, to_same, to_base, IsArgument, a_value, a_null, zero_operand, calculated_type, HasRight, a_calculation, a_comparison, a_negation}
use Rattle.cxx_expression.specs.declared.look_up.Based.{Based}
use Rattle.cxx_expression.specs.declared.look_up.Based.TheVariants as based
use Rattle.cxx_expression.specs.declared.scene.Scene.{Scene}
use Rattle.cxx_expression.specs.declared.scene.Setting.{Setting}
use Rattle.cxx_expression.specs.declared.typed.RightValue.{RightValue}
use Rattle.cxx_expression.specs.Checked.{pure}
use Rattle.cxx_expression.specs.Lookups.{base_up}
use Rattle.cxx_expression.specs.Values.{operand_of, number_operand, argument}
use Rattle.cxx_expression.specs.Operators.{type_by, calculated, arithmetic_right, same_pointer, one_converted, to_one_class, if_null, equality, pointers_right, null_right, compared, equal_right, binary_right, not_right, truth_value}
use Rattle.cxx_typing.proofs.Steps.{then_both, pair_both}
use Rattle.cxx_typing.specs.Scopes.{IsSetting, IsScene}
use Rattle.cxx_typing.proofs.Values.{operand_typed, number_typed, proper_base, apart_by}

-- all of the right side is typed and has its type, and where it is a null pointer constant it is the number 0
pub record IsRight (h : Classes) (k : Scope) (r : RightValue) : Type 0 where
  pub right : TypedRight
  pub whole : r.right ≡ Ok right
  pub has : HasRight h k right r.ty
  pub null : r.is_null ≡ true → right ≡ typed.Operand zero_operand

pub right_is : (h : Classes) (k : Scope) (right : TypedRight) (r q : RightValue) → r ≡ q → r.is_null ≡ false → r.right ≡ Ok right → HasRight h k right r.ty → IsRight h k q
right_is h k right r q same plain whole has = subst (IsRight h k) same (record { right = right; whole = whole; has = has; null = λ n. absurd (cc) })

-- numbers

same_result : (op : Arithmetic) (t : Scalar) → calculated_type op t ≡ type_by op t
same_result arithmetic.Add t = refl
same_result arithmetic.Subtract t = refl
same_result arithmetic.Multiply t = refl
same_result arithmetic.Less t = refl
same_result arithmetic.LessEqual t = refl
same_result arithmetic.Equal t = refl
same_result arithmetic.NotEqual t = refl

calculates : (h : Classes) (k : Scope) (op : Arithmetic) (a : TypedOperand) (s : Scalar) (b : TypedOperand) (t : Scalar) → HasType k a (type.Number s) → HasType k b (type.Number t) → (r : RightValue) → calculated op a s b t ≡ r → IsRight h k r
calculates h k op a s b t x y r same =
    right_is h k (typed.Arithmetic op (common_type s t) a b) (calculated op a s b t) r same refl refl
    (subst (λ (z : Scalar). HasRight h k (typed.Arithmetic op (common_type s t) a b) (type.Number z)) (same_result op (common_type s t)) (a_calculation op s t a b x y))

arithmetic_typed : (h : Classes) (e : Setting) (s : Scene) (k : Scope) → IsSetting e k → IsScene s k → (at : ℕ) (op : Arithmetic) (x y : Operand) (r : RightValue) → (arithmetic_right e s at op x y).typed ≡ Ok r → IsRight h k r
unfolding arithmetic_right
arithmetic_typed h e s k f g at op x y r t =
    let p = then_both _ _ r t in
    let q = pair_both (number_operand e s at x).typed (number_operand e s at y).typed p.0 p.1 in
    let same : calculated op p.0.0.operand p.0.0.scalar p.0.1.operand p.0.1.scalar ≡ r = let last = p.2 in cc in
    calculates h k op p.0.0.operand p.0.0.scalar p.0.1.operand p.0.1.scalar (number_typed e s k f g at x p.0.0 q.0) (number_typed e s k f g at y p.0.1 q.1) r same

-- pointers

-- pointers to two classes become pointers to one
record ToOneClass (h : Classes) (c d : ClassId) (by : Conversion × Conversion) : Type 0 where
  class : ClassId
  first : Converts h (type.Pointer c) by.0 (type.Pointer class)
  second : Converts h (type.Pointer d) by.1 (type.Pointer class)

one_by : (h : Classes) → IsHierarchy h → (at : ℕ) (c d : ClassId) → (c ≡ d → ⊥) → (a b : Based) → base_up h c d ≡ a → base_up h d c ≡ b → (by : Conversion × Conversion) → (one_converted at a b).typed ≡ Ok by → ToOneClass h c d by
one_by h keeps at c d apart (based.Base s) b up down by t =
    let same : (conversion.Base s, conversion.Same) ≡ by = cc in
    subst (ToOneClass h c d) same (record { class = d; first = to_base c d s (proper_base h keeps c d s apart up); second = to_same (type.Pointer d) })
one_by h keeps at c d apart based.TwoBases b up down by t = absurd (cc)
one_by h keeps at c d apart based.NotBase based.NotBase up down by t = absurd (cc)
one_by h keeps at c d apart based.NotBase based.TwoBases up down by t = absurd (cc)
one_by h keeps at c d apart based.NotBase (based.Base s) up down by t =
    let same : (conversion.Same, conversion.Base s) ≡ by = cc in
    subst (ToOneClass h c d) same (record { class = c; first = to_same (type.Pointer c); second = to_base d c s (proper_base h keeps d c s (λ e. apart (sym e)) down) })

one_if : (h : Classes) → IsHierarchy h → (at : ℕ) (c d : ClassId) (same : Bool) → nat_eq c.0 d.0 ≡ same → (by : Conversion × Conversion) →
    (if same then pure (conversion.Same, conversion.Same) else one_converted at (base_up h c d) (base_up h d c)).typed ≡ Ok by → ToOneClass h c d by
one_if h keeps at c d true is by t =
    let equal : (conversion.Same, conversion.Same) ≡ by = cc in
    let one : c ≡ d = same_id c d (eqb-true c.0 d.0 is) in
    subst (ToOneClass h c d) equal (subst (λ (x : ClassId). ToOneClass h c x (conversion.Same, conversion.Same)) one (record { class = c; first = to_same (type.Pointer c); second = to_same (type.Pointer c) }))
one_if h keeps at c d false is by t = one_by h keeps at c d (apart_by c d is) (base_up h c d) (base_up h d c) refl refl by t

one_class : (h : Classes) → IsHierarchy h → (at : ℕ) (c d : ClassId) (by : Conversion × Conversion) → (to_one_class h at c d).typed ≡ Ok by → ToOneClass h c d by
unfolding to_one_class
one_class h keeps at c d by t = one_if h keeps at c d (nat_eq c.0 d.0) refl by t

compares : (h : Classes) (k : Scope) (differ : Bool) (a b : TypedOperand) (by : Conversion × Conversion) (c : ClassId) → IsArgument h k (argument a by.0) (type.Pointer c) → IsArgument h k (argument b by.1) (type.Pointer c) →
    (r : RightValue) → same_pointer differ a b by ≡ r → IsRight h k r
compares h k differ a b by c x y r same = right_is h k (typed.SamePointer differ (argument a by.0) (argument b by.1)) (same_pointer differ a b by) r same refl refl (a_comparison differ (argument a by.0) (argument b by.1) c x y)

pointers_typed : (h : Classes) → IsHierarchy h → (k : Scope) (at : ℕ) (differ : Bool) (a : TypedOperand) (c : ClassId) (b : TypedOperand) (d : ClassId) → HasType k a (type.Pointer c) → HasType k b (type.Pointer d) →
    (r : RightValue) → (pointers_right h at differ a c b d).typed ≡ Ok r → IsRight h k r
unfolding pointers_right
pointers_typed h keeps k at differ a c b d x y r t =
    let p = then_both (to_one_class h at c d).typed _ r t in
    let one = one_class h keeps at c d p.0 p.1 in
    let same : same_pointer differ a b p.0 ≡ r = let last = p.2 in cc in
    compares h k differ a b p.0 one.class (a_value (argument a p.0.0) (type.Pointer c) (type.Pointer one.class) x one.first) (a_value (argument b p.0.1) (type.Pointer d) (type.Pointer one.class) y one.second) r same

null_by : (at : ℕ) (is_null : Bool) (c by : Conversion × Conversion) → (if_null at is_null c).typed ≡ Ok by → (is_null ≡ true) × (c ≡ by)
null_by at true c by t = (refl, cc)
null_by at false c by t = absurd (cc)

null_argument : (h : Classes) (k : Scope) (a : TypedOperand) (d : ClassId) → a ≡ zero_operand → IsArgument h k (argument a conversion.Null) (type.Pointer d)
null_argument h k a d zero = subst (λ (x : TypedOperand). IsArgument h k (argument x conversion.Null) (type.Pointer d)) (sym zero) (a_null d)

same_argument : (h : Classes) (k : Scope) (a : TypedOperand) (d : ClassId) → HasType k a (type.Pointer d) → IsArgument h k (argument a conversion.Same) (type.Pointer d)
same_argument h k a d has = a_value (argument a conversion.Same) (type.Pointer d) (type.Pointer d) has (to_same (type.Pointer d))

null_typed : (h : Classes) (k : Scope) (at : ℕ) (is_null differ : Bool) (a b : TypedOperand) (by : Conversion × Conversion) (c : ClassId) →
    (is_null ≡ true → IsArgument h k (argument a by.0) (type.Pointer c) × IsArgument h k (argument b by.1) (type.Pointer c)) → (r : RightValue) → (null_right at is_null differ a b by).typed ≡ Ok r → IsRight h k r
unfolding null_right
null_typed h k at is_null differ a b by c are r t =
    let p = then_both (if_null at is_null by).typed _ r t in
    let q = null_by at is_null by p.0 p.1 in
    let both = are q.0 in
    let same : same_pointer differ a b by ≡ r = let last = p.2 in ap (same_pointer differ a b) q.1 ∙ cc in
    compares h k differ a b by c both.0 both.1 r same

compared_typed : (h : Classes) → IsHierarchy h → (k : Scope) (at : ℕ) (differ : Bool) (a : TypedOperand) (s : ValueType ClassId) (a_zero : Bool) (b : TypedOperand) (t : ValueType ClassId) (b_zero : Bool) →
    HasType k a s → HasType k b t → (a_zero ≡ true → a ≡ zero_operand) → (b_zero ≡ true → b ≡ zero_operand) → (r : RightValue) → (compared h at differ a s a_zero b t b_zero).typed ≡ Ok r → IsRight h k r
unfolding compared
compared_typed h keeps k at differ a (type.Number s) a_zero b (type.Number t) b_zero x y n m r is = calculates h k (equality differ) a s b t x y r (cc)
compared_typed h keeps k at differ a (type.Number s) a_zero b (type.Pointer d) b_zero x y n m r is = null_typed h k at a_zero differ a b (conversion.Null, conversion.Same) d (λ z. (null_argument h k a d (n z), same_argument h k b d y)) r is
compared_typed h keeps k at differ a (type.Pointer c) a_zero b (type.Number t) b_zero x y n m r is = null_typed h k at b_zero differ a b (conversion.Same, conversion.Null) c (λ z. (same_argument h k a c x, null_argument h k b c (m z))) r is
compared_typed h keeps k at differ a (type.Pointer c) a_zero b (type.Pointer d) b_zero x y n m r is = pointers_typed h keeps k at differ a c b d x y r is

equal_typed : (h : Classes) → IsHierarchy h → (e : Setting) (s : Scene) (k : Scope) → IsSetting e k → IsScene s k → (at : ℕ) (differ : Bool) (x y : Operand) (r : RightValue) → (equal_right h e s at differ x y).typed ≡ Ok r → IsRight h k r
unfolding equal_right
equal_typed h keeps e s k f g at differ x y r t =
    let p = then_both _ _ r t in
    let q = pair_both (operand_of e s at x).typed (operand_of e s at y).typed p.0 p.1 in
    let a = operand_typed e s k f g at x p.0.0 q.0 in
    let b = operand_typed e s k f g at y p.0.1 q.1 in
    compared_typed h keeps k at differ p.0.0.operand p.0.0.ty p.0.0.is_null p.0.1.operand p.0.1.ty p.0.1.is_null a.has b.has a.null b.null r p.2

pub binary_typed : (h : Classes) → IsHierarchy h → (e : Setting) (s : Scene) (k : Scope) → IsSetting e k → IsScene s k → (at : ℕ) (x : Operand) (op : BinaryOp) (y : Operand) (r : RightValue) →
    (binary_right h e s at x op y).typed ≡ Ok r → IsRight h k r
unfolding binary_right
binary_typed h keeps e s k f g at x binary.Add y r t = arithmetic_typed h e s k f g at arithmetic.Add x y r t
binary_typed h keeps e s k f g at x binary.Subtract y r t = arithmetic_typed h e s k f g at arithmetic.Subtract x y r t
binary_typed h keeps e s k f g at x binary.Multiply y r t = arithmetic_typed h e s k f g at arithmetic.Multiply x y r t
binary_typed h keeps e s k f g at x binary.Less y r t = arithmetic_typed h e s k f g at arithmetic.Less x y r t
binary_typed h keeps e s k f g at x binary.LessEqual y r t = arithmetic_typed h e s k f g at arithmetic.LessEqual x y r t
binary_typed h keeps e s k f g at x binary.Equal y r t = equal_typed h keeps e s k f g at false x y r t
binary_typed h keeps e s k f g at x binary.NotEqual y r t = equal_typed h keeps e s k f g at true x y r t

pub not_typed : (h : Classes) (e : Setting) (s : Scene) (k : Scope) → IsSetting e k → IsScene s k → (at : ℕ) (x : Operand) (r : RightValue) → (not_right e s at x).typed ≡ Ok r → IsRight h k r
unfolding not_right
not_typed h e s k f g at x r t =
    let p = then_both (number_operand e s at x).typed _ r t in
    let same : truth_value (typed.Not p.0.operand) ≡ r = let last = p.2 in cc in
    right_is h k (typed.Not p.0.operand) (truth_value (typed.Not p.0.operand)) r same refl refl (a_negation p.0.operand p.0.scalar (number_typed e s k f g at x p.0 p.1))
