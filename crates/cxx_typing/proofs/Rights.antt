-- Right sides have the types that they are typed to.
use Rattle.std.proofs.Common.{◌≡◌, ◌⊎◌, ℕ, ◌<◌, Bool, true, false, Result, Ok, inl, inr, refl, sym, ◌∙◌, ap, subst, length}
use Rattle.cxx_hierarchy.specs.declared.records.ClassId.{ClassId}
use Rattle.cxx_hierarchy.specs.declared.records.ValueType.{ValueType}
use Rattle.cxx_hierarchy.specs.declared.records.ValueType.TheVariants as type
use Rattle.cxx_hierarchy.specs.declared.records.ReturnType.{ReturnType}
use Rattle.cxx_hierarchy.specs.declared.records.ReturnType.TheVariants as returns
use Rattle.cxx_hierarchy.specs.declared.records.Function.{Function}
use Rattle.cxx_hierarchy.specs.Classes.{Classes}
use Rattle.cxx_hierarchy.specs.Hierarchies.{IsHierarchy}
use Rattle.cxx_search.specs.Searches.{is_abstract}
use Rattle.cxx_syntax.specs.declared.tree.Spot.{Spot}
use Rattle.cxx_syntax.specs.declared.tree.Operand.{Operand}
use Rattle.cxx_syntax.specs.declared.tree.PlaceText.{PlaceText}
use Rattle.cxx_syntax.specs.declared.tree.CallText.{CallText}
use Rattle.cxx_syntax.specs.declared.tree.Right.{Right}
use Rattle.cxx_syntax.specs.declared.tree.Right.TheVariants as right
use Rattle.cxx_program.specs.declared.operand.Conversion.{Conversion}
use Rattle.cxx_program.specs.declared.operand.Conversion.TheVariants as conversion
use Rattle.cxx_program.specs.declared.statement.TypedCall.{TypedCall}
use Rattle.cxx_program.specs.declared.statement.TypedRight.{TypedRight}
use Rattle.cxx_program.specs.declared.statement.TypedRight.TheVariants as typed
use Rattle.cxx_program.specs.declared.statement.Converted.{Converted}
use Rattle.cxx_program.specs.Typed.{Scope, an_operand, a_read, an_address, a_result, an_object, Converts, IsCall, IsConverted, a_right, a_null_right}
use Rattle.cxx_expression.specs.declared.faults.Fault.{Fault}
use Rattle.cxx_expression.specs.declared.scene.Scene.{Scene}
use Rattle.cxx_expression.specs.declared.scene.Setting.{Setting}
use Rattle.cxx_expression.specs.declared.typed.RightValue.{RightValue}
use Rattle.cxx_expression.specs.Checked.{where_typed}
use Rattle.cxx_expression.specs.Laws.{PiecesAreComplete}
use Rattle.cxx_expression.specs.Values.{operand_of, class_of_spot, conversion_of}
use Rattle.cxx_expression.specs.Places.{leaf_of, object_place_of}
use Rattle.cxx_expression.specs.Calls.{call_of}
use Rattle.cxx_expression.specs.Operators.{right_value}
use Rattle.cxx_expression.specs.Rights.{operand_right, place_right, address_right, result_value, as_result, call_right, made, new_right, right_of, converted, converted_value, converted_right}
use Rattle.cxx_expression.proofs.Complete.{complete_first}
use Rattle.cxx_expression.proofs.CompletePlaces.{c_call}
use Rattle.cxx_expression.proofs.CompleteRights.{c_as_result, c_right, value_grows}
use Rattle.cxx_typing.proofs.Steps.{then_both, IsClean, clean_rest, clean_both}
use Rattle.cxx_typing.specs.Scopes.{PureAreVirtual, IsSetting, IsScene}
use Rattle.cxx_typing.proofs.Values.{operand_typed, BecomesNull, conversion_typed}
use Rattle.cxx_typing.proofs.Places.{leaf_typed, object_place_typed}
use Rattle.cxx_typing.proofs.Operators.{IsRight, right_is, binary_typed, not_typed}
use Rattle.cxx_typing.proofs.Casts.{class_typed, cast_right_typed, type_test_typed}
use Rattle.cxx_typing.proofs.Calls.{call_typed}

operand_right_typed : (h : Classes) (e : Setting) (s : Scene) (k : Scope) → IsSetting e k → IsScene s k → (at : ℕ) (x : Operand) (r : RightValue) → (operand_right e s at x).typed ≡ Ok r → IsRight h k r
unfolding operand_right
operand_right_typed h e s k f g at x r t =
    let v = then_both (operand_of e s at x).typed _ r t in
    let is = operand_typed e s k f g at x v.0 v.1 in
    let same : right_value (typed.Operand v.0.operand) v.0.ty v.0.is_null ≡ r = let last = v.2 in cc in
    subst (IsRight h k) same (record { right = typed.Operand v.0.operand; whole = refl; has = an_operand v.0.operand v.0.ty is.has; null = λ n. ap typed.Operand (is.null n) })

place_right_typed : (h : Classes) → IsHierarchy h → (e : Setting) (s : Scene) (k : Scope) → IsSetting e k → IsScene s k → (at : ℕ) (x : PlaceText) (r : RightValue) → (place_right h e s at x).typed ≡ Ok r → IsRight h k r
unfolding place_right
place_right_typed h keeps e s k f g at x r t =
    let v = then_both (leaf_of h e s at x).typed _ r t in
    let same : right_value (typed.Read v.0.place) v.0.ty false ≡ r = let last = v.2 in cc in
    right_is h k (typed.Read v.0.place) (right_value (typed.Read v.0.place) v.0.ty false) r same refl refl (a_read v.0.place v.0.ty (leaf_typed h keeps e s k f g at x v.0 v.1))

address_typed : (h : Classes) → IsHierarchy h → (e : Setting) (s : Scene) (k : Scope) → IsSetting e k → IsScene s k → (at : ℕ) (x : PlaceText) (r : RightValue) → (address_right h e s at x).typed ≡ Ok r → IsRight h k r
unfolding address_right
address_typed h keeps e s k f g at x r t =
    let v = then_both (object_place_of h e s at x).typed _ r t in
    let result = right_value (typed.Address v.0.place v.0.class) (type.Pointer v.0.class) false in
    let same : result ≡ r = let last = v.2 in cc in
    right_is h k (typed.Address v.0.place v.0.class) result r same refl refl (an_address v.0.place v.0.class (object_place_typed h keeps e s k f g at x v.0 v.1))

result_typed : (h : Classes) (k : Scope) (at : ℕ) (o : Result TypedCall Fault) (call : TypedCall) (f : Function ClassId) (ty : ReturnType ClassId) → o ≡ Ok call → IsCall h k call f → f.ret ≡ ty → (r : RightValue) → (as_result at o ty).typed ≡ Ok r → IsRight h k r
result_typed h k at o call f returns.Void there is ret r t = absurd (cc)
result_typed h k at o call f (returns.Value ty) there is ret r t =
    let same : result_value o ty ≡ r = cc in
    right_is h k (typed.Call call) (result_value o ty) r same refl (ap (where_typed typed.Call) there) (a_result call f ty is ret)

call_right_typed : PiecesAreComplete → (h : Classes) → IsHierarchy h → PureAreVirtual h → (e : Setting) (s : Scene) (k : Scope) → IsSetting e k → IsScene s k → (at : ℕ) (x : CallText) (r : RightValue) → IsClean (call_right h e s at x) r → IsRight h k r
unfolding call_right
call_right_typed q h keeps virtual e s k f g at x r i =
    let v = clean_both (call_of h e s at x) _ r (complete_first (call_of h e s at x) _ (c_call h e s at x)) (λ v. c_as_result at v.call v.returns) i in
    let is = call_typed q h keeps virtual e s k f g at x v.0 v.1 in
    result_typed h k at v.0.call is.call is.function v.0.returns is.there is.called is.returns r v.2.typed

made_typed : (h : Classes) (k : Scope) (at : ℕ) (abstract : Bool) (c : ClassId) → c.0 < length h → (r : RightValue) → (made at abstract c).typed ≡ Ok r → IsRight h k r
made_typed h k at true c known r t = absurd (cc)
made_typed h k at false c known r t =
    let same : right_value (typed.New c) (type.Pointer c) false ≡ r = cc in
    right_is h k (typed.New c) (right_value (typed.New c) (type.Pointer c) false) r same refl refl (an_object c known)

new_typed : (h : Classes) (k : Scope) (x : Spot) (r : RightValue) → (new_right h x).typed ≡ Ok r → IsRight h k r
unfolding new_right
new_typed h k x r t =
    let c = then_both (class_of_spot h x).typed _ r t in
    made_typed h k x.at (is_abstract h c.0) c.0 (class_typed h x c.0 c.1) r c.2

pub right_typed : PiecesAreComplete → (h : Classes) → IsHierarchy h → PureAreVirtual h → (e : Setting) (s : Scene) (k : Scope) → IsSetting e k → IsScene s k → (at : ℕ) (x : Right) (r : RightValue) → IsClean (right_of h e s at x) r → IsRight h k r
unfolding right_of
right_typed q h keeps virtual e s k f g at (right.Operand x) r i = operand_right_typed h e s k f g at x r i.typed
right_typed q h keeps virtual e s k f g at (right.Binary x op y) r i = binary_typed h keeps e s k f g at x op y r i.typed
right_typed q h keeps virtual e s k f g at (right.Not x) r i = not_typed h e s k f g at x r i.typed
right_typed q h keeps virtual e s k f g at (right.Place x) r i = place_right_typed h keeps e s k f g at x r i.typed
right_typed q h keeps virtual e s k f g at (right.Address x) r i = address_typed h keeps e s k f g at x r i.typed
right_typed q h keeps virtual e s k f g at (right.Call x) r i = call_right_typed q h keeps virtual e s k f g at x r (record { typed = i.typed; before = i.before; none = i.none })
right_typed q h keeps virtual e s k f g at (right.New x) r i = new_typed h k x r i.typed
right_typed q h keeps virtual e s k f g at (right.Cast x) r i = cast_right_typed h keeps e s k f g at x r i.typed
right_typed q h keeps virtual e s k f g at (right.TypeEqual x name) r i = type_test_typed h e s k f g at x name r i.typed

converted_by : (h : Classes) (k : Scope) (r : RightValue) (u : ValueType ClassId) (by : Conversion) → (i : IsRight h k r) → Converts h r.ty by u ⊎ BecomesNull r.is_null by u → IsConverted h k (converted i.right by) u
converted_by h k r u by i (inl c) = a_right (converted i.right by) r.ty u i.has c
converted_by h k r u by i (inr n) =
    subst (λ (ty : ValueType ClassId). IsConverted h k (converted i.right by) ty) (sym n.to)
    (subst (λ (x : Converted). IsConverted h k x (type.Pointer n.class)) (ap (λ (x : TypedRight). converted x conversion.Null) (sym (i.null n.null)) ∙ ap (converted i.right) (sym n.by_is)) (a_null_right n.class))

-- a right side of which all is typed, with its conversion
pub value_typed : (h : Classes) → IsHierarchy h → (k : Scope) (at : ℕ) (u : ValueType ClassId) (r : RightValue) (c : Converted) → IsRight h k r → (converted_value h at u r).typed ≡ Ok c → IsConverted h k c u
unfolding converted_value
value_typed h keeps k at u r c i t =
    let y = then_both (conversion_of h at r.ty r.is_null u).typed _ c t in
    let z = then_both r.right _ c y.2 in
    let there = z.1 in
    let last = z.2 in
    let one : i.right ≡ z.0 = let whole = i.whole in cc in
    let made : converted z.0 y.0 ≡ c = cc in
    let same : converted i.right y.0 ≡ c = ap (λ (x : TypedRight). converted x y.0) one ∙ made in
    subst (λ (x : Converted). IsConverted h k x u) same (converted_by h k r u y.0 i (conversion_typed h keeps at r.ty r.is_null u y.0 y.1))

pub converted_right_typed : PiecesAreComplete → (h : Classes) → IsHierarchy h → PureAreVirtual h → (e : Setting) (s : Scene) (k : Scope) → IsSetting e k → IsScene s k → (at : ℕ) (u : ValueType ClassId) (x : Right) (c : Converted) →
    IsClean (converted_right h e s at u x) c → IsConverted h k c u
unfolding converted_right
converted_right_typed q h keeps virtual e s k f g at u x c i =
    let r = clean_rest (right_of h e s at x) (converted_value h at u) c (complete_first (right_of h e s at x) _ (c_right h e s at x)) (value_grows h at u) i in
    value_typed h keeps k at u r.0 c (right_typed q h keeps virtual e s k f g at x r.0 r.1) r.2.typed
