-- Operands, pointers and conversions have the types that they are typed to.
use Rattle.std.proofs.Common.{◌≡◌, ◌⊎◌, ℕ, ◌≤◌, Bool, true, false, Option, Some, None, Ok, inl, inr, refl, sym, ◌∙◌, ap, subst, arith}
use Rattle.std.specs.Prelude.{nat_eq, nat_le, if◌then◌else◌, ℤ, pos, neg_ℤ, not, ◌&&◌}
use Rattle.std.proofs.lemmas.Int.{ints}
use Rattle.std.proofs.lemmas.Bool.{eqb-true, eq-eqb, leb-true, leb-false}
use Rattle.cxx_hierarchy.specs.declared.records.ClassId.{ClassId}
use Rattle.cxx_hierarchy.specs.declared.records.Scalar.TheVariants as scalar
use Rattle.cxx_hierarchy.specs.declared.records.ValueType.{ValueType}
use Rattle.cxx_hierarchy.specs.declared.records.ValueType.TheVariants as type
use Rattle.cxx_hierarchy.specs.Scalars.{IsInRange}
use Rattle.cxx_hierarchy.specs.Classes.{Classes}
use Rattle.cxx_hierarchy.specs.Hierarchies.{IsHierarchy}
use Rattle.cxx_hierarchy.specs.NameTables.{Text}
use Rattle.cxx_subobject.specs.declared.Subobject.{Subobject}
use Rattle.cxx_subobject.specs.Subobjects.{class_of as class_of_subobject, whole_of, IsOfClass}
use Rattle.cxx_subobject.proofs.PathLemmas.{same_id}
use Rattle.cxx_lookup.specs.Findings.{Finding, finds_none, finds_one, finds_more, base_by, IsBaseFinding}
use Rattle.cxx_lookup.proofs.BaseFindings.{base_is}
use Rattle.cxx_syntax.specs.declared.tree.Spot.{Spot}
use Rattle.cxx_syntax.specs.declared.tree.PointerText.{PointerText}
use Rattle.cxx_syntax.specs.declared.tree.PointerText.TheVariants as pointer
use Rattle.cxx_syntax.specs.declared.tree.Constant.{Constant}
use Rattle.cxx_syntax.specs.declared.tree.Constant.TheVariants as constant
use Rattle.cxx_syntax.specs.declared.tree.Operand.{Operand}
use Rattle.cxx_syntax.specs.declared.tree.Operand.TheVariants as operand
use Rattle.cxx_program.specs.declared.operand.Variable.{Variable}
use Rattle.cxx_program.specs.declared.operand.Variable.TheVariants.{Global, Local}
use Rattle.cxx_program.specs.declared.operand.TypedOperand.{TypedOperand}
use Rattle.cxx_program.specs.declared.operand.TypedOperand.TheVariants as typed
use Rattle.cxx_program.specs.declared.operand.Conversion.{Conversion}
use Rattle.cxx_program.specs.declared.operand.Conversion.TheVariants as conversion
use Rattle.cxx_program.specs.declared.operand.Argument.{Argument}
use Rattle.cxx_program.specs.Typed.{Scope, variable_type, HasType, of_variable, of_this, of_number, IsProperBase, Converts, to_number, to_same, to_base, IsArgument, a_value, a_null, zero_operand, IsWay}
use Rattle.cxx_expression.specs.declared.look_up.Based.{Based}
use Rattle.cxx_expression.specs.declared.look_up.Based.TheVariants as based
use Rattle.cxx_expression.specs.declared.scene.Entry.{Entry}
use Rattle.cxx_expression.specs.declared.scene.Scene.{Scene}
use Rattle.cxx_expression.specs.declared.scene.Setting.{Setting}
use Rattle.cxx_expression.specs.declared.typed.Value.{Value}
use Rattle.cxx_expression.specs.declared.typed.Pointer.{Pointer}
use Rattle.cxx_expression.specs.declared.typed.Number.{Number}
use Rattle.cxx_expression.specs.Checked.{pure}
use Rattle.cxx_expression.specs.Lookups.{as_based, base_up}
use Rattle.cxx_expression.specs.Scenes.{innermost_entry}
use Rattle.cxx_expression.specs.Values.{named_global, local_of, variable_of, named_value, this_pointer_value, within_long, spelled, truth, constant_of, operand_of, pointer_value, as_pointer, pointer_of, as_number, number_operand, as_base, path_to, conversion_by, class_conversion, conversion_of, argument, converted_operand, value}
use Rattle.foundation.proofs.Truth.{not_both}
use Rattle.cxx_typing.proofs.Steps.{then_both}
use Rattle.cxx_typing.specs.Scopes.{IsSetting, IsScene}
use Rattle.cxx_typing.proofs.Scopes.{named_entry}

-- variables

global_typed : (e : Setting) (k : Scope) → IsSetting e k → (at : ℕ) (name : Text) (o : Option Entry) → innermost_entry e.globals name ≡ o → (v : Variable × ValueType ClassId) → (named_global at o).typed ≡ Ok v → variable_type k v.0 ≡ Some v.1
global_typed e k f at name None is v t = absurd (cc)
global_typed e k f at name (Some x) is v t =
    let same : (Global x.number, x.ty) ≡ v = cc in
    subst (λ (u : Variable × ValueType ClassId). variable_type k u.0 ≡ Some u.1) same (f.globals x (named_entry e.globals name x is))

local_typed : (e : Setting) (s : Scene) (k : Scope) → IsSetting e k → IsScene s k → (x : Spot) (o : Option Entry) → innermost_entry s.entries x.name ≡ o → (v : Variable × ValueType ClassId) → (local_of e x o).typed ≡ Ok v → variable_type k v.0 ≡ Some v.1
local_typed e s k f g x None is v t = global_typed e k f x.at x.name (innermost_entry e.globals x.name) refl v t
local_typed e s k f g x (Some y) is v t =
    let same : (Local y.number, y.ty) ≡ v = cc in
    subst (λ (u : Variable × ValueType ClassId). variable_type k u.0 ≡ Some u.1) same (g.locals y (named_entry s.entries x.name y is))

pub variable_typed : (e : Setting) (s : Scene) (k : Scope) → IsSetting e k → IsScene s k → (x : Spot) (v : Variable × ValueType ClassId) → (variable_of e s x).typed ≡ Ok v → variable_type k v.0 ≡ Some v.1
unfolding variable_of
variable_typed e s k f g x v t = local_typed e s k f g x (innermost_entry s.entries x.name) refl v t

-- operands

-- the value has its type, and where it is a null pointer constant it is the number 0
pub record IsValue (k : Scope) (v : Value) : Type 0 where
  pub has : HasType k v.operand v.ty
  pub null : v.is_null ≡ true → v.operand ≡ zero_operand

valued : (k : Scope) (v w : Value) → IsValue k v → v ≡ w → IsValue k w
valued k v w i e = subst (IsValue k) e i

named_typed : (e : Setting) (s : Scene) (k : Scope) → IsSetting e k → IsScene s k → (x : Spot) (v : Value) → (named_value e s x).typed ≡ Ok v → IsValue k v
unfolding named_value
named_typed e s k f g x v t =
    let r = then_both (variable_of e s x).typed _ v t in
    let same : value (typed.Variable r.0.0) r.0.1 false ≡ v = let q = r.2 in cc in
    valued k _ v (record { has = of_variable r.0.0 r.0.1 (variable_typed e s k f g x r.0 r.1); null = λ n. absurd (cc) }) same

this_typed : (e : Setting) (k : Scope) → IsSetting e k → (at : ℕ) (o : Option ClassId) → e.this_class ≡ o → (v : Value) → (this_pointer_value at o).typed ≡ Ok v → IsValue k v
this_typed e k f at None is v t = absurd (cc)
this_typed e k f at (Some c) is v t =
    let same : value typed.This (type.Pointer c) false ≡ v = cc in
    valued k _ v (record { has = of_this c (f.this ∙ is); null = λ n. absurd (cc) }) same

capped : (n most : ℕ) (t : Bool) → nat_le n most ≡ t → ((if t then n else most) ≤ n) × ((if t then n else most) ≤ most)
capped n most true is = let le : n ≤ most = leb-true n most is in (omega arith, omega arith)
capped n most false is = let lt = leb-false n most is in (omega arith, omega arith)

written : Bool → ℕ → ℤ
written false m = pos m
written true m = neg_ℤ (pos m)

int_written : (negative : Bool) (m : ℕ) → m ≤ 2147483647 → IsInRange scalar.Int (written negative m)
unfolding written
int_written false m small = record { least = omega (arith, ints); greatest = omega (arith, ints) }
int_written true m small = record { least = omega (arith, ints); greatest = omega (arith, ints) }

long_written : (negative : Bool) (m : ℕ) → m ≤ 9223372036854775807 → IsInRange scalar.Long (written negative m)
unfolding written
long_written false m small = record { least = omega (arith, ints); greatest = omega (arith, ints) }
long_written true m small = record { least = omega (arith, ints); greatest = omega (arith, ints) }

spelled_written : (negative : Bool) (n : ℕ) → written negative (within_long n) ≡ spelled negative n
unfolding written
spelled_written false n = refl
spelled_written true n = refl

int_spelled : (negative : Bool) (n : ℕ) → nat_le n 2147483647 ≡ true → IsInRange scalar.Int (spelled negative n)
int_spelled negative n small =
    let few = leb-true n 2147483647 small in
    let cap = capped n 9223372036854775807 (nat_le n 9223372036854775807) refl in
    let first = cap.0 in
    let within : within_long n ≤ 2147483647 = omega arith in
    subst (IsInRange scalar.Int) (spelled_written negative n) (int_written negative (within_long n) within)

long_spelled : (negative : Bool) (n : ℕ) → IsInRange scalar.Long (spelled negative n)
long_spelled negative n =
    let cap = capped n 9223372036854775807 (nat_le n 9223372036854775807) refl in
    subst (IsInRange scalar.Long) (spelled_written negative n) (long_written negative (within_long n) cap.1)

zero_spelled : (negative : Bool) (n : ℕ) → (nat_eq n 0 && not negative) ≡ true → typed.Number (spelled negative n) ≡ zero_operand
zero_spelled negative n is = by_test negative (nat_eq n 0) refl is
  where
    by_test : (negative : Bool) (t : Bool) → nat_eq n 0 ≡ t → (t && not negative) ≡ true → typed.Number (spelled negative n) ≡ zero_operand
    by_test false true e is = ap (λ (m : ℕ). typed.Number (spelled false m)) (eqb-true n 0 e)
    by_test true true e is = absurd (cc)
    by_test negative false e is = absurd (cc)

number_by : (k : Scope) (z : _) (t : Bool) → (t ≡ true → IsInRange scalar.Int z) → IsInRange scalar.Long z → HasType k (typed.Number z) (type.Number (if t then scalar.Int else scalar.Long))
number_by k z true small long = of_number z scalar.Int (small refl)
number_by k z false small long = of_number z scalar.Long long

truth_range : (b : Bool) → IsInRange scalar.Bool (truth b)
truth_range true = record { least = omega (arith, ints); greatest = omega (arith, ints) }
truth_range false = record { least = omega (arith, ints); greatest = omega (arith, ints) }

pub constant_typed : (k : Scope) (c : Constant) → IsValue k (constant_of c)
constant_typed k (constant.Number negative n at) = record {
  has = number_by k (spelled negative n) (nat_le n 2147483647) (int_spelled negative n) (long_spelled negative n);
  null = zero_spelled negative n;
}
constant_typed k (constant.Truth b at) = record { has = of_number (truth b) scalar.Bool (truth_range b); null = λ n. absurd (cc) }

pub operand_typed : (e : Setting) (s : Scene) (k : Scope) → IsSetting e k → IsScene s k → (at : ℕ) (x : Operand) (v : Value) → (operand_of e s at x).typed ≡ Ok v → IsValue k v
unfolding operand_of
operand_typed e s k f g at (operand.Name x) v t = named_typed e s k f g x v t
operand_typed e s k f g at (operand.This place) v t = this_typed e k f at e.this_class refl v t
operand_typed e s k f g at (operand.Constant c) v t = let same : constant_of c ≡ v = cc in valued k _ v (constant_typed k c) same

pointer_value_typed : (e : Setting) (s : Scene) (k : Scope) → IsSetting e k → IsScene s k → (at : ℕ) (x : PointerText) (v : Value) → (pointer_value e s at x).typed ≡ Ok v → IsValue k v
unfolding pointer_value
pointer_value_typed e s k f g at (pointer.Name x) v t = named_typed e s k f g x v t
pointer_value_typed e s k f g at (pointer.This place) v t = this_typed e k f at e.this_class refl v t

as_pointer_typed : (k : Scope) (at : ℕ) (x : TypedOperand) (ty : ValueType ClassId) → HasType k x ty → (p : Pointer) → (as_pointer at x ty).typed ≡ Ok p → HasType k p.operand (type.Pointer p.class)
as_pointer_typed k at x (type.Number n) has p t = absurd (cc)
as_pointer_typed k at x (type.Pointer c) has p t =
    let same : record { operand = x; class = c } ≡ p = cc in subst (λ (q : Pointer). HasType k q.operand (type.Pointer q.class)) same has

pub pointer_typed : (e : Setting) (s : Scene) (k : Scope) → IsSetting e k → IsScene s k → (at : ℕ) (x : PointerText) (p : Pointer) → (pointer_of e s at x).typed ≡ Ok p → HasType k p.operand (type.Pointer p.class)
unfolding pointer_of
pointer_typed e s k f g at x p t =
    let r = then_both (pointer_value e s at x).typed _ p t in
    as_pointer_typed k at r.0.operand r.0.ty (pointer_value_typed e s k f g at x r.0 r.1).has p r.2

as_number_typed : (k : Scope) (at : ℕ) (x : TypedOperand) (ty : ValueType ClassId) → HasType k x ty → (p : Number) → (as_number at x ty).typed ≡ Ok p → HasType k p.operand (type.Number p.scalar)
as_number_typed k at x (type.Pointer c) has p t = absurd (cc)
as_number_typed k at x (type.Number n) has p t =
    let same : record { operand = x; scalar = n } ≡ p = cc in subst (λ (q : Number). HasType k q.operand (type.Number q.scalar)) same has

pub number_typed : (e : Setting) (s : Scene) (k : Scope) → IsSetting e k → IsScene s k → (at : ℕ) (x : Operand) (p : Number) → (number_operand e s at x).typed ≡ Ok p → HasType k p.operand (type.Number p.scalar)
unfolding number_operand
number_typed e s k f g at x p t =
    let r = then_both (operand_of e s at x).typed _ p t in
    as_number_typed k at r.0.operand r.0.ty (operand_typed e s k f g at x r.0 r.1).has p r.2

-- bases

pub apart_by : (c d : ClassId) → nat_eq c.0 d.0 ≡ false → c ≡ d → ⊥
apart_by c d is same = not_both {b = nat_eq c.0 d.0} (eq-eqb c.0 d.0 (ap (λ (x : ClassId). x.0) same)) is

different : (c d : ClassId) (s : Subobject) → (c ≡ d → ⊥) → class_of_subobject s ≡ Some d → s ≡ whole_of c → ⊥
different c d s apart of is =
    let at : Some c ≡ Some d = ap class_of_subobject (sym is) ∙ of in
    let same : c ≡ d = cc in
    apart same

found_base : (h : Classes) (c d : ClassId) (finding : Finding Subobject) → IsBaseFinding h c d finding → (s : Subobject) → as_based finding ≡ based.Base s → IsOfClass h c d s
found_base h c d finds_none is s e = absurd (cc)
found_base h c d (finds_one x) is s e = let same : x ≡ s = cc in subst (IsOfClass h c d) same is.is
found_base h c d finds_more is s e = absurd (cc)

-- the look-up of a base of another class finds a proper base
pub proper_base : (h : Classes) → IsHierarchy h → (c d : ClassId) (s : Subobject) → (c ≡ d → ⊥) → base_up h c d ≡ based.Base s → IsProperBase h c s d
unfolding base_up
proper_base h keeps c d s apart e =
    let i = found_base h c d (base_by h c d) (base_is h keeps c d) s e in
    record { valid = i.valid; class = i.class; proper = different c d s apart i.class }

way_by : (h : Classes) → IsHierarchy h → (at : ℕ) (c d : ClassId) (b : Based) → (c ≡ d → ⊥) → base_up h c d ≡ b → (o : Option Subobject) → (as_base at b).typed ≡ Ok o → IsWay h c o d
way_by h keeps at c d based.NotBase apart is o t = absurd (cc)
way_by h keeps at c d based.TwoBases apart is o t = absurd (cc)
way_by h keeps at c d (based.Base s) apart is o t = let same : Some s ≡ o = cc in subst (λ (p : Option Subobject). IsWay h c p d) same (proper_base h keeps c d s apart is)

way_if : (h : Classes) → IsHierarchy h → (at : ℕ) (c d : ClassId) (same : Bool) → nat_eq c.0 d.0 ≡ same → (o : Option Subobject) → (if same then pure None else as_base at (base_up h c d)).typed ≡ Ok o → IsWay h c o d
way_if h keeps at c d true is o t = let none : None ≡ o = cc in subst (λ (p : Option Subobject). IsWay h c p d) none (same_id c d (eqb-true c.0 d.0 is))
way_if h keeps at c d false is o t = way_by h keeps at c d (base_up h c d) (apart_by c d is) refl o t

pub way_typed : (h : Classes) → IsHierarchy h → (at : ℕ) (c d : ClassId) (o : Option Subobject) → (path_to h at c d).typed ≡ Ok o → IsWay h c o d
unfolding path_to
way_typed h keeps at c d o t = way_if h keeps at c d (nat_eq c.0 d.0) refl o t

-- conversions

way_converts : (h : Classes) (c d : ClassId) (o : Option Subobject) → IsWay h c o d → Converts h (type.Pointer c) (conversion_by o) (type.Pointer d)
way_converts h c d None is = subst (λ (x : ClassId). Converts h (type.Pointer c) conversion.Same (type.Pointer x)) is (to_same (type.Pointer c))
way_converts h c d (Some i) is = to_base c d i is

class_converts : (h : Classes) → IsHierarchy h → (at : ℕ) (c d : ClassId) (by : Conversion) → (class_conversion h at c d).typed ≡ Ok by → Converts h (type.Pointer c) by (type.Pointer d)
unfolding class_conversion
class_converts h keeps at c d by t =
    let r = then_both (path_to h at c d).typed _ by t in
    let same : conversion_by r.0 ≡ by = let q = r.2 in cc in
    subst (λ (x : Conversion). Converts h (type.Pointer c) x (type.Pointer d)) same (way_converts h c d r.0 (way_typed h keeps at c d r.0 r.1))

-- a null pointer constant becomes a null pointer
pub record BecomesNull (is_null : Bool) (by : Conversion) (u : ValueType ClassId) : Type 0 where
  pub class : ClassId
  pub null : is_null ≡ true
  pub by_is : by ≡ conversion.Null
  pub to : u ≡ type.Pointer class

pub conversion_typed : (h : Classes) → IsHierarchy h → (at : ℕ) (ty : ValueType ClassId) (is_null : Bool) (u : ValueType ClassId) (by : Conversion) → (conversion_of h at ty is_null u).typed ≡ Ok by →
    Converts h ty by u ⊎ BecomesNull is_null by u
unfolding conversion_of
conversion_typed h keeps at (type.Number s) is_null (type.Number u) by t = let same : conversion.Number u ≡ by = cc in inl (subst (λ (x : Conversion). Converts h (type.Number s) x (type.Number u)) same (to_number s u))
conversion_typed h keeps at (type.Number s) true (type.Pointer d) by t = inr (record { class = d; null = refl; by_is = cc; to = refl })
conversion_typed h keeps at (type.Number s) false (type.Pointer d) by t = absurd (cc)
conversion_typed h keeps at (type.Pointer c) is_null (type.Number u) by t = absurd (cc)
conversion_typed h keeps at (type.Pointer c) is_null (type.Pointer d) by t = inl (class_converts h keeps at c d by t)

pub argument_by : (h : Classes) (k : Scope) (v : Value) (u : ValueType ClassId) (by : Conversion) → IsValue k v → Converts h v.ty by u ⊎ BecomesNull v.is_null by u → IsArgument h k (argument v.operand by) u
argument_by h k v u by i (inl c) = a_value (argument v.operand by) v.ty u i.has c
argument_by h k v u by i (inr n) =
    subst (λ (ty : ValueType ClassId). IsArgument h k (argument v.operand by) ty) (sym n.to)
    (subst (λ (a : Argument). IsArgument h k a (type.Pointer n.class)) (ap (λ (x : TypedOperand). argument x conversion.Null) (sym (i.null n.null)) ∙ ap (argument v.operand) (sym n.by_is)) (a_null n.class))

pub converted_typed : (h : Classes) → IsHierarchy h → (e : Setting) (s : Scene) (k : Scope) → IsSetting e k → IsScene s k → (at : ℕ) (u : ValueType ClassId) (x : Operand) (a : Argument) → (converted_operand h e s at u x).typed ≡ Ok a → IsArgument h k a u
unfolding converted_operand
converted_typed h keeps e s k f g at u x a t =
    let r = then_both (operand_of e s at x).typed _ a t in
    let q = then_both (conversion_of h at r.0.ty r.0.is_null u).typed _ a r.2 in
    let same : argument r.0.operand q.0 ≡ a = let last = q.2 in cc in
    subst (λ (y : Argument). IsArgument h k y u) same (argument_by h k r.0 u q.0 (operand_typed e s k f g at x r.0 r.1) (conversion_typed h keeps at r.0.ty r.0.is_null u q.0 q.1))
