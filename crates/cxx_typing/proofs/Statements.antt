-- Statements are typed.
use Rattle.std.proofs.Common.{◌≡◌, ℕ, Bool, true, false, Option, Some, None, Ok, refl, sym, ◌∙◌, ap, subst, length, arith}
use Rattle.std.specs.Prelude.{nat_eq, if◌then◌else◌, slice_get}
use Rattle.std.proofs.lemmas.Bool.{eqb-true}
use Rattle.cxx_hierarchy.specs.declared.records.ClassId.{ClassId}
use Rattle.cxx_hierarchy.specs.declared.records.ValueType.{ValueType}
use Rattle.cxx_hierarchy.specs.declared.records.ValueType.TheVariants as type
use Rattle.cxx_hierarchy.specs.declared.stop.Rule.TheVariants as rule
use Rattle.cxx_hierarchy.specs.Classes.{Classes}
use Rattle.cxx_hierarchy.specs.Hierarchies.{IsHierarchy}
use Rattle.cxx_hierarchy.specs.NameTables.{Text}
use Rattle.cxx_subobject.proofs.PathLemmas.{same_id}
use Rattle.cxx_syntax.specs.declared.tree.Spot.{Spot}
use Rattle.cxx_syntax.specs.declared.tree.PointerText.{PointerText}
use Rattle.cxx_syntax.specs.declared.tree.PlaceText.{PlaceText}
use Rattle.cxx_syntax.specs.declared.tree.CallText.{CallText}
use Rattle.cxx_syntax.specs.declared.tree.Operand.{Operand}
use Rattle.cxx_syntax.specs.declared.tree.Right.{Right}
use Rattle.cxx_syntax.specs.declared.tree.StatementKind.{StatementKind, If'}
use Rattle.cxx_syntax.specs.declared.tree.StatementKind as statement
use Rattle.cxx_hierarchy.specs.declared.records.ReturnType.TheVariants.{Value as ValueReturn}
use Rattle.cxx_program.specs.declared.operand.Variable.{Variable}
use Rattle.cxx_program.specs.declared.statement.TypedKind.{TypedKind}
use Rattle.cxx_program.specs.declared.statement.TypedKind.TheVariants as typed
use Rattle.cxx_program.specs.Typed.{Scope, IsKnown, HasType, place_width, IsTyped, declares, begins, assigns, writes, copies, calls, deletes, returns_nothing, returns_value, prints, prints_type, prints_view, dumps}
use Rattle.cxx_expression.specs.declared.scene.Scene.{Scene}
use Rattle.cxx_expression.specs.declared.scene.Setting.{Setting}
use Rattle.cxx_expression.specs.declared.scene.Returns.{Returns}
use Rattle.cxx_expression.specs.declared.scene.Returns.TheVariants as returns
use Rattle.cxx_expression.specs.declared.typed.Pointer.{Pointer}
use Rattle.cxx_expression.specs.declared.typed.RightValue.{RightValue}
use Rattle.cxx_expression.specs.Checked.{pure, fail, warn, both}
use Rattle.cxx_expression.specs.Laws.{IsComplete, PiecesAreComplete}
use Rattle.cxx_expression.specs.Scenes.{with_variable, is_taken}
use Rattle.cxx_expression.specs.Values.{class_named, type_of, variable_of, operand_of, pointer_of, number_operand, conversion_of, converted_operand, fitted, argument}
use Rattle.cxx_expression.specs.Places.{leaf_of}
use Rattle.cxx_expression.specs.Calls.{whole_call}
use Rattle.cxx_expression.specs.Casts.{polymorphic_pointer}
use Rattle.cxx_expression.specs.Rights.{right_of, converted_value, converted_right}
use Rattle.cxx_expression.proofs.Complete.{complete_pure, complete_warn, complete_bind, complete_both, complete_if, complete_first, whole_grows}
use Rattle.cxx_expression.proofs.CompleteRights.{c_right, value_grows}
use Rattle.cxx_resolve.specs.Statements.{new_variable, first_value, declare_of, assign_of, write_of, copy_of, call_statement, delete_of, value_return, typed_return, returned_kind, print_of, print_type_of, print_view_of, dump_of, plain_of}
use Rattle.cxx_typing.specs.Pieces.{IsTypedDeclaration, StatementsAreTyped}
use Rattle.cxx_typing.proofs.Steps.{then_both, pair_both, IsClean, clean_rest, clean_both, clean_pair, settled_clean}
use Rattle.cxx_typing.specs.Scopes.{PureAreVirtual, wanted, IsSetting, IsScene}
use Rattle.cxx_typing.proofs.Values.{variable_typed, operand_typed, pointer_typed, number_typed, conversion_typed, argument_by, converted_typed}
use Rattle.cxx_typing.proofs.Widths.{place_number, conversion_number, kept_by}
use Rattle.cxx_typing.proofs.Places.{leaf_typed}
use Rattle.cxx_typing.proofs.Casts.{named_class_typed, polymorphic_typed}
use Rattle.cxx_typing.proofs.Calls.{whole_call_typed}
use Rattle.cxx_typing.proofs.Rights.{right_typed, value_typed, converted_right_typed}

kind_is : (h : Classes) (k : Scope) (a b : TypedKind) → a ≡ b → IsTyped h k a → IsTyped h k b
kind_is h k a b same is = subst (IsTyped h k) same is

-- declarations

pub type_typed : (h : Classes) (ty : ValueType Text) (at : ℕ) (u : ValueType ClassId) → (type_of h ty at).typed ≡ Ok u → IsKnown h u
unfolding type_of
type_typed h (type.Number n) at u t = let same : type.Number n ≡ u = cc in subst (IsKnown h) same tt
type_typed h (type.Pointer name) at u t =
    let c = then_both (class_named h name at).typed _ u t in
    let same : type.Pointer c.0 ≡ u = let last = c.2 in cc in
    subst (IsKnown h) same (named_class_typed h name at c.0 c.1)

either : (t : Bool) (at : ℕ) (u v : ValueType ClassId) → (if t then warn rule.DuplicateMember at u else pure u).typed ≡ Ok v → u ≡ v
either true at u v e = cc
either false at u v e = cc

new_typed : (h : Classes) (s : Scene) (ty : ValueType Text) (at : ℕ) (x : Spot) (u : ValueType ClassId) → (new_variable h s ty at x).typed ≡ Ok u → IsKnown h u
unfolding new_variable
new_typed h s ty at x u t =
    let r = then_both (type_of h ty at).typed _ u t in
    subst (IsKnown h) (either (is_taken s x.name) x.at r.0 u r.2) (type_typed h ty at r.0 r.1)

first_typed : PiecesAreComplete → (h : Classes) → IsHierarchy h → PureAreVirtual h → (e : Setting) (s : Scene) (k : Scope) → IsSetting e k → IsScene s k → (at : ℕ) (u : ValueType ClassId) (n : ℕ) → slice_get k.locals n ≡ Some u →
    (init : Option Right) (kind : TypedKind) → IsClean (first_value h e s at u n init) kind → IsTyped h k kind
unfolding first_value
first_typed q h keeps virtual e s k f g at u n there None kind i = let t = i.typed in kind_is h k (typed.Declare n None) kind (cc) (declares n u there)
first_typed q h keeps virtual e s k f g at u n there (Some r) kind i =
    let c = clean_both (converted_right h e s at u r) _ kind (q.right h e s at u r) (λ y. complete_pure _) i in
    let last = c.2.typed in
    kind_is h k (typed.Declare n (Some c.0)) kind (cc) (begins n c.0 u there (converted_right_typed q h keeps virtual e s k f g at u r c.0 c.1))

c_new_variable : PiecesAreComplete → (h : Classes) (s : Scene) (ty : ValueType Text) (at : ℕ) (x : Spot) → IsComplete (new_variable h s ty at x)
unfolding new_variable
c_new_variable q h s ty at x = complete_bind _ _ (q.type_of h ty at) (λ t. complete_if (is_taken s x.name) _ _ (complete_warn _ _ _) (complete_pure _))

c_first_value : PiecesAreComplete → (h : Classes) (e : Setting) (s : Scene) (at : ℕ) (t : ValueType ClassId) (n : ℕ) (init : Option Right) → IsComplete (first_value h e s at t n init)
unfolding first_value
c_first_value q h e s at t n None = complete_pure _
c_first_value q h e s at t n (Some r) = complete_bind _ _ (q.right h e s at t r) (λ c. complete_pure _)

pub declare_typed : PiecesAreComplete → (h : Classes) → IsHierarchy h → PureAreVirtual h → (e : Setting) (s : Scene) (at : ℕ) (ty : ValueType Text) (ty_at : ℕ) (x : Spot) (init : Option Right) (r : TypedKind × Scene) →
    IsClean (declare_of h e s at ty ty_at x init) r → IsTypedDeclaration h e s x r
unfolding declare_of
declare_typed q h keeps virtual e s at ty ty_at x init r i =
    let u = clean_both (new_variable h s ty ty_at x) _ r (c_new_variable q h s ty ty_at x) (λ t. complete_bind _ _ (c_first_value q h e (with_variable s x.name t) at t (length s.types) init) (λ k. complete_pure _)) i in
    let v = clean_both (first_value h e (with_variable s x.name u.0) at u.0 (length s.types) init) _ r (c_first_value q h e (with_variable s x.name u.0) at u.0 (length s.types) init) (λ k. complete_pure _) u.2 in
    let last = v.2.typed in
    let kind : v.0 ≡ r.0 = cc in
    let scene : with_variable s x.name u.0 ≡ r.1 = cc in
    record {
      ty = u.0;
      known = new_typed h s ty ty_at x u.0 u.1.typed;
      scene = sym scene;
      typed = λ k f g there. kind_is h k v.0 r.0 kind (first_typed q h keeps virtual e (with_variable s x.name u.0) k f g at u.0 (length s.types) there init v.0 v.1);
    }

-- other statements

assign_typed : PiecesAreComplete → (h : Classes) → IsHierarchy h → PureAreVirtual h → (e : Setting) (s : Scene) (k : Scope) → IsSetting e k → IsScene s k → (at : ℕ) (x : Spot) (r : Right) (kind : TypedKind) → IsClean (assign_of h e s at x r) kind → IsTyped h k kind
unfolding assign_of
assign_typed q h keeps virtual e s k f g at x r kind i =
    let grows = complete_first (right_of h e s at r) _ (c_right h e s at r) in
    let next = λ (p : (Variable × ValueType ClassId) × RightValue). converted_value h at p.0.1 p.1 in
    let p = clean_rest (both (variable_of e s x) (right_of h e s at r)) _ kind (complete_both _ _ (q.variable e s x) grows)
    (λ p b. let c = next p in omega (arith, value_grows h at p.0.1 p.1 b, whole_grows c.typed (λ y. pure (typed.Assign p.0.0 y)) (λ y fs. omega arith) (c.faults b))) i in
    let b = clean_pair (variable_of e s x) (right_of h e s at r) p.0 (q.variable e s x) grows p.1 in
    let c = then_both (converted_value h at p.0.0.1 p.0.1).typed _ kind p.2.typed in
    let last = c.2 in
    kind_is h k (typed.Assign p.0.0.0 c.0) kind (cc)
    (assigns p.0.0.0 c.0 p.0.0.1 (variable_typed e s k f g x p.0.0 b.0.typed) (value_typed h keeps k at p.0.0.1 p.0.1 c.0 (right_typed q h keeps virtual e s k f g at r p.0.1 b.1) c.1))

write_typed : (h : Classes) → IsHierarchy h → (e : Setting) (s : Scene) (k : Scope) → IsSetting e k → IsScene s k → (at : ℕ) (place : PlaceText) (x : Operand) (kind : TypedKind) → (write_of h e s at place x).typed ≡ Ok kind → IsTyped h k kind
unfolding write_of
write_typed h keeps e s k f g at place x kind t =
    let p = then_both _ _ kind t in
    let b = pair_both (leaf_of h e s at place).typed (operand_of e s at x).typed p.0 p.1 in
    let c = then_both (conversion_of h at p.0.1.ty p.0.1.is_null p.0.0.ty).typed _ kind p.2 in
    let last = c.2 in
    let width = place_width h p.0.0.place in
    let is = operand_typed e s k f g at x p.0.1 b.1 in
    let leads = leaf_typed h keeps e s k f g at place p.0.0 b.0 in
    kind_is h k (typed.Write p.0.0.place (argument p.0.1.operand (fitted width c.0))) kind (cc)
    (writes p.0.0.place (argument p.0.1.operand (fitted width c.0)) p.0.0.ty leads
    (kept_by h k p.0.1 p.0.0.ty c.0 width is (argument_by h k p.0.1 p.0.0.ty c.0 is (conversion_typed h keeps at p.0.1.ty p.0.1.is_null p.0.0.ty c.0 c.1))
    (λ n wide. conversion_number h at p.0.1.ty p.0.1.is_null p.0.0.ty (place_number h keeps k p.0.0.place p.0.0.ty leads n wide) c.0 c.1)))

same_if : (h : Classes) (k : Scope) (p : Pointer × Pointer) (t : Bool) (at : ℕ) → nat_eq p.0.class.0 p.1.class.0 ≡ t → HasType k p.0.operand (type.Pointer p.0.class) → HasType k p.1.operand (type.Pointer p.1.class) → (kind : TypedKind) →
    (if t then pure (typed.Copy p.0.operand p.1.operand p.0.class) else fail rule.TypeMismatch at).typed ≡ Ok kind → IsTyped h k kind
same_if h k p true at is a b kind t =
    let one : p.1.class ≡ p.0.class = sym (same_id p.0.class p.1.class (eqb-true p.0.class.0 p.1.class.0 is)) in
    kind_is h k (typed.Copy p.0.operand p.1.operand p.0.class) kind (cc) (copies p.0.operand p.1.operand p.0.class a (subst (λ (c : ClassId). HasType k p.1.operand (type.Pointer c)) one b))
same_if h k p false at is a b kind t = absurd (cc)

copy_typed : (h : Classes) (e : Setting) (s : Scene) (k : Scope) → IsSetting e k → IsScene s k → (at : ℕ) (to source : PointerText) (kind : TypedKind) → (copy_of e s at to source).typed ≡ Ok kind → IsTyped h k kind
unfolding copy_of
copy_typed h e s k f g at to source kind t =
    let p = then_both _ _ kind t in
    let b = pair_both (pointer_of e s at to).typed (pointer_of e s at source).typed p.0 p.1 in
    same_if h k p.0 (nat_eq p.0.0.class.0 p.0.1.class.0) at refl (pointer_typed e s k f g at to p.0.0 b.0) (pointer_typed e s k f g at source p.0.1 b.1) kind p.2

call_statement_typed : PiecesAreComplete → (h : Classes) → IsHierarchy h → PureAreVirtual h → (e : Setting) (s : Scene) (k : Scope) → IsSetting e k → IsScene s k → (at : ℕ) (x : CallText) (kind : TypedKind) → IsClean (call_statement h e s at x) kind → IsTyped h k kind
unfolding call_statement
call_statement_typed q h keeps virtual e s k f g at x kind i =
    let v = clean_both (whole_call h e s at x) _ kind (q.call h e s at x) (λ c. complete_pure _) i in
    let is = whole_call_typed q h keeps virtual e s k f g at x v.0 v.1 in
    let last = v.2.typed in
    kind_is h k (typed.Call v.0) kind (cc) (calls v.0 is.function is.called)

delete_typed : (h : Classes) (e : Setting) (s : Scene) (k : Scope) → IsSetting e k → IsScene s k → (at : ℕ) (x : PointerText) (kind : TypedKind) → (delete_of e s at x).typed ≡ Ok kind → IsTyped h k kind
unfolding delete_of
delete_typed h e s k f g at x kind t =
    let p = then_both (pointer_of e s at x).typed _ kind t in
    let last = p.2 in
    kind_is h k (typed.Delete p.0.operand p.0.class) kind (cc) (deletes p.0.operand p.0.class (pointer_typed e s k f g at x p.0 p.1))

value_return_typed : (h : Classes) → IsHierarchy h → (e : Setting) (s : Scene) (k : Scope) → IsSetting e k → IsScene s k → (at : ℕ) (u : ValueType ClassId) → wanted e.returns ≡ Some (ValueReturn u) → (x : Operand) (kind : TypedKind) →
    (value_return h e s at u x).typed ≡ Ok kind → IsTyped h k kind
unfolding value_return
value_return_typed h keeps e s k f g at u wants x kind t =
    let a = then_both (converted_operand h e s at u x).typed _ kind t in
    let last = a.2 in
    kind_is h k (typed.Return (Some a.0)) kind (cc) (returns_value a.0 u (f.returns ∙ wants) (converted_typed h keeps e s k f g at u x a.0 a.1))

return_by : (h : Classes) → IsHierarchy h → (e : Setting) (s : Scene) (k : Scope) → IsSetting e k → IsScene s k → (at : ℕ) (ret : Returns) → e.returns ≡ ret → (x : Option Operand) (kind : TypedKind) → (typed_return h e s at ret x).typed ≡ Ok kind → IsTyped h k kind
return_by h keeps e s k f g at returns.Nowhere is x kind t = absurd (cc)
return_by h keeps e s k f g at returns.Nothing is None kind t = kind_is h k (typed.Return None) kind (cc) (returns_nothing (f.returns ∙ ap wanted is))
return_by h keeps e s k f g at returns.Nothing is (Some x) kind t = absurd (cc)
return_by h keeps e s k f g at (returns.Value u) is None kind t = absurd (cc)
return_by h keeps e s k f g at (returns.Value u) is (Some x) kind t = value_return_typed h keeps e s k f g at u (ap wanted is) x kind t

return_typed : (h : Classes) → IsHierarchy h → (e : Setting) (s : Scene) (k : Scope) → IsSetting e k → IsScene s k → (at : ℕ) (x : Option Operand) (kind : TypedKind) → (returned_kind h e s at x).typed ≡ Ok kind → IsTyped h k kind
unfolding returned_kind
return_typed h keeps e s k f g at x kind t = return_by h keeps e s k f g at e.returns refl x kind t

print_typed : (h : Classes) (e : Setting) (s : Scene) (k : Scope) → IsSetting e k → IsScene s k → (at : ℕ) (x : Operand) (kind : TypedKind) → (print_of e s at x).typed ≡ Ok kind → IsTyped h k kind
unfolding print_of
print_typed h e s k f g at x kind t =
    let v = then_both (operand_of e s at x).typed _ kind t in
    let last = v.2 in
    kind_is h k (typed.Print v.0.operand) kind (cc) (prints v.0.operand v.0.ty (operand_typed e s k f g at x v.0 v.1).has)

print_type_typed : (h : Classes) (e : Setting) (s : Scene) (k : Scope) → IsSetting e k → IsScene s k → (at : ℕ) (x : PointerText) (kind : TypedKind) → (print_type_of h e s at x).typed ≡ Ok kind → IsTyped h k kind
unfolding print_type_of
print_type_typed h e s k f g at x kind t =
    let p = then_both (polymorphic_pointer h e s at x).typed _ kind t in
    let is = polymorphic_typed h e s k f g at x p.0 p.1 in
    let last = p.2 in
    kind_is h k (typed.PrintType p.0.operand p.0.class) kind (cc) (prints_type p.0.operand p.0.class is.has is.class)

print_view_typed : (h : Classes) (e : Setting) (s : Scene) (k : Scope) → IsSetting e k → IsScene s k → (at : ℕ) (x : PointerText) (kind : TypedKind) → (print_view_of h e s at x).typed ≡ Ok kind → IsTyped h k kind
unfolding print_view_of
print_view_typed h e s k f g at x kind t =
    let p = then_both (polymorphic_pointer h e s at x).typed _ kind t in
    let is = polymorphic_typed h e s k f g at x p.0 p.1 in
    let last = p.2 in
    kind_is h k (typed.PrintView p.0.operand p.0.class) kind (cc) (prints_view p.0.operand p.0.class is.has is.class)

dump_typed : (h : Classes) (e : Setting) (s : Scene) (k : Scope) → IsSetting e k → IsScene s k → (at : ℕ) (x : PointerText) (kind : TypedKind) → (dump_of e s at x).typed ≡ Ok kind → IsTyped h k kind
unfolding dump_of
dump_typed h e s k f g at x kind t =
    let p = then_both (pointer_of e s at x).typed _ kind t in
    let last = p.2 in
    kind_is h k (typed.Dump p.0.operand p.0.class) kind (cc) (dumps p.0.operand p.0.class (pointer_typed e s k f g at x p.0 p.1))

-- a statement that declares nothing and has no block in it
pub plain_typed : PiecesAreComplete → (h : Classes) → IsHierarchy h → PureAreVirtual h → (e : Setting) (s : Scene) (k : Scope) → IsSetting e k → IsScene s k → (at : ℕ) (x : StatementKind) (kind : TypedKind) → IsClean (plain_of h e s at x) kind → IsTyped h k kind
unfolding plain_of
plain_typed q h keeps virtual e s k f g at (statement.Declare ty ty_at x init) kind i = let t = i.typed in absurd (cc)
plain_typed q h keeps virtual e s k f g at (statement.Assign x r) kind i = assign_typed q h keeps virtual e s k f g at x r kind (record { typed = i.typed; before = i.before; none = i.none })
plain_typed q h keeps virtual e s k f g at (statement.Write place x) kind i = write_typed h keeps e s k f g at place x kind i.typed
plain_typed q h keeps virtual e s k f g at (statement.Copy to source) kind i = copy_typed h e s k f g at to source kind i.typed
plain_typed q h keeps virtual e s k f g at (statement.Call text) kind i = call_statement_typed q h keeps virtual e s k f g at text kind (record { typed = i.typed; before = i.before; none = i.none })
plain_typed q h keeps virtual e s k f g at (statement.Delete x) kind i = delete_typed h e s k f g at x kind i.typed
plain_typed q h keeps virtual e s k f g at (If' x block other) kind i = let t = i.typed in absurd (cc)
plain_typed q h keeps virtual e s k f g at (statement.While x block) kind i = let t = i.typed in absurd (cc)
plain_typed q h keeps virtual e s k f g at (statement.Return x) kind i = return_typed h keeps e s k f g at x kind i.typed
plain_typed q h keeps virtual e s k f g at (statement.Print x) kind i = print_typed h e s k f g at x kind i.typed
plain_typed q h keeps virtual e s k f g at (statement.PrintType x) kind i = print_type_typed h e s k f g at x kind i.typed
plain_typed q h keeps virtual e s k f g at (statement.PrintView x) kind i = print_view_typed h e s k f g at x kind i.typed
plain_typed q h keeps virtual e s k f g at (statement.Dump x) kind i = dump_typed h e s k f g at x kind i.typed

pub statements_are_typed : PiecesAreComplete → StatementsAreTyped
statements_are_typed q = record {
  plain = λ h keeps virtual e s k f g at x kind is. plain_typed q h keeps virtual e s k f g at x kind (settled_clean (plain_of h e s at x) kind is);
  declaration = λ h keeps virtual e s at ty ty_at x init r is. declare_typed q h keeps virtual e s at ty ty_at x init r (settled_clean (declare_of h e s at ty ty_at x init) r is);
  condition = λ e s k f g at x n is. number_typed e s k f g at x n (settled_clean (number_operand e s at x) n is).typed;
}
