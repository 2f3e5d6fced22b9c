-- A statement without a block in it leads to no number but that of the statement behind it.
use Rattle.std.proofs.Common.{◌≡◌, ℕ, Bool, true, false, Option, Some, None, Ok, length, subst}
use Rattle.std.specs.Prelude.{nat_eq, if◌then◌else◌}
use Rattle.cxx_hierarchy.specs.declared.records.ClassId.{ClassId}
use Rattle.cxx_hierarchy.specs.declared.records.ValueType.{ValueType}
use Rattle.cxx_hierarchy.specs.declared.stop.Rule.TheVariants as rule
use Rattle.cxx_hierarchy.specs.Classes.{Classes}
use Rattle.cxx_hierarchy.specs.NameTables.{Text}
use Rattle.cxx_syntax.specs.declared.tree.Spot.{Spot}
use Rattle.cxx_syntax.specs.declared.tree.PointerText.{PointerText}
use Rattle.cxx_syntax.specs.declared.tree.PlaceText.{PlaceText}
use Rattle.cxx_syntax.specs.declared.tree.CallText.{CallText}
use Rattle.cxx_syntax.specs.declared.tree.Operand.{Operand}
use Rattle.cxx_syntax.specs.declared.tree.Right.{Right}
use Rattle.cxx_syntax.specs.declared.tree.StatementKind.{StatementKind, If'}
use Rattle.cxx_syntax.specs.declared.tree.StatementKind as statement
use Rattle.cxx_program.specs.declared.statement.TypedKind.{TypedKind}
use Rattle.cxx_program.specs.declared.statement.TypedKind.TheVariants as typed
use Rattle.cxx_program.specs.Typed.{IsWithin, place_width}
use Rattle.cxx_expression.specs.declared.scene.Scene.{Scene}
use Rattle.cxx_expression.specs.declared.scene.Setting.{Setting}
use Rattle.cxx_expression.specs.declared.scene.Returns.{Returns}
use Rattle.cxx_expression.specs.declared.scene.Returns.TheVariants as returns
use Rattle.cxx_expression.specs.declared.typed.Pointer.{Pointer}
use Rattle.cxx_expression.specs.Checked.{pure, fail, both}
use Rattle.cxx_expression.specs.Scenes.{with_variable}
use Rattle.cxx_expression.specs.Values.{variable_of, operand_of, pointer_of, conversion_of, converted_operand, fitted, argument}
use Rattle.cxx_expression.specs.Places.{leaf_of}
use Rattle.cxx_expression.specs.Calls.{whole_call}
use Rattle.cxx_expression.specs.Casts.{polymorphic_pointer}
use Rattle.cxx_expression.specs.Rights.{right_of, converted_value, converted_right}
use Rattle.cxx_resolve.specs.Statements.{new_variable, first_value, declare_of, assign_of, write_of, copy_of, call_statement, delete_of, value_return, typed_return, returned_kind, print_of, print_type_of, print_view_of, dump_of, plain_of}
use Rattle.cxx_typing.proofs.Steps.{then_both}

-- the statement leads to no other number
abbrev pub GoesOn : TypedKind → Type 0
GoesOn kind = (size n : ℕ) → IsWithin size n kind

goes : (a b : TypedKind) → a ≡ b → GoesOn a → GoesOn b
goes a b same is = subst GoesOn same is

first_goes : (h : Classes) (e : Setting) (s : Scene) (at : ℕ) (u : ValueType ClassId) (n : ℕ) (init : Option Right) (kind : TypedKind) → (first_value h e s at u n init).typed ≡ Ok kind → GoesOn kind
unfolding first_value
first_goes h e s at u n None kind t = goes (typed.Declare n None) kind (cc) (λ size m. tt)
first_goes h e s at u n (Some r) kind t =
    let c = then_both (converted_right h e s at u r).typed _ kind t in
    let last = c.2 in
    goes (typed.Declare n (Some c.0)) kind (cc) (λ size m. tt)

-- a declaration
pub declare_goes : (h : Classes) (e : Setting) (s : Scene) (at : ℕ) (ty : ValueType Text) (ty_at : ℕ) (x : Spot) (init : Option Right) (r : TypedKind × Scene) → (declare_of h e s at ty ty_at x init).typed ≡ Ok r → GoesOn r.0
unfolding declare_of
declare_goes h e s at ty ty_at x init r t =
    let u = then_both (new_variable h s ty ty_at x).typed _ r t in
    let v = then_both (first_value h e (with_variable s x.name u.0) at u.0 (length s.types) init).typed _ r u.2 in
    let last = v.2 in
    goes v.0 r.0 (cc) (first_goes h e (with_variable s x.name u.0) at u.0 (length s.types) init v.0 v.1)

assign_goes : (h : Classes) (e : Setting) (s : Scene) (at : ℕ) (x : Spot) (r : Right) (kind : TypedKind) → (assign_of h e s at x r).typed ≡ Ok kind → GoesOn kind
unfolding assign_of
assign_goes h e s at x r kind t =
    let p = then_both (both (variable_of e s x) (right_of h e s at r)).typed _ kind t in
    let c = then_both (converted_value h at p.0.0.1 p.0.1).typed _ kind p.2 in
    let last = c.2 in
    goes (typed.Assign p.0.0.0 c.0) kind (cc) (λ size n. tt)

write_goes : (h : Classes) (e : Setting) (s : Scene) (at : ℕ) (place : PlaceText) (x : Operand) (kind : TypedKind) → (write_of h e s at place x).typed ≡ Ok kind → GoesOn kind
unfolding write_of
write_goes h e s at place x kind t =
    let p = then_both (both (leaf_of h e s at place) (operand_of e s at x)).typed _ kind t in
    let c = then_both (conversion_of h at p.0.1.ty p.0.1.is_null p.0.0.ty).typed _ kind p.2 in
    let last = c.2 in
    goes (typed.Write p.0.0.place (argument p.0.1.operand (fitted (place_width h p.0.0.place) c.0))) kind (cc) (λ size n. tt)

same_goes : (p : Pointer × Pointer) (t : Bool) (at : ℕ) (kind : TypedKind) → (if t then pure (typed.Copy p.0.operand p.1.operand p.0.class) else fail rule.TypeMismatch at).typed ≡ Ok kind → GoesOn kind
same_goes p true at kind t = goes (typed.Copy p.0.operand p.1.operand p.0.class) kind (cc) (λ size n. tt)
same_goes p false at kind t = absurd (cc)

copy_goes : (e : Setting) (s : Scene) (at : ℕ) (to source : PointerText) (kind : TypedKind) → (copy_of e s at to source).typed ≡ Ok kind → GoesOn kind
unfolding copy_of
copy_goes e s at to source kind t =
    let p = then_both (both (pointer_of e s at to) (pointer_of e s at source)).typed _ kind t in
    same_goes p.0 (nat_eq p.0.0.class.0 p.0.1.class.0) at kind p.2

call_goes : (h : Classes) (e : Setting) (s : Scene) (at : ℕ) (x : CallText) (kind : TypedKind) → (call_statement h e s at x).typed ≡ Ok kind → GoesOn kind
unfolding call_statement
call_goes h e s at x kind t =
    let v = then_both (whole_call h e s at x).typed _ kind t in
    let last = v.2 in
    goes (typed.Call v.0) kind (cc) (λ size n. tt)

delete_goes : (e : Setting) (s : Scene) (at : ℕ) (x : PointerText) (kind : TypedKind) → (delete_of e s at x).typed ≡ Ok kind → GoesOn kind
unfolding delete_of
delete_goes e s at x kind t =
    let p = then_both (pointer_of e s at x).typed _ kind t in
    let last = p.2 in
    goes (typed.Delete p.0.operand p.0.class) kind (cc) (λ size n. tt)

value_return_goes : (h : Classes) (e : Setting) (s : Scene) (at : ℕ) (u : ValueType ClassId) (x : Operand) (kind : TypedKind) → (value_return h e s at u x).typed ≡ Ok kind → GoesOn kind
unfolding value_return
value_return_goes h e s at u x kind t =
    let a = then_both (converted_operand h e s at u x).typed _ kind t in
    let last = a.2 in
    goes (typed.Return (Some a.0)) kind (cc) (λ size n. tt)

return_by : (h : Classes) (e : Setting) (s : Scene) (at : ℕ) (ret : Returns) (x : Option Operand) (kind : TypedKind) → (typed_return h e s at ret x).typed ≡ Ok kind → GoesOn kind
return_by h e s at returns.Nowhere x kind t = absurd (cc)
return_by h e s at returns.Nothing None kind t = goes (typed.Return None) kind (cc) (λ size n. tt)
return_by h e s at returns.Nothing (Some x) kind t = absurd (cc)
return_by h e s at (returns.Value u) None kind t = absurd (cc)
return_by h e s at (returns.Value u) (Some x) kind t = value_return_goes h e s at u x kind t

return_goes : (h : Classes) (e : Setting) (s : Scene) (at : ℕ) (x : Option Operand) (kind : TypedKind) → (returned_kind h e s at x).typed ≡ Ok kind → GoesOn kind
unfolding returned_kind
return_goes h e s at x kind t = return_by h e s at e.returns x kind t

print_goes : (e : Setting) (s : Scene) (at : ℕ) (x : Operand) (kind : TypedKind) → (print_of e s at x).typed ≡ Ok kind → GoesOn kind
unfolding print_of
print_goes e s at x kind t =
    let v = then_both (operand_of e s at x).typed _ kind t in
    let last = v.2 in
    goes (typed.Print v.0.operand) kind (cc) (λ size n. tt)

print_type_goes : (h : Classes) (e : Setting) (s : Scene) (at : ℕ) (x : PointerText) (kind : TypedKind) → (print_type_of h e s at x).typed ≡ Ok kind → GoesOn kind
unfolding print_type_of
print_type_goes h e s at x kind t =
    let p = then_both (polymorphic_pointer h e s at x).typed _ kind t in
    let last = p.2 in
    goes (typed.PrintType p.0.operand p.0.class) kind (cc) (λ size n. tt)

print_view_goes : (h : Classes) (e : Setting) (s : Scene) (at : ℕ) (x : PointerText) (kind : TypedKind) → (print_view_of h e s at x).typed ≡ Ok kind → GoesOn kind
unfolding print_view_of
print_view_goes h e s at x kind t =
    let p = then_both (polymorphic_pointer h e s at x).typed _ kind t in
    let last = p.2 in
    goes (typed.PrintView p.0.operand p.0.class) kind (cc) (λ size n. tt)

dump_goes : (e : Setting) (s : Scene) (at : ℕ) (x : PointerText) (kind : TypedKind) → (dump_of e s at x).typed ≡ Ok kind → GoesOn kind
unfolding dump_of
dump_goes e s at x kind t =
    let p = then_both (pointer_of e s at x).typed _ kind t in
    let last = p.2 in
    goes (typed.Dump p.0.operand p.0.class) kind (cc) (λ size n. tt)

-- any other
pub plain_goes : (h : Classes) (e : Setting) (s : Scene) (at : ℕ) (x : StatementKind) (kind : TypedKind) → (plain_of h e s at x).typed ≡ Ok kind → GoesOn kind
unfolding plain_of
plain_goes h e s at (statement.Declare ty ty_at x init) kind t = absurd (cc)
plain_goes h e s at (statement.Assign x r) kind t = assign_goes h e s at x r kind t
plain_goes h e s at (statement.Write place x) kind t = write_goes h e s at place x kind t
plain_goes h e s at (statement.Copy to source) kind t = copy_goes e s at to source kind t
plain_goes h e s at (statement.Call text) kind t = call_goes h e s at text kind t
plain_goes h e s at (statement.Delete x) kind t = delete_goes e s at x kind t
plain_goes h e s at (If' x block other) kind t = absurd (cc)
plain_goes h e s at (statement.While x block) kind t = absurd (cc)
plain_goes h e s at (statement.Return x) kind t = return_goes h e s at x kind t
plain_goes h e s at (statement.Print x) kind t = print_goes e s at x kind t
plain_goes h e s at (statement.PrintType x) kind t = print_type_goes h e s at x kind t
plain_goes h e s at (statement.PrintView x) kind t = print_view_goes h e s at x kind t
plain_goes h e s at (statement.Dump x) kind t = dump_goes e s at x kind t
