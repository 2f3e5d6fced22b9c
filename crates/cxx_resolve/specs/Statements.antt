-- What each statement without a block in it does. `at` is the place of its first token.
use Rattle.std.specs.Prelude.{◌≡◌, ℕ, nat_eq, if◌then◌else◌, Option, Some, None, Result, Ok, Err, List, length}
use Rattle.foundation.specs.declared.memory.NoMemory.{NoMemory}
use Rattle.cxx_hierarchy.specs.declared.records.ClassId.{ClassId}
use Rattle.cxx_hierarchy.specs.declared.records.ValueType.{ValueType}
use Rattle.cxx_hierarchy.specs.declared.stop.Rule.TheVariants as rule
use Rattle.cxx_hierarchy.specs.NameTables.{Text}
use Rattle.cxx_hierarchy.specs.Classes.{Classes}
use Rattle.cxx_syntax.specs.declared.tree.Spot.{Spot}
use Rattle.cxx_syntax.specs.declared.tree.Operand.{Operand}
use Rattle.cxx_syntax.specs.declared.tree.PointerText.{PointerText}
use Rattle.cxx_syntax.specs.declared.tree.PlaceText.{PlaceText}
use Rattle.cxx_syntax.specs.declared.tree.CallText.{CallText}
use Rattle.cxx_syntax.specs.declared.tree.Right.{Right}
use Rattle.cxx_syntax.specs.declared.tree.StatementKind.{StatementKind, If'}
use Rattle.cxx_syntax.specs.declared.tree.StatementKind as kind
use Rattle.cxx_program.specs.declared.statement.TypedKind.{TypedKind}
use Rattle.cxx_program.specs.declared.statement.TypedKind.TheVariants as typed
use Rattle.cxx_program.specs.Typed.{place_width}
use Rattle.cxx_expression.specs.declared.faults.Fault.{Fault}
use Rattle.cxx_expression.specs.declared.scene.Scene.{Scene}
use Rattle.cxx_expression.specs.declared.scene.Setting.{Setting}
use Rattle.cxx_expression.specs.declared.scene.Returns.{Returns}
use Rattle.cxx_expression.specs.declared.scene.Returns.TheVariants as returns
use Rattle.cxx_expression.specs.declared.typed.Pointer.{Pointer}
use Rattle.cxx_expression.specs.Checked.{Checked, pure, fail, warn, ◌>>=◌, both}
use Rattle.cxx_expression.specs.Scenes.{with_variable, is_taken}
use Rattle.cxx_expression.specs.Values.{type_of, variable_of, operand_of, pointer_of, conversion_of, converted_operand, fitted, argument}
use Rattle.cxx_expression.specs.Places.{leaf_of}
use Rattle.cxx_expression.specs.Calls.{whole_call}
use Rattle.cxx_expression.specs.Casts.{polymorphic_pointer}
use Rattle.cxx_expression.specs.Rights.{right_of, converted_value, converted_right}

-- E7: the innermost scope has the name. E3 has the least number that a statement can break, and the type stands first in its
-- statement: where the type is refused, nothing else is asked
unfoldable pub new_variable : Classes → Scene → ValueType Text → ℕ → Spot → Checked (ValueType ClassId)
new_variable h s ty ty_at x = do
  t ← type_of h ty ty_at
  if is_taken s x.name then warn rule.DuplicateMember x.at t else pure t

unfoldable pub first_value : Classes → Setting → Scene → ℕ → ValueType ClassId → ℕ → Option Right → Checked TypedKind
first_value h e s at t number None = pure (typed.Declare number None)
first_value h e s at t number (Some r) = do
  c ← converted_right h e s at t r
  pure (typed.Declare number (Some c))

abbrev pub with_scene : Scene → TypedKind → TypedKind × Scene
with_scene s k = (k, s)

-- a declaration: its name is in scope in its own right side (ISO C++03 3.3.1)
unfoldable pub declare_of : Classes → Setting → Scene → ℕ → ValueType Text → ℕ → Spot → Option Right → Checked (TypedKind × Scene)
declare_of h e s at ty ty_at x init = do
  t ← new_variable h s ty ty_at x
  k ← first_value h e (with_variable s x.name t) at t (length s.types) init
  pure (with_scene (with_variable s x.name t) k)

-- an assignment to a variable (ISO C++03 5.17)
unfoldable pub assign_of : Classes → Setting → Scene → ℕ → Spot → Right → Checked TypedKind
assign_of h e s at x r = do
  p ← both (variable_of e s x) (right_of h e s at r)
  c ← converted_value h at p.0.1 p.1
  pure (typed.Assign p.0.0 c)

-- a value that is written to a member; a bit-field keeps its low bits (ISO C++03 5.17, 9.6)
unfoldable pub write_of : Classes → Setting → Scene → ℕ → PlaceText → Operand → Checked TypedKind
write_of h e s at place x = do
  p ← both (leaf_of h e s at place) (operand_of e s at x)
  c ← conversion_of h at p.1.ty p.1.is_null p.0.ty
  pure (typed.Write p.0.place (argument p.1.operand (fitted (place_width h p.0.place) c)))

-- E19: a copy between two classes
abbrev pub same_class : ℕ → Pointer × Pointer → Checked TypedKind
same_class at p = if nat_eq p.0.class.0 p.1.class.0 then pure (typed.Copy p.0.operand p.1.operand p.0.class) else fail rule.TypeMismatch at

-- a copy of an object into another (ISO C++03 12.8)
unfoldable pub copy_of : Setting → Scene → ℕ → PointerText → PointerText → Checked TypedKind
copy_of e s at to source = do
  p ← both (pointer_of e s at to) (pointer_of e s at source)
  same_class at p

-- a call whose result is not used
unfoldable pub call_statement : Classes → Setting → Scene → ℕ → CallText → Checked TypedKind
call_statement h e s at text = do
  call ← whole_call h e s at text
  pure (typed.Call call)

unfoldable pub delete_of : Setting → Scene → ℕ → PointerText → Checked TypedKind
delete_of e s at x = do
  p ← pointer_of e s at x
  pure (typed.Delete p.operand p.class)

unfoldable pub value_return : Classes → Setting → Scene → ℕ → ValueType ClassId → Operand → Checked TypedKind
value_return h e s at t x = do
  a ← converted_operand h e s at t x
  pure (typed.Return (Some a))

-- E19: a `return` that does not fit its function, or any in a constructor or destructor (ISO C++03 6.6.3)
abbrev pub typed_return : Classes → Setting → Scene → ℕ → Returns → Option Operand → Checked TypedKind
typed_return h e s at returns.Nowhere x = fail rule.TypeMismatch at
typed_return h e s at returns.Nothing None = pure (typed.Return None)
typed_return h e s at returns.Nothing (Some x) = fail rule.TypeMismatch at
typed_return h e s at (returns.Value t) None = fail rule.TypeMismatch at
typed_return h e s at (returns.Value t) (Some x) = value_return h e s at t x

unfoldable pub returned_kind : Classes → Setting → Scene → ℕ → Option Operand → Checked TypedKind
returned_kind h e s at x = typed_return h e s at e.returns x

unfoldable pub print_of : Setting → Scene → ℕ → Operand → Checked TypedKind
print_of e s at x = do
  v ← operand_of e s at x
  pure (typed.Print v.operand)

-- `print(typeid(*pointer));`
unfoldable pub print_type_of : Classes → Setting → Scene → ℕ → PointerText → Checked TypedKind
print_type_of h e s at x = do
  p ← polymorphic_pointer h e s at x
  pure (typed.PrintType p.operand p.class)

-- `print(dynamic_cast<void*>(pointer));`
unfoldable pub print_view_of : Classes → Setting → Scene → ℕ → PointerText → Checked TypedKind
print_view_of h e s at x = do
  p ← polymorphic_pointer h e s at x
  pure (typed.PrintView p.operand p.class)

unfoldable pub dump_of : Setting → Scene → ℕ → PointerText → Checked TypedKind
dump_of e s at x = do
  p ← pointer_of e s at x
  pure (typed.Dump p.operand p.class)

-- a declaration is typed together with the scene behind it
abbrev pub with_scenes : Scene → Result TypedKind Fault → Result (TypedKind × Scene) Fault
with_scenes s (Err f) = Err f
with_scenes s (Ok k) = Ok (k, s)

-- what code answers to a declaration, with the scene behind the call
abbrev pub AnswersDeclaration : Result (Result TypedKind Fault) NoMemory → Scene → List Fault → List Fault → Checked (TypedKind × Scene) → Type 0
AnswersDeclaration (Ok o) s old new p = (p.typed ≡ with_scenes s o) × (p.faults old ≡ new)
AnswersDeclaration (Err e) s old new p = Unit {0}

-- a statement that declares nothing and has no block in it; no other is asked
unfoldable pub plain_of : Classes → Setting → Scene → ℕ → StatementKind → Checked TypedKind
plain_of h e s at (kind.Declare ty ty_at x init) = fail rule.TypeMismatch at
plain_of h e s at (kind.Assign x r) = assign_of h e s at x r
plain_of h e s at (kind.Write place x) = write_of h e s at place x
plain_of h e s at (kind.Copy to source) = copy_of e s at to source
plain_of h e s at (kind.Call text) = call_statement h e s at text
plain_of h e s at (kind.Delete x) = delete_of e s at x
plain_of h e s at (If' x block other) = fail rule.TypeMismatch at
plain_of h e s at (kind.While x block) = fail rule.TypeMismatch at
plain_of h e s at (kind.Return x) = returned_kind h e s at x
plain_of h e s at (kind.Print x) = print_of e s at x
plain_of h e s at (kind.PrintType x) = print_type_of h e s at x
plain_of h e s at (kind.PrintView x) = print_view_of h e s at x
plain_of h e s at (kind.Dump x) = dump_of e s at x
