-- What a statement is typed to has the types that it wants.
use Rattle.std.specs.Prelude.{◌≡◌, ℕ, Option, Some, Ok, length, slice_get}
use Rattle.cxx_hierarchy.specs.declared.records.ClassId.{ClassId}
use Rattle.cxx_hierarchy.specs.declared.records.ValueType.{ValueType}
use Rattle.cxx_hierarchy.specs.declared.records.ValueType.TheVariants.{Number as NumberType}
use Rattle.cxx_hierarchy.specs.Classes.{Classes}
use Rattle.cxx_hierarchy.specs.Hierarchies.{IsHierarchy}
use Rattle.cxx_hierarchy.specs.NameTables.{Text}
use Rattle.cxx_syntax.specs.declared.tree.Spot.{Spot}
use Rattle.cxx_syntax.specs.declared.tree.Operand.{Operand}
use Rattle.cxx_syntax.specs.declared.tree.Right.{Right}
use Rattle.cxx_syntax.specs.declared.tree.StatementKind.{StatementKind}
use Rattle.cxx_program.specs.declared.statement.TypedKind.{TypedKind}
use Rattle.cxx_program.specs.Typed.{Scope, IsKnown, HasType, IsTyped}
use Rattle.cxx_expression.specs.declared.scene.Scene.{Scene}
use Rattle.cxx_expression.specs.declared.scene.Setting.{Setting}
use Rattle.cxx_expression.specs.declared.typed.Number.{Number}
use Rattle.cxx_expression.specs.Scenes.{with_variable}
use Rattle.cxx_expression.specs.Values.{number_operand}
use Rattle.cxx_resolve.specs.Settled.{settle}
use Rattle.cxx_resolve.specs.Statements.{declare_of, plain_of}
use Rattle.cxx_typing.specs.Scopes.{PureAreVirtual, IsSetting, IsScene}

-- a declaration: the scene behind it has one variable more, of a known type, and where that is a local of the body the
-- statement is typed (ISO C++03 3.3.1, 8.5)
pub record IsTypedDeclaration (h : Classes) (e : Setting) (s : Scene) (x : Spot) (r : TypedKind × Scene) : Type 0 where
  pub ty : ValueType ClassId
  pub known : IsKnown h ty
  pub scene : r.1 ≡ with_variable s x.name ty
  pub typed : (k : Scope) → IsSetting e k → IsScene (with_variable s x.name ty) k → slice_get k.locals (length s.types) ≡ Some ty → IsTyped h k r.0

-- each statement to which a text resolves without a fault is typed, in any body that has what stands in scope
pub record StatementsAreTyped : Type 0 where
  pub plain : (h : Classes) → IsHierarchy h → PureAreVirtual h → (e : Setting) (s : Scene) (k : Scope) → IsSetting e k → IsScene s k → (at : ℕ) (x : StatementKind) (kind : TypedKind) → settle (plain_of h e s at x) ≡ Ok kind → IsTyped h k kind
  pub declaration : (h : Classes) → IsHierarchy h → PureAreVirtual h → (e : Setting) (s : Scene) (at : ℕ) (ty : ValueType Text) (ty_at : ℕ) (x : Spot) (init : Option Right) (r : TypedKind × Scene) →
      settle (declare_of h e s at ty ty_at x init) ≡ Ok r → IsTypedDeclaration h e s x r
  pub condition : (e : Setting) (s : Scene) (k : Scope) → IsSetting e k → IsScene s k → (at : ℕ) (x : Operand) (n : Number) → settle (number_operand e s at x) ≡ Ok n → HasType k n.operand (NumberType n.scalar)
