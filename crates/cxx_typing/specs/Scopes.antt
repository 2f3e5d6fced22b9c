-- What stands in scope where a statement is typed, and what its typed form may name.
use Rattle.std.specs.Prelude.{◌≡◌, true, Option, Some, None, Contains, slice_get}
use Rattle.cxx_hierarchy.specs.declared.records.ClassId.{ClassId}
use Rattle.cxx_hierarchy.specs.declared.records.Function.{Function}
use Rattle.cxx_hierarchy.specs.declared.records.ReturnType.{ReturnType}
use Rattle.cxx_hierarchy.specs.declared.records.ReturnType.TheVariants.{Void, Value as ValueReturn}
use Rattle.cxx_hierarchy.specs.Classes.{Classes}
use Rattle.cxx_overrider.specs.declared.FunctionId.{FunctionId}
use Rattle.cxx_overrider.specs.Functions.{declaration_of}
use Rattle.cxx_overrider.specs.Virtuals.{is_virtual}
use Rattle.cxx_program.specs.Typed.{Scope}
use Rattle.cxx_expression.specs.declared.scene.Entry.{Entry}
use Rattle.cxx_expression.specs.declared.scene.Scene.{Scene}
use Rattle.cxx_expression.specs.declared.scene.Setting.{Setting}
use Rattle.cxx_expression.specs.declared.scene.Returns.{Returns}
use Rattle.cxx_expression.specs.declared.scene.Returns.TheVariants as returns

-- a pure function is virtual (ISO C++03 10.4 p2)
pub record PureAreVirtual (h : Classes) : Type 0 where
  pub each : (f : FunctionId) (d : Function ClassId) → declaration_of h f ≡ Some d → d.is_pure ≡ true → is_virtual h f ≡ true

-- what a `return` gives, where one may stand (ISO C++03 6.6.3)
abbrev pub wanted : Returns → Option (ReturnType ClassId)
wanted returns.Nowhere = None
wanted returns.Nothing = Some Void
wanted (returns.Value t) = Some (ValueReturn t)

-- what a body stands in is what its statements may name: globals of their types, `this`, and the result
pub record IsSetting (e : Setting) (k : Scope) : Type 0 where
  pub globals : (x : Entry) → Contains e.globals x → slice_get k.globals x.number ≡ Some x.ty
  pub this : k.this ≡ e.this_class
  pub returns : k.returns ≡ wanted e.returns

-- each variable in scope is a local of the body, of its type
pub record IsScene (s : Scene) (k : Scope) : Type 0 where
  pub locals : (x : Entry) → Contains s.entries x → slice_get k.locals x.number ≡ Some x.ty
