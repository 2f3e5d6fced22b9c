-- Casts and type identification. `at` is the place of the statement's first token.
use Rattle.std.specs.Prelude.{ℕ, Bool, true, false, nat_eq, if◌then◌else◌}
use Rattle.cxx_hierarchy.specs.declared.records.ClassId.{ClassId}
use Rattle.cxx_hierarchy.specs.declared.records.ValueType.TheVariants as type
use Rattle.cxx_hierarchy.specs.declared.stop.Rule.TheVariants as rule
use Rattle.cxx_hierarchy.specs.Classes.{Classes}
use Rattle.cxx_subobject.specs.declared.Root.{Root}
use Rattle.cxx_subobject.specs.declared.Root.TheVariants.{Whole, Shared}
use Rattle.cxx_subobject.specs.declared.Subobject.{Subobject}
use Rattle.cxx_syntax.specs.declared.tree.Spot.{Spot}
use Rattle.cxx_syntax.specs.declared.tree.PointerText.{PointerText}
use Rattle.cxx_syntax.specs.declared.tree.CastText.{CastText}
use Rattle.cxx_syntax.specs.declared.tree.CastKind.{CastKind}
use Rattle.cxx_syntax.specs.declared.tree.CastKind.TheVariants as kind
use Rattle.cxx_program.specs.declared.statement.TypedCast.{TypedCast}
use Rattle.cxx_program.specs.declared.statement.TypedCast.TheVariants as cast
use Rattle.cxx_program.specs.declared.statement.TypedRight.TheVariants as typed
use Rattle.cxx_expression.specs.declared.look_up.Based.{Based}
use Rattle.cxx_expression.specs.declared.look_up.Based.TheVariants as based
use Rattle.cxx_expression.specs.declared.scene.Scene.{Scene}
use Rattle.cxx_expression.specs.declared.scene.Setting.{Setting}
use Rattle.cxx_expression.specs.declared.typed.Pointer.{Pointer}
use Rattle.cxx_expression.specs.declared.typed.RightValue.{RightValue}
use Rattle.cxx_expression.specs.Checked.{Checked, pure, fail, ◌>>=◌, both}
use Rattle.cxx_expression.specs.Lookups.{base_up, is_polymorphic}
use Rattle.cxx_expression.specs.Values.{class_of_spot, pointer_of}
use Rattle.cxx_expression.specs.Operators.{right_value, truth_value}

-- E17: down along a virtual base
abbrev pub down_to : ℕ → ClassId → Subobject → Root → Checked TypedCast
down_to at d s Whole = pure (cast.Down d s)
down_to at d s (Shared v) = fail rule.DowncastVirtual at

-- up to a base, or down to a class that has the other as one. E15: an ambiguous base; E16: neither is a base of the other
abbrev pub up_or_down : ℕ → ClassId → Based → Based → Checked TypedCast
up_or_down at d (based.Base s) down = pure (cast.Up s)
up_or_down at d based.TwoBases down = fail rule.AmbiguousBase at
up_or_down at d based.NotBase based.NotBase = fail rule.NotBase at
up_or_down at d based.NotBase based.TwoBases = fail rule.AmbiguousBase at
up_or_down at d based.NotBase (based.Base s) = down_to at d s s.root

-- from class c to class d (ISO C++03 5.2.9 p2, p8; 5.4)
unfoldable pub static_cast : Classes → ℕ → ClassId → ClassId → Checked TypedCast
static_cast h at c d = if nat_eq c.0 d.0 then pure cast.Same else up_or_down at d (base_up h c d) (base_up h d c)

-- E18: a class without virtual functions
abbrev pub if_polymorphic : {X : Type 0} → ℕ → Bool → X → Checked X
if_polymorphic at true x = pure x
if_polymorphic at false x = fail rule.NotPolymorphic at

-- E15: an ambiguous base
abbrev pub up_or_dynamic : Classes → ℕ → ClassId → ClassId → Based → Checked TypedCast
up_or_dynamic h at c d (based.Base s) = pure (cast.Up s)
up_or_dynamic h at c d based.TwoBases = fail rule.AmbiguousBase at
up_or_dynamic h at c d based.NotBase = if_polymorphic at (is_polymorphic h c) (cast.Dynamic d)

-- the plain conversion to the same class or a base; what it does else, the run decides (ISO C++03 5.2.7 p3, p5, p6, p8)
unfoldable pub dynamic_cast : Classes → ℕ → ClassId → ClassId → Checked TypedCast
dynamic_cast h at c d = if nat_eq c.0 d.0 then pure cast.Same else up_or_dynamic h at c d (base_up h c d)

unfoldable pub cast_of : Classes → ℕ → CastKind → ClassId → ClassId → Checked TypedCast
cast_of h at kind.Static c d = static_cast h at c d
cast_of h at kind.Plain c d = static_cast h at c d
cast_of h at kind.Dynamic c d = dynamic_cast h at c d

-- E3: the source does not define the target's class
unfoldable pub cast_right : Classes → Setting → Scene → ℕ → CastText → Checked RightValue
cast_right h e s at text = do
  p ← both (class_of_spot h text.target) (pointer_of e s at text.pointer)
  c ← cast_of h at text.kind p.1.class p.0
  pure (right_value (typed.Cast c p.1.operand) (type.Pointer p.0) false)

-- a pointer to a class with virtual functions, as `dynamic_cast<void*>` wants it (ISO C++03 5.2.7 p6, p7), and typeid here:
-- C++ takes other classes there too (5.2.8 p3), so that E18 of typeid is our own
unfoldable pub polymorphic_pointer : Classes → Setting → Scene → ℕ → PointerText → Checked Pointer
polymorphic_pointer h e s at x = do
  p ← pointer_of e s at x
  if_polymorphic at (is_polymorphic h p.class) p

-- `typeid(*pointer) == typeid(class)`
unfoldable pub type_right : Classes → Setting → Scene → ℕ → PointerText → Spot → Checked RightValue
type_right h e s at x name = do
  p ← both (polymorphic_pointer h e s at x) (class_of_spot h name)
  pure (truth_value (typed.TypeEqual p.0.operand p.1))
