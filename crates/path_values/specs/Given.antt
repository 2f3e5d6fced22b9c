-- What is known of a statement that is next: objects that are settled, values of the types of their places, and a typed statement.
use Rattle.std.specs.Prelude.{◌≡◌, Some}
use Rattle.cxx_hierarchy.specs.declared.records.ValueType.{ValueType}
use Rattle.cxx_hierarchy.specs.declared.records.ReturnType.TheVariants.{Value as ValueReturn}
use Rattle.cxx_hierarchy.specs.declared.records.ClassId.{ClassId}
use Rattle.cxx_hierarchy.specs.Classes.{Classes}
use Rattle.cxx_overrider.specs.Faults.{HasNoFault}
use Rattle.cxx_program.specs.declared.statement.TypedKind.{TypedKind}
use Rattle.cxx_program.specs.Typed.{Scope, IsTyped, Converts}
use Rattle.path_model.specs.Values.{Sight, Leaf}
use Rattle.path_model.specs.Uses.{Wanted}
use Rattle.path_model.specs.Typed.{AllSettled}
use Rattle.path_model.specs.TypedStates.{IsValue, AreValues, IsThis, IsLeafMade}

-- what is seen has the types of the scope e, and so has each leaf; all objects are settled
pub record HasTypesOfScope (h : Classes) (e : Scope) (s : Sight) : Type 0 where
  pub fine : HasNoFault h
  pub settled : AllSettled h s.objects
  pub globals : AreValues h s.objects.classes s.globals e.globals
  pub locals : AreValues h s.objects.classes s.locals e.locals
  pub this : IsThis h s.objects.classes e.this s.this
  pub leaves : (l : Leaf) (t : ValueType ClassId) → IsLeafMade h s.objects.classes l t → IsValue h s.objects.classes (s.objects.leaf l) t

-- a result of the type that the scope wants becomes one of who waits for it, by two conversions
abbrev pub GivesBack : Classes → Scope → Wanted → Type 0
GivesBack h e w = (t : ValueType ClassId) → e.returns ≡ Some (ValueReturn t) → (u v : ValueType ClassId) × Converts h t w.found u × Converts h u w.target v

-- the statement is typed in the scope, and what it sees fits
pub record IsGiven (h : Classes) (e : Scope) (s : Sight) (w : Wanted) (kind : TypedKind) : Type 0 where
  pub seen : HasTypesOfScope h e s
  pub typed : IsTyped h e kind
  pub back : GivesBack h e w
