-- What a small function tells of a piece of a statement: the first rule that the uses of the piece break.
use Rattle.std.specs.Prelude.{◌≡◌, ℕ, Bool, false, nat_lt, if◌then◌else◌, Option, Some, None, List, ◌++◌}
use Rattle.cxx_hierarchy.specs.Classes.{Classes}
use Rattle.cxx_subobject.specs.Locations.{ObjectPart}
use Rattle.cxx_program.specs.declared.statement.TypedPlace.{TypedPlace}
use Rattle.path_rules.specs.declared.Undefined.{Undefined}
use Rattle.path_rules.specs.Rules.{undefined_no}
use Rattle.std.specs.Prelude.{true, ◌||◌}
use Rattle.cxx_subobject.specs.Subobjects.{IsSubobject}
use Rattle.cxx_overrider.specs.declared.FunctionId.{FunctionId}
use Rattle.cxx_overrider.specs.Virtuals.{is_virtual}
use Rattle.cxx_program.specs.declared.statement.TypedCall.{TypedCall}
use Rattle.path_rules.specs.declared.Undefined.TheVariants.{NotReady}
use Rattle.path_values.specs.Views.{IsCallable}
use Rattle.path_model.specs.Values.{Value, Unset, Number, Null, Pointer, Objects, Sight, to_base}
use Rattle.path_model.specs.Uses.{StatementUse, arrow, of_part, path_uses, uses_of_view, is_shared, is_shared_way, goes_to, takes, convert, cast_value}
use Rattle.path_model.specs.Order.{asked_members, first_name_base}
use Rattle.path_plan.specs.Views.{Settled}
use Rattle.cxx_subobject.specs.Subobjects.{class_of}
use Rattle.cxx_hierarchy.specs.declared.records.ClassId.{ClassId}
use Rattle.path_model.specs.Rules.{refused, names, is_unready}
use Rattle.path_model.specs.Typed.{AllSettled, IsOf}
use Rattle.path_heap.specs.declared.state.Value.{Value as ValueCode}
use Rattle.path_heap.specs.declared.heap.Heap.{Heap}
use Rattle.cxx_program.specs.Typed.{Scope, Casts}
use Rattle.cxx_program.specs.declared.statement.TypedCast.{TypedCast}
use Rattle.cxx_program.specs.declared.operand.Conversion.{Conversion}
use Rattle.path_values.specs.Scenes.{SceneStands}
use Rattle.path_values.specs.Given.{HasTypesOfScope}
use Rattle.path_heap.specs.Points.{Points}
use Rattle.path_heap.specs.Stands.{HeapStands, HasBegun, Means}
use Rattle.path_values.specs.declared.scene.Scene.{Scene}

-- the rule of the smaller number
abbrev pub smaller : Undefined → Undefined → Undefined
smaller a b = if nat_lt (undefined_no b) (undefined_no a) then b else a

-- the same of two rules that may be there
abbrev pub least_undefined : Option Undefined → Option Undefined → Option Undefined
least_undefined None other = other
least_undefined (Some a) None = Some a
least_undefined (Some a) (Some b) = Some (smaller a b)

-- the rule that refuses these uses of each value that the code's means, over objects that the heap stands for
abbrev pub Refuses : Classes → Heap → ValueCode → (Value → List StatementUse) → Option Undefined → Type 0
Refuses h heap v uses rule = (s : Objects) (x : Value) → HeapStands h heap s → Means h s.classes v x → rule ≡ refused h s (uses x)

-- the same of values that are no pointers to parts that are not ready
abbrev pub SteadyRefuses : Classes → Heap → ValueCode → (Value → List StatementUse) → Option Undefined → Type 0
SteadyRefuses h heap v uses rule = (s : Objects) (x : Value) → HeapStands h heap s → Means h s.classes v x → names (is_unready s) x ≡ false → rule ≡ refused h s (uses x)

-- the same of the part of a number
abbrev pub PartRefuses : Classes → Heap → ℕ → (ObjectPart → List StatementUse) → Option Undefined → Type 0
PartRefuses h heap n uses rule = (s : Objects) (p : ObjectPart) → HeapStands h heap s → Points h s.classes n p → rule ≡ refused h s (uses p)

-- the same of a part that is ready
abbrev pub ReadyRefuses : Classes → Heap → ℕ → (ObjectPart → List StatementUse) → Option Undefined → Type 0
ReadyRefuses h heap n uses rule = (s : Objects) (p : ObjectPart) → HeapStands h heap s → Points h s.classes n p → is_unready s p ≡ false → rule ≡ refused h s (uses p)

-- n is the number of a part of class c that is ready, in a heap object that is settled
pub record IsReadyPart (h : Classes) (heap : Heap) (s : Objects) (n : ℕ) (p : ObjectPart) (c : ClassId) : Type 0 where
  pub heap_stands : HeapStands h heap s
  pub points : Points h s.classes n p
  pub ready : is_unready s p ≡ false
  pub settled : Settled h p.object s.phases
  pub of_class : class_of p.at ≡ Some c

-- the value of the code means one of this class, over objects that are settled
pub record MeansValueOf (h : Classes) (heap : Heap) (s : Objects) (v : ValueCode) (x : Value) (c : ClassId) : Type 0 where
  pub heap_stands : HeapStands h heap s
  pub means : Means h s.classes v x
  pub settled : AllSettled h s
  pub of_class : IsOf s x c

-- the rule that refuses these uses of each such value
abbrev pub TypedRefuses : Classes → Heap → ValueCode → ClassId → (Value → List StatementUse) → Option Undefined → Type 0
TypedRefuses h heap v c uses rule = (s : Objects) (x : Value) → MeansValueOf h heap s v x c → rule ≡ refused h s (uses x)

-- the same of values that are no pointers to parts that are not ready
abbrev pub OpenRefuses : Classes → Heap → ValueCode → ClassId → (Value → List StatementUse) → Option Undefined → Type 0
OpenRefuses h heap v c uses rule = (s : Objects) (x : Value) → MeansValueOf h heap s v x c → names (is_unready s) x ≡ false → rule ≡ refused h s (uses x)

-- the uses of a place, by the value of its pointer
abbrev pub way_uses : TypedPlace → Value → List StatementUse
way_uses place x = arrow x ++ of_part (λ p. path_uses p place.passed place.base) x

-- what is asked of a place behind its pointer's arrow
abbrev pub path_asked : TypedPlace → Value → List StatementUse
path_asked place x = uses_of_view (is_shared (first_name_base place.passed place.base)) x ++ of_part (λ p. asked_members p place.passed) x

-- the rule that refuses these uses of each sight that the scene over the heap stands for
abbrev pub SightRefuses : Classes → Heap → Scene → (Sight → List StatementUse) → Option Undefined → Type 0
SightRefuses h heap scene uses rule = (s : Sight) → SceneStands h heap scene s → rule ≡ refused h s.objects (uses s)

-- the sight is one over settled objects, of the types of the scope e
pub record SightStands (h : Classes) (heap : Heap) (scene : Scene) (e : Scope) (s : Sight) : Type 0 where
  pub stands : SceneStands h heap scene s
  pub seen : HasTypesOfScope h e s

-- the rule that refuses the conversion of what a typed cast gives, of values that are no pointers to parts that are not ready
abbrev pub CastRefuses : Classes → Heap → ValueCode → TypedCast → Conversion → Option Undefined → Type 0
CastRefuses h heap v how c rule = (s : Objects) (x : Value) (from to : ClassId) → MeansValueOf h heap s v x from → Casts h from how to → names (is_unready s) x ≡ false → rule ≡ refused h s (convert (cast_value h s how x) c)

-- calls

-- the function of a call is one of the class of the subobject in which it was found, of the class `through`; it is virtual
-- where the call is dispatched
pub record IsFoundCall (h : Classes) (through : ClassId) (call : TypedCall) : Type 0 where
  pub base : IsSubobject h through call.base
  pub of_class : class_of call.base ≡ Some call.function.class
  pub dispatched : call.is_dispatched ≡ true → is_virtual h call.function ≡ true

-- the part that a value names, if it names one, is of the function's class and has begun
abbrev pub CanTake : Classes → Objects → FunctionId → Bool → Value → Type 0
CanTake h s f is_dispatched Unset = Unit {0}
CanTake h s f is_dispatched (Number z) = Unit {0}
CanTake h s f is_dispatched Null = Unit {0}
CanTake h s f is_dispatched (Pointer p) = HasBegun s p × (is_dispatched ≡ true → IsCallable h p f)

-- behind the arrow of a call's pointer, but for its arguments
abbrev pub way_asked : TypedCall → Value → List StatementUse
way_asked call x = uses_of_view (call.is_dispatched || is_shared_way call.qualifier) x ++ (uses_of_view (is_shared call.base) (goes_to call.qualifier x) ++ takes call.is_dispatched (to_base call.base (goes_to call.qualifier x)) call.function)

-- from the subobject of the class before `::`, or the pointer's, on
abbrev pub found_asked : TypedCall → Value → List StatementUse
found_asked call y = uses_of_view (is_shared call.base) y ++ takes call.is_dispatched (to_base call.base y) call.function

-- copies

-- only U3 is broken, if any rule is
abbrev pub TellsReadiness : Classes → Objects → Bool → List StatementUse → Type 0
TellsReadiness h s b us = refused h s us ≡ (if b then None else Some NotReady)
