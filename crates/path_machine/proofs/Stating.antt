-- A statement that no rule refuses, by its kind.
use Rattle.std.proofs.Common.{◌≡◌, ℕ, Option, Some, None, List, ◌∷◌, refl, subst, sym}
use Rattle.cxx_hierarchy.specs.declared.records.ClassId.{ClassId}
use Rattle.cxx_hierarchy.specs.declared.records.ValueType.{ValueType}
use Rattle.cxx_hierarchy.specs.Classes.{Classes}
use Rattle.cxx_program.specs.declared.operand.TypedOperand.{TypedOperand}
use Rattle.cxx_program.specs.declared.operand.Variable.{Variable}
use Rattle.cxx_program.specs.declared.program.TypedProgram.{TypedProgram}
use Rattle.cxx_program.specs.declared.statement.Converted.{Converted}
use Rattle.cxx_program.specs.declared.statement.TypedCall.{TypedCall}
use Rattle.cxx_program.specs.declared.statement.TypedKind.{TypedKind}
use Rattle.cxx_program.specs.declared.statement.TypedKind.TheVariants.{Declare, Assign, Call, Delete}
use Rattle.cxx_program.specs.Typed.{Scope, IsConverted, IsTyped, declares, begins, assigns, writes, copies, calls, deletes, branches, repeats, returns_nothing, returns_value, prints, prints_type, prints_view, dumps}
use Rattle.path_model.specs.States.{RunningBody, Frame, InBody, ProgramState, sight, at_statement, with_frames}
use Rattle.path_model.specs.Effects.{kind_effect}
use Rattle.path_model.specs.Runs.{asks_nothing, demand_of, limit_of, move_by}
use Rattle.path_machine.specs.declared.machine.Machine.{Machine}
use Rattle.path_refusals.proofs.Kinded.{called_given}
use Rattle.path_effects.proofs.Typing.{delete_typed}
use Rattle.path_machine.specs.declared.next.Next.{Next as NextCode}
use Rattle.path_machine.specs.invariants.Steps.{IsClear, StepAgrees, MoveAgrees}
use Rattle.path_machine.specs.invariants.Setups.{IsTaking, IsDeclaring, IsCalling, IsDeleting}
use Rattle.path_machine.proofs.Effecting.{unlimited}
use Rattle.path_machine.specs.declared.telling.Telling.{Telling}

-- what is typed of a right side

pub record Takes (h : Classes) (e : Scope) (x : Converted) : Type 0 where
  pub type : ValueType ClassId
  pub typed : IsConverted h e x type

pub begun_typed : (h : Classes) (e : Scope) (kind : TypedKind) → IsTyped h e kind → (m : ℕ) (z : Converted) → kind ≡ Declare m (Some z) → Takes h e z
begun_typed h e _ (declares n t at) m z is = absurd (cc)
begun_typed h e _ (begins n x t at y) m z is = let same : x ≡ z = cc in record { type = t; typed = subst (λ (k : Converted). IsConverted h e k t) same y }
begun_typed h e _ (assigns variable x t at y) m z is = absurd (cc)
begun_typed h e _ (writes place x t at y) m z is = absurd (cc)
begun_typed h e _ (copies to from c x y) m z is = absurd (cc)
begun_typed h e _ (calls call f y) m z is = absurd (cc)
begun_typed h e _ (deletes x c y) m z is = absurd (cc)
begun_typed h e _ (branches x t other behind y) m z is = absurd (cc)
begun_typed h e _ (repeats x t behind y) m z is = absurd (cc)
begun_typed h e _ (returns_nothing y) m z is = absurd (cc)
begun_typed h e _ (returns_value b t y w) m z is = absurd (cc)
begun_typed h e _ (prints x t y) m z is = absurd (cc)
begun_typed h e _ (prints_type x c y w) m z is = absurd (cc)
begun_typed h e _ (prints_view x c y w) m z is = absurd (cc)
begun_typed h e _ (dumps x c y) m z is = absurd (cc)

pub assigned_typed : (h : Classes) (e : Scope) (kind : TypedKind) → IsTyped h e kind → (k : Variable) (z : Converted) → kind ≡ Assign k z → Takes h e z
assigned_typed h e _ (declares n t at) k z is = absurd (cc)
assigned_typed h e _ (begins n x t at y) k z is = absurd (cc)
assigned_typed h e _ (assigns variable x t at y) k z is = let same : x ≡ z = cc in record { type = t; typed = subst (λ (w : Converted). IsConverted h e w t) same y }
assigned_typed h e _ (writes place x t at y) k z is = absurd (cc)
assigned_typed h e _ (copies to from c x y) k z is = absurd (cc)
assigned_typed h e _ (calls call f y) k z is = absurd (cc)
assigned_typed h e _ (deletes x c y) k z is = absurd (cc)
assigned_typed h e _ (branches x t other behind y) k z is = absurd (cc)
assigned_typed h e _ (repeats x t behind y) k z is = absurd (cc)
assigned_typed h e _ (returns_nothing y) k z is = absurd (cc)
assigned_typed h e _ (returns_value b t y w) k z is = absurd (cc)
assigned_typed h e _ (prints x t y) k z is = absurd (cc)
assigned_typed h e _ (prints_type x c y w) k z is = absurd (cc)
assigned_typed h e _ (prints_view x c y w) k z is = absurd (cc)
assigned_typed h e _ (dumps x c y) k z is = absurd (cc)

pub declaring : (h : Classes) (e : Scope) (s : ProgramState) (f : RunningBody) (m : ℕ) (x : Option Converted) → IsClear h e s f (Declare m x) → IsDeclaring h e (sight s f) x
declaring h e s f m None a = tt
declaring h e s f m (Some x) a = let g = begun_typed h e (Declare m (Some x)) a.given.typed m x refl in record { seen = a.given.seen; type = g.type; typed = g.typed; clear = a.clear }

pub assigning : (h : Classes) (e : Scope) (s : ProgramState) (f : RunningBody) (k : Variable) (x : Converted) → IsClear h e s f (Assign k x) → IsTaking h e (sight s f) x
assigning h e s f k x a = let g = assigned_typed h e (Assign k x) a.given.typed k x refl in record { seen = a.given.seen; type = g.type; typed = g.typed; clear = a.clear }

pub calling : (h : Classes) (e : Scope) (s : ProgramState) (f : RunningBody) (call : TypedCall) → IsClear h e s f (Call call) → IsCalling h e (sight s f) call
calling h e s f call a = let g = called_given h e (Call call) call refl a.given.typed in record { seen = a.given.seen; function = g.0; typed = g.1; clear = a.clear }

pub deleting : (h : Classes) (e : Scope) (s : ProgramState) (f : RunningBody) (x : TypedOperand) (c : ClassId) → IsClear h e s f (Delete x c) → IsDeleting h e (sight s f) x c
deleting h e s f x c a = record { seen = a.given.seen; typed = delete_typed h e (Delete x c) a.given.typed x c refl; clear = λ w. a.clear }

-- the step of a statement by its kind

-- the state in which control has gone on
abbrev pub gone_on : ProgramState → RunningBody → List Frame → ℕ → ProgramState
gone_on s f below next = with_frames s (InBody (at_statement f next) ∷ below)

-- what the code has to do for a statement of this kind
abbrev pub Does : Classes → (ClassId → ℕ) → TypedProgram → ProgramState → RunningBody → List Frame → (n next : ℕ) → Machine → (before after : Telling) → NextCode → TypedKind → Type 0
Does h sizes program s f below n next new before after code kind =
    MoveAgrees h sizes program (move_by (kind_effect h program (sight s f) (gone_on s f below next) f below n next kind) (limit_of sizes (with_frames s (InBody f ∷ below)) (demand_of (sight s f) kind))) new before after code

pub does_by : (h : Classes) (sizes : ClassId → ℕ) (program : TypedProgram) (e : Scope) (s : ProgramState) (f : RunningBody) (below : List Frame) (n next : ℕ) (new : Machine) (before after : Telling) (code : NextCode) (kind k : TypedKind) → kind ≡ k → IsClear h e s f kind →
    (IsClear h e s f k → Does h sizes program s f below n next new before after code k) → Does h sizes program s f below n next new before after code kind
does_by h sizes program e s f below n next new before after code kind k is clear does = subst (λ x. Does h sizes program s f below n next new before after code x) (sym is) (does (subst (IsClear h e s f) is clear))

-- a kind that asks for nothing
pub does_plain : (h : Classes) (sizes : ClassId → ℕ) (program : TypedProgram) (e : Scope) (s : ProgramState) (f : RunningBody) (below : List Frame) (n next : ℕ) (new : Machine) (before after : Telling) (code : NextCode) (kind k : TypedKind) → kind ≡ k → IsClear h e s f kind → demand_of (sight s f) k ≡ asks_nothing →
    (IsClear h e s f k → StepAgrees h sizes program (kind_effect h program (sight s f) (gone_on s f below next) f below n next k) new before after code) → Does h sizes program s f below n next new before after code kind
does_plain h sizes program e s f below n next new before after code kind k is clear none does =
    does_by h sizes program e s f below n next new before after code kind k is clear (λ a.
    let step = kind_effect h program (sight s f) (gone_on s f below next) f below n next k in
    subst (λ d. MoveAgrees h sizes program (move_by step (limit_of sizes (with_frames s (InBody f ∷ below)) d)) new before after code) (sym none) (unlimited h sizes program step new before after code (does a)))
