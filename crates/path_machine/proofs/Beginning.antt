-- The step of a body: what a statement begins with, and how the body ends.
use Rattle.std.proofs.Common.{◌≡◌, ◌+◌, ℕ, Option, Some, None, List, [], ◌∷◌, refl, ap, subst, sym, ◌∙◌}
use Rattle.std.specs.Prelude.{nat_le, nat_lt, if◌then◌else◌, slice_get, slice_set, sum_by}
use Rattle.cxx_hierarchy.specs.declared.records.ClassId.{ClassId}
use Rattle.cxx_hierarchy.specs.declared.records.ValueType.{ValueType}
use Rattle.cxx_hierarchy.specs.declared.stop.LimitNo.TheVariants.{L8, L10}
use Rattle.cxx_hierarchy.specs.Classes.{Classes}
use Rattle.cxx_program.specs.declared.program.Owner.{Owner}
use Rattle.cxx_program.specs.declared.program.TypedBody.{TypedBody}
use Rattle.cxx_program.specs.declared.program.TypedProgram.{TypedProgram}
use Rattle.cxx_program.specs.declared.statement.Converted.{Converted}
use Rattle.cxx_program.specs.declared.statement.TypedKind.{TypedKind}
use Rattle.cxx_program.specs.declared.statement.TypedKind.TheVariants.{Declare, Assign, Write, Copy, Call, Delete, If, While, Return, Print, PrintType, PrintView, Dump}
use Rattle.cxx_program.specs.declared.statement.TypedStatement.{TypedStatement}
use Rattle.cxx_program.specs.Typed.{Scope, IsTyped, declares, begins, assigns, writes, copies, calls, deletes, branches, repeats, returns_nothing, returns_value, prints, prints_type, prints_view, dumps, scope_of}
use Rattle.path_model.specs.Values.{Unset}
use Rattle.path_model.specs.States.{RunningBody, Planned, Frame, InBody, InPlan, ProgramState, owned_body, sight, wanted_result, with_frames}
use Rattle.path_model.specs.Steps.{before_kind, body_step, body_closed, constructor_closed, event_step, next_in_body, step_of_statement}
use Rattle.path_model.specs.Runs.{Demand, asks_nothing, asks_call, asks_object, body_limit, demand_of, heap_total, limit_of, most_heap_bytes, most_open, move_by, open_count, opened_by, size_in_heap, statement_limit}
use Rattle.path_model.proofs.KeptSteps.{before_rest}
use Rattle.path_model.proofs.TypedValues.{values_set}
use Rattle.path_heap.specs.declared.state.Value.TheVariants.{Unset as UnsetCode}
use Rattle.path_values.specs.Given.{HasTypesOfScope, IsGiven, GivesBack}
use Rattle.path_machine.specs.declared.frames.BodyFrame.{BodyFrame}
use Rattle.path_machine.specs.declared.frames.PlanFrame.{PlanFrame}
use Rattle.path_machine.specs.declared.frames.Frame.{Frame as FrameCode}
use Rattle.path_machine.specs.declared.frames.Frame.TheVariants.{Body, Plan}
use Rattle.path_machine.specs.declared.machine.Machine.{Machine}
use Rattle.path_machine.specs.invariants.Changes.{Pops}
use Rattle.path_machine.specs.invariants.Changes.{DiffersInLocals}
use Rattle.path_machine.proofs.Changing.{local_set}
use Rattle.path_machine.specs.declared.next.Next.{Next as NextCode}
use Rattle.path_machine.specs.invariants.Steps.{IsTaken, StepAgrees, MoveAgrees}
use Rattle.path_machine.specs.invariants.Setups.{IsPlanTaken, IsPlanNext, IsBelowNext, IsBodyNext}
use Rattle.path_machine.specs.invariants.Plans.{plan_in}
use Rattle.path_machine.proofs.Effecting.{unlimited}
use Rattle.path_machine.specs.declared.telling.Telling.{Telling}

-- before the right side of a declaration is read

pub declared_taken : (h : Classes) (sizes : ClassId → ℕ) (program : TypedProgram) (machine : Machine) (frame new : BodyFrame) (s : ProgramState) (f : RunningBody) (below : List Frame) (n : ℕ) (kind : TypedKind) (x : Option Converted) → kind ≡ Declare n x → IsTaken h sizes program machine frame s f below → DiffersInLocals frame new →
    new.locals.items ≡ slice_set frame.locals.items n UnsetCode → IsTaken h sizes program machine new s (before_kind f kind) below
declared_taken h sizes program machine frame new s f below n kind x is t same items =
    subst (λ k. IsTaken h sizes program machine new s (before_kind f k) below) (sym is)
    (record { machine_stands = t.machine_stands; body_stands = local_set h s.objects.classes frame new f n UnsetCode Unset same items t.body_stands tt; counts = same.depth ∙ t.counts })

demand_before : (s : ProgramState) (f : RunningBody) (kind : TypedKind) → demand_of (sight s (before_kind f kind)) kind ≡ demand_of (sight s f) kind
demand_before s f (Declare n x) = refl
demand_before s f (Assign variable x) = refl
demand_before s f (Write place x) = refl
demand_before s f (Copy to from c) = refl
demand_before s f (Call call) = refl
demand_before s f (Delete x c) = refl
demand_before s f (If x other behind) = refl
demand_before s f (While x behind) = refl
demand_before s f (Return x) = refl
demand_before s f (Print x) = refl
demand_before s f (PrintType x c) = refl
demand_before s f (PrintView x c) = refl
demand_before s f (Dump x c) = refl

limit_same : (sizes : ClassId → ℕ) (s : ProgramState) (frames : List Frame) (d : Demand) → open_count frames ≡ open_count s.frames → limit_of sizes (with_frames s frames) d ≡ limit_of sizes s d
limit_same sizes s frames asks_nothing e = refl
limit_same sizes s frames asks_call e = ap (λ k. if nat_le most_open k then Some L10 else None) e
limit_same sizes s frames (asks_object c) e = ap (λ k. if nat_lt most_heap_bytes (heap_total sizes s.objects.classes + size_in_heap (sizes c)) then Some L8 else (if nat_le most_open k then Some L10 else None)) e

-- a frame of an owner
abbrev owned : RunningBody → Owner → RunningBody
owned f o = record { owner = o; this = f.this; locals = f.locals; next = f.next; found = f.found; target = f.target }

limit_before : (sizes : ClassId → ℕ) (s : ProgramState) (f : RunningBody) (below : List Frame) (kind : TypedKind) → s.frames ≡ InBody f ∷ below →
    limit_of sizes (with_frames s (InBody (before_kind f kind) ∷ below)) (demand_of (sight s (before_kind f kind)) kind) ≡ limit_of sizes s (demand_of (sight s f) kind)
limit_before sizes s f below kind is =
    ap (limit_of sizes (with_frames s (InBody (before_kind f kind) ∷ below))) (demand_before s f kind)
    ∙ limit_same sizes s (InBody (before_kind f kind) ∷ below) (demand_of (sight s f) kind) (ap (λ (o : Owner). sum_by opened_by (InBody (owned f o) ∷ below)) (sym ((before_rest f kind).owner)) ∙ ap open_count (sym is))

-- what a statement of a typed body is given

declared_at : (h : Classes) (e : Scope) (kind : TypedKind) → IsTyped h e kind → (m : ℕ) (z : Option Converted) → kind ≡ Declare m z → (t : ValueType ClassId) × (slice_get e.locals m ≡ Some t)
declared_at h e _ (declares n t at) m z is = let same : n ≡ m = cc in (t, ap (slice_get e.locals) (sym same) ∙ at)
declared_at h e _ (begins n x t at y) m z is = let same : n ≡ m = cc in (t, ap (slice_get e.locals) (sym same) ∙ at)
declared_at h e _ (assigns variable x t at y) m z is = absurd (cc)
declared_at h e _ (writes place x t at y) m z is = absurd (cc)
declared_at h e _ (copies to from c x y) m z is = absurd (cc)
declared_at h e _ (calls call f y) m z is = absurd (cc)
declared_at h e _ (deletes x c y) m z is = absurd (cc)
declared_at h e _ (branches x t other behind y) m z is = absurd (cc)
declared_at h e _ (repeats x t behind y) m z is = absurd (cc)
declared_at h e _ (returns_nothing y) m z is = absurd (cc)
declared_at h e _ (returns_value b t y w) m z is = absurd (cc)
declared_at h e _ (prints x t y) m z is = absurd (cc)
declared_at h e _ (prints_type x c y w) m z is = absurd (cc)
declared_at h e _ (prints_view x c y w) m z is = absurd (cc)
declared_at h e _ (dumps x c y) m z is = absurd (cc)

seen_before : (h : Classes) (e : Scope) (s : ProgramState) (f : RunningBody) (kind : TypedKind) → IsTyped h e kind → HasTypesOfScope h e (sight s f) → HasTypesOfScope h e (sight s (before_kind f kind))
seen_before h e s f (Declare n x) typed a =
    let at = declared_at h e (Declare n x) typed n x refl in
    record { fine = a.fine; settled = a.settled; globals = a.globals; locals = values_set h s.objects.classes f.locals e.locals n at.0 Unset a.locals at.1 tt; this = a.this; leaves = a.leaves }
seen_before h e s f (Assign variable x) typed a = a
seen_before h e s f (Write place x) typed a = a
seen_before h e s f (Copy to from c) typed a = a
seen_before h e s f (Call call) typed a = a
seen_before h e s f (Delete x c) typed a = a
seen_before h e s f (If x other behind) typed a = a
seen_before h e s f (While x behind) typed a = a
seen_before h e s f (Return x) typed a = a
seen_before h e s f (Print x) typed a = a
seen_before h e s f (PrintType x c) typed a = a
seen_before h e s f (PrintView x c) typed a = a
seen_before h e s f (Dump x c) typed a = a

pub given_before : (h : Classes) (program : TypedProgram) (s : ProgramState) (f : RunningBody) (below : List Frame) (body : TypedBody) (n : ℕ) (statement : TypedStatement) → IsBodyNext h program s f below → owned_body program f.owner ≡ Some body → slice_get body.statements n ≡ Some statement →
    IsGiven h (scope_of h program.globals body) (sight s (before_kind f statement.kind)) (wanted_result (before_kind f statement.kind)) statement.kind
given_before h program s f below body n statement next here at =
    let e = scope_of h program.globals body in
    let typed = next.typed body n statement here at in
    record { seen = seen_before h e s f statement.kind typed (next.seen body here); typed = typed; back = subst (GivesBack h e) (sym ((before_rest f statement.kind).wanted_is)) (next.back body here) }

-- the steps

pub statement_agrees : (h : Classes) (sizes : ClassId → ℕ) (program : TypedProgram) (new : Machine) (s : ProgramState) (f : RunningBody) (below : List Frame) (body : TypedBody) (statement : TypedStatement) (before after : Telling) (code : NextCode) → s.frames ≡ InBody f ∷ below →
    owned_body program f.owner ≡ Some body → slice_get body.statements f.next ≡ Some statement →
    MoveAgrees h sizes program (move_by (step_of_statement h program s (before_kind f statement.kind) below (before_kind f statement.kind).next statement) (limit_of sizes (with_frames s (InBody (before_kind f statement.kind) ∷ below)) (demand_of (sight s (before_kind f statement.kind)) statement.kind))) new before after code →
    MoveAgrees h sizes program (move_by (body_step h program s f below (owned_body program f.owner)) (body_limit sizes s f (owned_body program f.owner))) new before after code
statement_agrees h sizes program new s f below body statement before after code frames here at a =
    subst (λ b. MoveAgrees h sizes program (move_by (body_step h program s f below b) (body_limit sizes s f b)) new before after code) (sym here)
    (subst (λ o. MoveAgrees h sizes program (move_by (next_in_body h program s f below body o) (statement_limit sizes s f o)) new before after code) (sym at)
    (subst (λ l. MoveAgrees h sizes program (move_by (step_of_statement h program s (before_kind f statement.kind) below f.next statement) l) new before after code) (limit_before sizes s f below statement.kind frames)
    (subst (λ n. MoveAgrees h sizes program (move_by (step_of_statement h program s (before_kind f statement.kind) below n statement) (limit_of sizes (with_frames s (InBody (before_kind f statement.kind) ∷ below)) (demand_of (sight s (before_kind f statement.kind)) statement.kind))) new before after code) ((before_rest f statement.kind).next) a)))

pub close_agrees : (h : Classes) (sizes : ClassId → ℕ) (program : TypedProgram) (new : Machine) (s : ProgramState) (f : RunningBody) (below : List Frame) (body : TypedBody) (before after : Telling) (code : NextCode) →
    owned_body program f.owner ≡ Some body → slice_get body.statements f.next ≡ None → StepAgrees h sizes program (body_closed h program s f.owner body.close_line below) new before after code →
    MoveAgrees h sizes program (move_by (body_step h program s f below (owned_body program f.owner)) (body_limit sizes s f (owned_body program f.owner))) new before after code
close_agrees h sizes program new s f below body before after code here at a =
    subst (λ b. MoveAgrees h sizes program (move_by (body_step h program s f below b) (body_limit sizes s f b)) new before after code) (sym here)
    (subst (λ o. MoveAgrees h sizes program (move_by (next_in_body h program s f below body o) (statement_limit sizes s f o)) new before after code) (sym at)
    (unlimited h sizes program (body_closed h program s f.owner body.close_line below) new before after code a))

-- the end of a constructor's body

pub constructor_agrees : (h : Classes) (sizes : ClassId → ℕ) (program : TypedProgram) (machine new : Machine) (s : ProgramState) (below : List Frame) (popped : Option FrameCode) (plan : PlanFrame) (before after : Telling) (code : NextCode) → Pops h sizes program machine (with_frames s below) popped below → plan_in popped ≡ Some plan → IsBelowNext h s below →
    ((g : Planned) (rest : List Frame) → IsPlanTaken h sizes program machine plan s g rest → IsPlanNext h s g plan.whole.class → StepAgrees h sizes program (event_step program s g rest g.events) new before after code) → StepAgrees h sizes program (constructor_closed program s below) new before after code
constructor_agrees h sizes program machine new s [] popped plan before after code a is next step = tt
constructor_agrees h sizes program machine new s (InBody g ∷ rest) popped plan before after code a is next step = tt
constructor_agrees h sizes program machine new s (InPlan g ∷ rest) None plan before after code a is next step = absurd a
constructor_agrees h sizes program machine new s (InPlan g ∷ rest) (Some (Body f)) plan before after code a is next step = absurd a.0
constructor_agrees h sizes program machine new s (InPlan g ∷ rest) (Some (Plan f)) plan before after code (stands, counts, below_stands) is next step =
    let same : f ≡ plan = let e : Some f ≡ Some plan = is in cc in
    let taken : IsPlanTaken h sizes program machine f s g rest = record { machine_stands = below_stands; plan_stands = stands; counts = counts } in
    step g rest (subst (λ (x : PlanFrame). IsPlanTaken h sizes program machine x s g rest) same taken) (subst (λ (x : PlanFrame). IsPlanNext h s g x.whole.class) same (next g rest f.whole.class refl stands.made))

-- no plan stands below a body that is not one of a constructor
pub no_plan : (h : Classes) (sizes : ClassId → ℕ) (program : TypedProgram) (machine new : Machine) (s : ProgramState) (below : List Frame) (popped : Option FrameCode) (before after : Telling) (code : NextCode) → Pops h sizes program machine (with_frames s below) popped below → plan_in popped ≡ None → StepAgrees h sizes program (constructor_closed program s below) new before after code
no_plan h sizes program machine new s [] popped before after code a is = tt
no_plan h sizes program machine new s (InBody g ∷ rest) popped before after code a is = tt
no_plan h sizes program machine new s (InPlan g ∷ rest) None before after code a is = absurd a
no_plan h sizes program machine new s (InPlan g ∷ rest) (Some (Body f)) before after code a is = absurd a.0
no_plan h sizes program machine new s (InPlan g ∷ rest) (Some (Plan f)) before after code a is = absurd (let e : Some f ≡ None = is in cc)
