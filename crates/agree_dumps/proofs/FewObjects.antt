-- A run makes few objects, since each takes a byte at least of a heap of 64 MiB.
use Rattle.std.proofs.Common.{◌≡◌, ◌∙◌, ℕ, zero, suc, ◌+◌, ◌<◌, ◌≤◌, arith, Bool, true, false, nat_lt, if◌then◌else◌, Option, Some, None, List, [], ◌∷◌, ◌++◌, map, length, refl, ap, sym}
use Rattle.std.specs.Prelude.{slice_get}
use Rattle.std.proofs.lemmas.Bool.{ltb-false}
use Rattle.std.proofs.lemmas.List.Sums.{sum_by-append}
use Rattle.foundation.proofs.Places.{length_pushed}
use Rattle.cxx_hierarchy.specs.declared.records.ClassId.{ClassId}
use Rattle.cxx_hierarchy.specs.declared.records.ValueType.{ValueType}
use Rattle.cxx_hierarchy.specs.declared.stop.LimitNo.{LimitNo}
use Rattle.cxx_hierarchy.specs.declared.stop.LimitNo.TheVariants.{L8}
use Rattle.cxx_hierarchy.specs.Classes.{Classes}
use Rattle.cxx_hierarchy.specs.Scalars.{common_type}
use Rattle.cxx_subobject.specs.Locations.{ObjectPart}
use Rattle.cxx_overrider.specs.declared.FunctionId.{FunctionId}
use Rattle.cxx_program.specs.declared.operand.Variable.{Variable}
use Rattle.cxx_program.specs.declared.operand.Variable.TheVariants.{Global, Local}
use Rattle.cxx_program.specs.declared.operand.Conversion.{Conversion}
use Rattle.cxx_program.specs.declared.statement.TypedPlace.{TypedPlace}
use Rattle.cxx_program.specs.declared.statement.TypedCall.{TypedCall}
use Rattle.cxx_program.specs.declared.statement.TypedRight.{TypedRight}
use Rattle.cxx_program.specs.declared.statement.TypedRight.TheVariants.{Operand, Arithmetic, SamePointer, Not, Read, Address, Cast, TypeEqual}
use Rattle.cxx_program.specs.declared.statement.Converted.{Converted}
use Rattle.cxx_program.specs.declared.statement.TypedKind.{TypedKind}
use Rattle.cxx_program.specs.declared.statement.TypedStatement.{TypedStatement}
use Rattle.cxx_program.specs.declared.program.Owner.{Owner}
use Rattle.cxx_program.specs.declared.program.Owner.TheVariants.{Main, Function, Constructor, Destructor}
use Rattle.cxx_program.specs.declared.program.TypedBody.{TypedBody}
use Rattle.cxx_program.specs.declared.program.TypedProgram.{TypedProgram}
use Rattle.cxx_program.specs.Typed.{Scope, scope_of, HasRight, an_operand, a_calculation, a_comparison, a_negation, a_read, an_address, a_result, an_object, a_cast, a_type_test, IsConverted, a_right, a_null_right}
use Rattle.cxx_program.specs.Typed.{IsTyped, declares, begins, assigns, writes, copies, calls, deletes, branches, repeats, returns_nothing, returns_value, prints, prints_type, prints_view, dumps, IsTypedProgram}
use Rattle.path_rules.specs.declared.Undefined.{Undefined}
use Rattle.path_plan.specs.Phases.{PartEvent, Begin, Ready, Init, Body, Done, Ending, Bases, End}
use Rattle.path_plan.specs.Whole.{whole_part}
use Rattle.path_model.specs.declared.outs.Out.{Out}
use Rattle.path_model.specs.Values.{Value, Unset, Number, Null, Pointer, Sight, value_of_operand, argument_value, converted_to}
use Rattle.path_model.specs.Outs.{object_class}
use Rattle.path_model.specs.Uses.{receiver_value}
use Rattle.path_model.specs.Rules.{closing_refusal, statement_refusal}
use Rattle.path_model.specs.States.{Target, RunningBody, Planned, Frame, InBody, InPlan, ProgramState, assigned, owned_body, sight, wanted_result, with_frames, with_objects}
use Rattle.path_model.specs.Effects.{Next, Goes, Refuses, Ends, Wrong, body_entered, block_at, branched, called_at, copied_at, deleted, dump_out, effect, function_entered, given_to_target, going_on_at, kind_effect, left_by, object_ended, result_given, returned, right_side_value, runs, taken, taker, telling, type_out, value_out, view_out, written}
use Rattle.path_model.specs.Steps.{before_kind, body_opened, body_owner, body_step, class_of_part, body_closed, constructor_closed, event_outs, event_step, frame_step, next_in_body, objects_after, plan_left, resumed, step, unless}
use Rattle.path_model.specs.Runs.{Demand, asks_object, body_limit, demand_of, frame_limit, heap_total, limit_at, limit_of, most_heap_bytes, move_by, right_demand, size_in_heap, state_at, state_behind, statement_limit}
use Rattle.path_model.proofs.TypedBodies.{body_typed}
use Rattle.abi_inspect.specs.Values.{most_dumped_number}

-- each object takes a byte at least, and all of them lie in the heap
record IsRoomy (sizes : ClassId → ℕ) (classes : List ClassId) : Type 0 where
  each : length classes ≤ heap_total sizes classes
  within : heap_total sizes classes ≤ most_heap_bytes

-- a step that passes no limit leaves room
abbrev IfRoomy : (ClassId → ℕ) → Option LimitNo → Next → Type 0
IfRoomy sizes limit (Goes s outs) = limit ≡ None → IsRoomy sizes s.objects.classes
IfRoomy sizes limit (Refuses rule line) = Unit {0}
IfRoomy sizes limit Ends = Unit {0}
IfRoomy sizes limit Wrong = Unit {0}

-- without a limit there is room for the object that is asked for
abbrev HasRoom : (ClassId → ℕ) → Option LimitNo → List ClassId → Demand → Type 0
HasRoom sizes limit classes demand = (d : ClassId) → demand ≡ asks_object d → limit ≡ None → heap_total sizes classes + size_in_heap (sizes d) ≤ most_heap_bytes

room_by : (b : Bool) (most total : ℕ) (other : Option LimitNo) → nat_lt most total ≡ b → (if b then Some L8 else other) ≡ None → total ≤ most
room_by true most total other is none = cc
room_by false most total other is none = ltb-false most total is

room_of : (sizes : ClassId → ℕ) (s : ProgramState) (demand : Demand) → HasRoom sizes (limit_of sizes s demand) s.objects.classes demand
room_of sizes s demand d asks none =
    let total : ℕ = heap_total sizes s.objects.classes + size_in_heap (sizes d) in
    room_by (nat_lt most_heap_bytes total) most_heap_bytes total _ refl (sym (ap (limit_of sizes s) asks) ∙ none)

-- one object more

some_bytes : (size : ℕ) → 1 ≤ size → 1 ≤ size_in_heap size
some_bytes size some = omega arith

pushed_roomy : (sizes : ClassId → ℕ) (classes : List ClassId) (d : ClassId) → 1 ≤ sizes d → heap_total sizes classes + size_in_heap (sizes d) ≤ most_heap_bytes → IsRoomy sizes classes → IsRoomy sizes (classes ++ d ∷ [])
pushed_roomy sizes classes d some fits roomy =
    let total : heap_total sizes (classes ++ d ∷ []) ≡ heap_total sizes classes + (0 + size_in_heap (sizes d)) = sum_by-append (λ c. size_in_heap (sizes c)) classes (d ∷ []) in
    let longer = length_pushed classes d in
    let bytes = some_bytes (sizes d) some in
    let each = roomy.each in
    record { each = omega arith; within = omega arith }

-- steps

module _ (h : Classes) (program : TypedProgram) (sizes : ClassId → ℕ) (some : (c : ClassId) → c.0 < length h → 1 ≤ sizes c) where
  assigned_roomy : (s : ProgramState) (x : Variable) (v : Value) → IsRoomy sizes s.objects.classes → IsRoomy sizes (assigned s x v).objects.classes
  assigned_roomy s (Global n) v roomy = roomy
  assigned_roomy s (Local n) v roomy = roomy

  given_roomy : (s : ProgramState) (v : Value) (target : Option Target) → IsRoomy sizes s.objects.classes → IsRoomy sizes (given_to_target s v target).objects.classes
  given_roomy s v None roomy = roomy
  given_roomy s v (Some target) roomy = assigned_roomy s target.variable (converted_to v target.conversion) roomy

  result_roomy : (s : ProgramState) (found : Conversion) (target : Option Target) (v : Option Value) → IsRoomy sizes s.objects.classes → IsRoomy sizes (result_given s found target v).objects.classes
  result_roomy s found target None roomy = roomy
  result_roomy s found target (Some v) roomy = given_roomy s (converted_to v found) target roomy

  module _ (limit : Option LimitNo) where
    unless_roomy : (o : Option Undefined) (line : ℕ) (next : Next) → IfRoomy sizes limit next → IfRoomy sizes limit (unless o line next)
    unless_roomy None line next roomy = roomy
    unless_roomy (Some rule) line next roomy = tt

    telling_roomy : (s : ProgramState) (o : Option Out) → IsRoomy sizes s.objects.classes → IfRoomy sizes limit (telling s o)
    telling_roomy s None roomy = tt
    telling_roomy s (Some out) roomy = λ none. roomy

    -- calls

    entered_roomy : (s : ProgramState) (values : List Value) (call : TypedCall) (target : Option Target) (run : ObjectPart × FunctionId) (o : Option TypedBody) → IsRoomy sizes s.objects.classes → IfRoomy sizes limit (body_entered h s values call target run o)
    entered_roomy s values call target run None roomy = tt
    entered_roomy s values call target run (Some body) roomy = λ none. roomy

    function_roomy : (s : ProgramState) (values : List Value) (call : TypedCall) (target : Option Target) (o : Option (ObjectPart × FunctionId)) → IsRoomy sizes s.objects.classes → IfRoomy sizes limit (function_entered h program s values call target o)
    function_roomy s values call target None roomy = tt
    function_roomy s values call target (Some run) roomy = entered_roomy s values call target run (owned_body program (Function run.1)) roomy

    called_roomy : (s : ProgramState) (values : List Value) (call : TypedCall) (target : Option Target) (v : Value) → IsRoomy sizes s.objects.classes → IfRoomy sizes limit (called_at h program s values call target v)
    called_roomy s values call target Unset roomy = tt
    called_roomy s values call target (Number z) roomy = tt
    called_roomy s values call target Null roomy = tt
    called_roomy s values call target (Pointer p) roomy = function_roomy s values call target (runs h s.objects call p) roomy

    -- right sides: `new` alone makes an object

    module _ (e : Scope) (see : Sight) (s : ProgramState) (variable : Variable) (c : Conversion) (roomy : IsRoomy sizes s.objects.classes) where
      set_roomy : (r : TypedRight) → limit ≡ None → IsRoomy sizes (assigned s variable (converted_to (right_side_value h see r) c)).objects.classes
      set_roomy r none = assigned_roomy s variable (converted_to (right_side_value h see r) c) roomy

      right_roomy : (r : TypedRight) (t : ValueType ClassId) → HasRight h e r t → HasRoom sizes limit s.objects.classes (right_demand r) → IfRoomy sizes limit (taken h program see s variable r c)
      right_roomy _ _ (an_operand x t has) room = set_roomy (Operand x)
      right_roomy _ _ (a_calculation op j t x y left right) room = set_roomy (Arithmetic op (common_type j t) x y)
      right_roomy _ _ (a_comparison differ x y d left right) room = set_roomy (SamePointer differ x y)
      right_roomy _ _ (a_negation x t has) room = set_roomy (Not x)
      right_roomy _ _ (a_read place t is) room = set_roomy (Read place)
      right_roomy _ _ (an_address place d is) room = set_roomy (Address place d)
      right_roomy _ _ (a_result call f t is ret) room = called_roomy s (map (argument_value see) call.arguments) call (taker variable c) (receiver_value see call) roomy
      right_roomy _ _ (an_object d known) room = λ none. pushed_roomy sizes s.objects.classes d (some d known) (room d refl none) roomy
      right_roomy _ _ (a_cast cast x d k has casts) room = set_roomy (Cast cast x)
      right_roomy _ _ (a_type_test x d k has poly known) room = set_roomy (TypeEqual x k)

    taken_roomy : (e : Scope) (see : Sight) (s : ProgramState) (variable : Variable) (x : Converted) (t : ValueType ClassId) → IsConverted h e x t → HasRoom sizes limit s.objects.classes (right_demand x.right) → IsRoomy sizes s.objects.classes → IfRoomy sizes limit (taken h program see s variable x.right x.conversion)
    taken_roomy e see s variable _ _ (a_right x u t has fits) room roomy = right_roomy e see s variable x.conversion roomy x.right u has room
    taken_roomy e see s variable _ _ (a_null_right d) room roomy = λ none. assigned_roomy s variable _ roomy

    -- other statements

    written_roomy : (s : ProgramState) (place : TypedPlace) (v w : Value) → IsRoomy sizes s.objects.classes → IfRoomy sizes limit (written s place v w)
    written_roomy s place v Unset roomy = tt
    written_roomy s place v (Number z) roomy = tt
    written_roomy s place v Null roomy = tt
    written_roomy s place v (Pointer p) roomy = λ none. roomy

    copied_roomy : (s : ProgramState) (c : ClassId) (v w : Value) → IsRoomy sizes s.objects.classes → IfRoomy sizes limit (copied_at h s c v w)
    copied_roomy s c Unset w roomy = tt
    copied_roomy s c (Number z) w roomy = tt
    copied_roomy s c Null w roomy = tt
    copied_roomy s c (Pointer p) Unset roomy = tt
    copied_roomy s c (Pointer p) (Number z) roomy = tt
    copied_roomy s c (Pointer p) Null roomy = tt
    copied_roomy s c (Pointer p) (Pointer q) roomy = λ none. roomy

    ended_roomy : (s : ProgramState) (k : ℕ) (o : Option ClassId) → IsRoomy sizes s.objects.classes → IfRoomy sizes limit (object_ended h program s k o)
    ended_roomy s k None roomy = tt
    ended_roomy s k (Some c) roomy = λ none. roomy

    deleted_roomy : (s : ProgramState) (v : Value) → IsRoomy sizes s.objects.classes → IfRoomy sizes limit (deleted h program s v)
    deleted_roomy s Unset roomy = tt
    deleted_roomy s (Number z) roomy = tt
    deleted_roomy s Null roomy = λ none. roomy
    deleted_roomy s (Pointer p) roomy = ended_roomy s p.object (slice_get s.objects.classes p.object) roomy

    branched_roomy : (s : ProgramState) (v : Value) (yes_at no_at : ℕ) → IsRoomy sizes s.objects.classes → IfRoomy sizes limit (branched s v yes_at no_at)
    branched_roomy s Unset yes_at no_at roomy = tt
    branched_roomy s (Number z) yes_at no_at roomy = λ none. roomy
    branched_roomy s Null yes_at no_at roomy = tt
    branched_roomy s (Pointer p) yes_at no_at roomy = tt

    left_roomy : (owner : Owner) (s : ProgramState) → IsRoomy sizes s.objects.classes → IfRoomy sizes limit (left_by owner s)
    left_roomy Main s roomy = tt
    left_roomy (Function g) s roomy = λ none. roomy
    left_roomy (Constructor c) s roomy = tt
    left_roomy (Destructor c) s roomy = tt

    returned_roomy : (s : ProgramState) (f : RunningBody) (below : List Frame) (v : Option Value) → IsRoomy sizes s.objects.classes → IfRoomy sizes limit (returned s f below v)
    returned_roomy s f below v roomy = left_roomy f.owner (result_given (with_frames s below) f.found f.target v) (result_roomy (with_frames s below) f.found f.target v roomy)

    module _ (e : Scope) (before see : Sight) (on : ProgramState) (f : RunningBody) (below : List Frame) (n next : ℕ) (roomy : IsRoomy sizes on.objects.classes) where
      kind_roomy : (kind : TypedKind) → IsTyped h e kind → HasRoom sizes limit on.objects.classes (demand_of before kind) → IfRoomy sizes limit (kind_effect h program see on f below n next kind)
      kind_roomy _ (declares m t is) room = λ none. roomy
      kind_roomy _ (begins m y t is fits) room = taken_roomy e see on (Local m) y t fits room roomy
      kind_roomy _ (assigns variable y t is fits) room = taken_roomy e see on variable y t fits room roomy
      kind_roomy _ (writes place y t p fits) room = written_roomy on place (argument_value see y) (value_of_operand see place.pointer) roomy
      kind_roomy _ (copies to from c has_to has_from) room = copied_roomy on c (value_of_operand see to) (value_of_operand see from) roomy
      kind_roomy _ (calls call d is) room = called_roomy on (map (argument_value see) call.arguments) call None (receiver_value see call) roomy
      kind_roomy _ (deletes y c has) room = deleted_roomy on (value_of_operand see y) roomy
      kind_roomy _ (branches y t other behind has) room = branched_roomy on (value_of_operand see y) (block_at (n + 1) other next) (block_at other behind next) roomy
      kind_roomy _ (repeats y t behind has) room = branched_roomy on (value_of_operand see y) (block_at (n + 1) behind n) next roomy
      kind_roomy _ (returns_nothing is) room = returned_roomy on f below None roomy
      kind_roomy _ (returns_value y t is fits) room = returned_roomy on f below (Some (argument_value see y)) roomy
      kind_roomy _ (prints y t has) room = telling_roomy on (value_out on.objects (value_of_operand see y)) roomy
      kind_roomy _ (prints_type y c has poly) room = telling_roomy on (type_out h on.objects (value_of_operand see y)) roomy
      kind_roomy _ (prints_view y c has poly) room = telling_roomy on (view_out h on.objects (value_of_operand see y)) roomy
      kind_roomy _ (dumps y c has) room = telling_roomy on (dump_out h on.objects (value_of_operand see y)) roomy

    -- events of plans

    opened_roomy : (s : ProgramState) (p : ObjectPart) (outs : List Out) (frames : List Frame) (o : Option TypedBody) → IsRoomy sizes s.objects.classes → IfRoomy sizes limit (body_opened s p outs frames o)
    opened_roomy s p outs frames None roomy = tt
    opened_roomy s p outs frames (Some body) roomy = λ none. roomy

    resumed_roomy : (s : ProgramState) (f : Planned) (below : List Frame) (outs : List Out) (events : List PartEvent) → IsRoomy sizes s.objects.classes → IfRoomy sizes limit (resumed program s f below outs events)
    resumed_roomy s f below outs [] roomy = λ none. given_roomy (with_frames s below) (Pointer (whole_part f.object (object_class s.objects f.object))) f.target roomy
    resumed_roomy s f below outs (Begin p ∷ events) roomy = λ none. roomy
    resumed_roomy s f below outs (Ready p ∷ events) roomy = λ none. roomy
    resumed_roomy s f below outs (Init p m ∷ events) roomy = λ none. roomy
    resumed_roomy s f below outs (Body p ∷ events) roomy = opened_roomy s p outs (plan_left f events ∷ below) (owned_body program (body_owner f.is_building (class_of_part p))) roomy
    resumed_roomy s f below outs (Done p ∷ events) roomy = λ none. roomy
    resumed_roomy s f below outs (Ending p ∷ events) roomy = λ none. roomy
    resumed_roomy s f below outs (Bases p ∷ events) roomy = λ none. roomy
    resumed_roomy s f below outs (End p ∷ events) roomy = λ none. roomy

    module _ (s : ProgramState) (f : Planned) (below : List Frame) (roomy : IsRoomy sizes s.objects.classes) where
      after_roomy : (event : PartEvent) (events : List PartEvent) → IfRoomy sizes limit (resumed program (with_objects s (objects_after program s.objects event)) f below (event_outs s.objects event) events)
      after_roomy event events = resumed_roomy (with_objects s (objects_after program s.objects event)) f below (event_outs s.objects event) events roomy

      event_roomy : (events : List PartEvent) → IfRoomy sizes limit (event_step program s f below events)
      event_roomy [] = tt
      event_roomy (Begin p ∷ events) = after_roomy (Begin p) events
      event_roomy (Ready p ∷ events) = after_roomy (Ready p) events
      event_roomy (Init p m ∷ events) = after_roomy (Init p m) events
      event_roomy (Body p ∷ events) = tt
      event_roomy (Done p ∷ events) = after_roomy (Done p) events
      event_roomy (Ending p ∷ events) = after_roomy (Ending p) events
      event_roomy (Bases p ∷ events) = after_roomy (Bases p) events
      event_roomy (End p ∷ events) = after_roomy (End p) events

    -- ends of bodies

    constructor_roomy : (s : ProgramState) (below : List Frame) → IsRoomy sizes s.objects.classes → IfRoomy sizes limit (constructor_closed program s below)
    constructor_roomy s [] roomy = tt
    constructor_roomy s (InBody f ∷ below) roomy = tt
    constructor_roomy s (InPlan f ∷ below) roomy = event_roomy s f below roomy f.events

    closed_roomy : (s : ProgramState) (owner : Owner) (line : ℕ) (below : List Frame) → IsRoomy sizes s.objects.classes → IfRoomy sizes limit (body_closed h program s owner line below)
    closed_roomy s Main line below roomy = tt
    closed_roomy s (Function g) line below roomy = unless_roomy (closing_refusal h s.objects g) line (Goes (with_frames s below) []) (λ none. roomy)
    closed_roomy s (Constructor c) line below roomy = constructor_roomy s below roomy
    closed_roomy s (Destructor c) line below roomy = λ none. roomy

  -- runs

  module _ (typed : IsTypedProgram h program) where
    statement_roomy : (s : ProgramState) (f : RunningBody) (below : List Frame) (body : TypedBody) → owned_body program f.owner ≡ Some body → (o : Option TypedStatement) → slice_get body.statements f.next ≡ o → IsRoomy sizes s.objects.classes → IfRoomy sizes (statement_limit sizes s f o) (next_in_body h program s f below body o)
    statement_roomy s f below body there None is roomy = closed_roomy None s f.owner body.close_line below roomy
    statement_roomy s f below body there (Some statement) is roomy =
        let g : RunningBody = before_kind f statement.kind in
        let demand : Demand = demand_of (sight s f) statement.kind in
        unless_roomy (limit_of sizes s demand) (statement_refusal h (sight s g) (wanted_result g) statement.kind) statement.line (effect h program (with_frames s (InBody g ∷ below)) g below f.next statement)
        (kind_roomy (limit_of sizes s demand) (scope_of h program.globals body) (sight s f) (sight (with_frames s (InBody g ∷ below)) g) (going_on_at (with_frames s (InBody g ∷ below)) statement.next) g below f.next statement.next roomy
        statement.kind ((body_typed h program typed f.owner body there).1.statements f.next statement is).typed (room_of sizes s demand))

    body_roomy : (s : ProgramState) (f : RunningBody) (below : List Frame) (o : Option TypedBody) → owned_body program f.owner ≡ o → IsRoomy sizes s.objects.classes → IfRoomy sizes (body_limit sizes s f o) (body_step h program s f below o)
    body_roomy s f below None there roomy = tt
    body_roomy s f below (Some body) there roomy = statement_roomy s f below body there (slice_get body.statements f.next) refl roomy

    frames_roomy : (s : ProgramState) (frames : List Frame) → IsRoomy sizes s.objects.classes → IfRoomy sizes (frame_limit sizes program s frames) (frame_step h program s frames)
    frames_roomy s [] roomy = tt
    frames_roomy s (InBody f ∷ below) roomy = body_roomy s f below (owned_body program f.owner) refl roomy
    frames_roomy s (InPlan f ∷ below) roomy = event_roomy None s f below roomy f.events

    behind_roomy : (next : Next) (limit : Option LimitNo) (s : ProgramState) → IsRoomy sizes s.objects.classes → IfRoomy sizes limit next → IsRoomy sizes (state_behind (move_by next limit) s).objects.classes
    behind_roomy (Goes new outs) None s roomy more = more refl
    behind_roomy (Goes new outs) (Some limit) s roomy more = roomy
    behind_roomy (Refuses rule line) limit s roomy more = roomy
    behind_roomy Ends limit s roomy more = roomy
    behind_roomy Wrong limit s roomy more = roomy

    none_made : IsRoomy sizes []
    none_made = record { each = omega arith; within = omega arith }

    state_roomy : (n : ℕ) → IsRoomy sizes (state_at h sizes program n).objects.classes
    state_roomy zero = none_made
    state_roomy (suc n) =
        let s : ProgramState = state_at h sizes program n in
        behind_roomy (step h program s) (limit_at sizes program s) s (state_roomy n) (frames_roomy s s.frames (state_roomy n))

    -- the number of an object is one that a dump can name
    pub few_objects : (n : ℕ) → length (state_at h sizes program n).objects.classes ≤ most_dumped_number
    few_objects n =
        let roomy = state_roomy n in
        let each = roomy.each in
        let within = roomy.within in
        omega arith
