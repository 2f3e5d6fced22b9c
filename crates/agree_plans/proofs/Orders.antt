-- Every state of a run keeps its plans in order: each step does.
use Rattle.std.proofs.Common.{◌≡◌, ℕ, zero, suc, ◌+◌, Bool, true, false, Option, Some, None, List, [], ◌∷◌, length, map, refl, subst, sym}
use Rattle.std.specs.Prelude.{slice_get, if◌then◌else◌, option_map}
use Rattle.cxx_hierarchy.specs.declared.records.ClassId.{ClassId}
use Rattle.cxx_hierarchy.specs.Classes.{Classes}
use Rattle.cxx_overrider.specs.declared.FunctionId.{FunctionId}
use Rattle.cxx_overrider.specs.Functions.{return_of}
use Rattle.cxx_program.specs.declared.operand.Conversion.{Conversion}
use Rattle.cxx_program.specs.declared.operand.Variable.{Variable}
use Rattle.cxx_program.specs.declared.operand.Variable.TheVariants.{Global, Local}
use Rattle.cxx_program.specs.declared.statement.Converted.{Converted}
use Rattle.cxx_program.specs.declared.statement.TypedCall.{TypedCall}
use Rattle.cxx_program.specs.declared.statement.TypedKind.{TypedKind}
use Rattle.cxx_program.specs.declared.statement.TypedKind.TheVariants.{Declare, Assign, Write, Copy, Call, Delete, If, While, Return, Print, PrintType, PrintView, Dump}
use Rattle.cxx_program.specs.declared.statement.TypedPlace.{TypedPlace}
use Rattle.cxx_program.specs.declared.statement.TypedRight.{TypedRight}
use Rattle.cxx_program.specs.declared.statement.TypedRight.TheVariants.{Operand, Arithmetic, SamePointer, Not, Read, Address, Call as CallRight, New, Cast, TypeEqual}
use Rattle.cxx_program.specs.declared.statement.TypedStatement.{TypedStatement}
use Rattle.cxx_program.specs.declared.program.Owner.{Owner}
use Rattle.cxx_program.specs.declared.program.Owner.TheVariants.{Main, Function, Constructor, Destructor}
use Rattle.cxx_program.specs.declared.program.TypedBody.{TypedBody}
use Rattle.cxx_program.specs.declared.program.TypedProgram.{TypedProgram}
use Rattle.cxx_program.specs.Typed.{IsTypedProgram}
use Rattle.path_rules.specs.declared.Undefined.{Undefined}
use Rattle.path_plan.specs.Places.{ObjectPart}
use Rattle.path_plan.specs.Phases.{PartEvent, Begin, Ready, Init, Body, Done, Ending, Bases, End}
use Rattle.path_plan.specs.Whole.{whole_part}
use Rattle.path_model.specs.declared.outs.Out.{Out}
use Rattle.path_model.specs.Values.{Value, Unset, Number, Null, Pointer, Sight, value_of_operand, converted_to, argument_value}
use Rattle.path_model.specs.Uses.{receiver_value}
use Rattle.path_model.specs.Rules.{statement_refusal, closing_refusal}
use Rattle.path_model.specs.Outs.{object_class}
use Rattle.path_model.specs.States.{Target, RunningBody, Planned, Frame, InBody, InPlan, ProgramState, owned_body, with_frames, with_objects, with_local_in, assigned, entered_body, at_statement, sight, wanted_result}
use Rattle.path_model.specs.Effects.{Next, Goes, runs, body_entered, function_entered, called_at, taker, new_made, taken, local_declared, written, copied_at, object_ended, deleted, building, ending, branched, given_to_target, result_given, left_by, telling, kind_effect, effect, block_at, frames_at, is_number_zero, result_conversion}
use Rattle.path_model.specs.Steps.{body_owner, class_of_part, objects_after, plan_left, body_opened, resumed, event_step, unless, body_closed, before_kind, step_of_statement, next_in_body, body_step, frame_step, step}
use Rattle.path_model.specs.Runs.{main_frames, limit_at, state_at}
use Rattle.path_model.proofs.KeptFrames.{IfGoes}
use Rattle.path_model.proofs.KeptSteps.{before_rest, behind_move}
use Rattle.path_model.proofs.TypedBodies.{body_typed}
use Rattle.agree_plans.specs.Courses.{IsNoConstructorBody, StartsOwn, EventsFollow, MayGo, MayGoBehind, AreOrderly, IsOrderlyState}
use Rattle.agree_plans.proofs.Closings.{construction_plain, destruction_plain}

module _ (h : Classes) (program : TypedProgram) (typed : IsTypedProgram h program) where
  abbrev Kept : Next → Type 0
  Kept next = IfGoes (IsOrderlyState program) next

  -- frames in which something stands on the first
  abbrev InOrder : List Frame → Type 0
  InOrder frames = MayGo program frames × AreOrderly program frames

  behind_any : (o : Owner) (below : List Frame) → MayGo program below → MayGoBehind program o below
  behind_any Main below a = a
  behind_any (Function f) below a = a
  behind_any (Constructor c) below a = tt
  behind_any (Destructor c) below a = a

  assigned_kept : (s : ProgramState) (x : Variable) (v : Value) → IsOrderlyState program s → IsOrderlyState program (assigned s x v)
  assigned_kept s (Global n) v a = a
  assigned_kept s (Local n) v a = by s.frames a
    where
      by : (frames : List Frame) → InOrder frames → InOrder (with_local_in frames n v)
      by [] b = b
      by (InBody f ∷ below) b = b
      by (InPlan p ∷ below) b = b

  given_kept : (s : ProgramState) (v : Value) (target : Option Target) → IsOrderlyState program s → IsOrderlyState program (given_to_target s v target)
  given_kept s v None a = a
  given_kept s v (Some target) a = assigned_kept s target.variable (converted_to v target.conversion) a

  -- plans

  -- an event comes that has a block of its own
  plan_kept : (s : ProgramState) (p : Planned) (es : List PartEvent) (below : List Frame) (outs : List Out) → StartsOwn program es → EventsFollow program p.is_building es → (p.is_building ≡ false → p.target ≡ None) → InOrder below → Kept (Goes (with_frames s (plan_left p es ∷ below)) outs)
  plan_kept s p es below outs starts follows silent a = (starts, (record { follows = follows; silent = silent }, a.0, a.1))

  body_kept : (s : ProgramState) (p : Planned) (q : ObjectPart) (es : List PartEvent) (below : List Frame) (outs : List Out) → EventsFollow program p.is_building (Body q ∷ es) → (p.is_building ≡ false → p.target ≡ None) → InOrder below
      → (o : Option TypedBody) → owned_body program (body_owner p.is_building (class_of_part q)) ≡ o → Kept (body_opened s q outs (plan_left p es ∷ below) o)
  body_kept s p q es below outs follows silent a None e = tt
  body_kept s p q es below outs follows silent a (Some body) e = (tt, (by p.is_building (body_typed h program typed (body_owner p.is_building (class_of_part q)) body e).0 follows, (record { follows = follows.1; silent = silent }, a.0, a.1)))
    where
      by : (building : Bool) → body.owner ≡ body_owner building (class_of_part q) → EventsFollow program building (Body q ∷ es) → MayGoBehind program body.owner (plan_left p es ∷ below)
      by true own f = subst (λ (o : Owner). MayGoBehind program o (plan_left p es ∷ below)) (sym own) tt
      by false own f = subst (λ (o : Owner). MayGoBehind program o (plan_left p es ∷ below)) (sym own) (f.0 tt)

  resumed_kept : (s : ProgramState) (p : Planned) (below : List Frame) (outs : List Out) (es : List PartEvent) → StartsOwn program es → EventsFollow program p.is_building es → (p.is_building ≡ false → p.target ≡ None) → InOrder below → Kept (resumed program s p below outs es)
  resumed_kept s p below outs [] starts follows silent a = given_kept (with_frames s below) (Pointer (whole_part p.object (object_class s.objects p.object))) p.target a
  resumed_kept s p below outs (Body q ∷ es) starts follows silent a = body_kept s p q es below outs follows silent a (owned_body program (body_owner p.is_building (class_of_part q))) refl
  resumed_kept s p below outs (Begin q ∷ es) starts follows silent a = plan_kept s p (Begin q ∷ es) below outs starts follows silent a
  resumed_kept s p below outs (Ready q ∷ es) starts follows silent a = plan_kept s p (Ready q ∷ es) below outs starts follows silent a
  resumed_kept s p below outs (Init q m ∷ es) starts follows silent a = plan_kept s p (Init q m ∷ es) below outs starts follows silent a
  resumed_kept s p below outs (Done q ∷ es) starts follows silent a = plan_kept s p (Done q ∷ es) below outs starts follows silent a
  resumed_kept s p below outs (Ending q ∷ es) starts follows silent a = plan_kept s p (Ending q ∷ es) below outs starts follows silent a
  resumed_kept s p below outs (Bases q ∷ es) starts follows silent a = plan_kept s p (Bases q ∷ es) below outs starts follows silent a
  resumed_kept s p below outs (End q ∷ es) starts follows silent a = plan_kept s p (End q ∷ es) below outs starts follows silent a

  other_event : (building : Bool) (e : PartEvent) → (IsNoConstructorBody true e → IsNoConstructorBody building e)
  other_event true e a = a
  other_event false e a = tt

  event_kept : (s : ProgramState) (p : Planned) (below : List Frame) (es : List PartEvent) → EventsFollow program p.is_building es → (p.is_building ≡ false → p.target ≡ None) → InOrder below → Kept (event_step program s p below es)
  event_kept s p below [] follows silent a = tt
  event_kept s p below (Body q ∷ es) follows silent a = tt
  event_kept s p below (Begin q ∷ es) follows silent a = resumed_kept (with_objects s (objects_after program s.objects (Begin q))) p below _ es (follows.0 (other_event p.is_building (Begin q) tt)) follows.1 silent a
  event_kept s p below (Ready q ∷ es) follows silent a = resumed_kept (with_objects s (objects_after program s.objects (Ready q))) p below _ es (follows.0 (other_event p.is_building (Ready q) tt)) follows.1 silent a
  event_kept s p below (Init q m ∷ es) follows silent a = resumed_kept (with_objects s (objects_after program s.objects (Init q m))) p below _ es (follows.0 (other_event p.is_building (Init q m) tt)) follows.1 silent a
  event_kept s p below (Done q ∷ es) follows silent a = resumed_kept (with_objects s (objects_after program s.objects (Done q))) p below _ es (follows.0 (other_event p.is_building (Done q) tt)) follows.1 silent a
  event_kept s p below (Ending q ∷ es) follows silent a = resumed_kept (with_objects s (objects_after program s.objects (Ending q))) p below _ es (follows.0 (other_event p.is_building (Ending q) tt)) follows.1 silent a
  event_kept s p below (Bases q ∷ es) follows silent a = resumed_kept (with_objects s (objects_after program s.objects (Bases q))) p below _ es (follows.0 (other_event p.is_building (Bases q) tt)) follows.1 silent a
  event_kept s p below (End q ∷ es) follows silent a = resumed_kept (with_objects s (objects_after program s.objects (End q))) p below _ es (follows.0 (other_event p.is_building (End q) tt)) follows.1 silent a

  top_kept : (s : ProgramState) (p : Planned) (below : List Frame) → AreOrderly program (InPlan p ∷ below) → Kept (event_step program s p below p.events)
  top_kept s p below a = event_kept s p below p.events a.0.follows a.0.silent (a.1, a.2)

  -- statements: the body f is on top

  module _ (f : RunningBody) (below : List Frame) (a : AreOrderly program (InBody f ∷ below)) where
    on_body : (s : ProgramState) → s.frames ≡ InBody f ∷ below → IsOrderlyState program s
    on_body s is = subst (λ (fs : List Frame). InOrder fs) (sym is) (tt, a)

    -- with one frame more
    pushed : (s : ProgramState) (frame : Frame) → s.frames ≡ InBody f ∷ below → InOrder (frame ∷ InBody f ∷ below) → InOrder (frame ∷ s.frames)
    pushed s frame is b = subst (λ (fs : List Frame). InOrder (frame ∷ fs)) (sym is) b

    made_kept : (s : ProgramState) (c : ClassId) (target : Option Target) → s.frames ≡ InBody f ∷ below → Kept (new_made h program s c target)
    made_kept s c target is =
        let plain = construction_plain h program (length s.objects.classes) c in
        pushed s (building h program (length s.objects.classes) c target) is (plain.starts, (record { follows = plain.follows; silent = λ e. absurd (cc (e)) }, tt, a))

    ended_kept : (s : ProgramState) (k : ℕ) (o : Option ClassId) → s.frames ≡ InBody f ∷ below → Kept (object_ended h program s k o)
    ended_kept s k None is = tt
    ended_kept s k (Some c) is =
        let plain = destruction_plain h program k c in
        pushed s (ending h program k c) is (plain.starts, (record { follows = plain.follows; silent = λ e. refl }, tt, a))

    deleted_kept : (s : ProgramState) (v : Value) → s.frames ≡ InBody f ∷ below → Kept (deleted h program s v)
    deleted_kept s Unset is = tt
    deleted_kept s (Number z) is = tt
    deleted_kept s Null is = on_body s is
    deleted_kept s (Pointer p) is = ended_kept s p.object (slice_get s.objects.classes p.object) is

    entered_kept : (s : ProgramState) (values : List Value) (call : TypedCall) (target : Option Target) (run : ObjectPart × FunctionId) (o : Option TypedBody) → s.frames ≡ InBody f ∷ below → Kept (body_entered h s values call target run o)
    entered_kept s values call target run None is = tt
    entered_kept s values call target run (Some body) is =
        pushed s (InBody (entered_body body (Pointer run.0) values (result_conversion h (return_of h run.1) (return_of h call.function)) target)) is (tt, (behind_any body.owner (InBody f ∷ below) tt, a))

    function_kept : (s : ProgramState) (values : List Value) (call : TypedCall) (target : Option Target) (o : Option (ObjectPart × FunctionId)) → s.frames ≡ InBody f ∷ below → Kept (function_entered h program s values call target o)
    function_kept s values call target None is = tt
    function_kept s values call target (Some run) is = entered_kept s values call target run (owned_body program (Function run.1)) is

    called_kept : (s : ProgramState) (values : List Value) (call : TypedCall) (target : Option Target) (v : Value) → s.frames ≡ InBody f ∷ below → Kept (called_at h program s values call target v)
    called_kept s values call target Unset is = tt
    called_kept s values call target (Number z) is = tt
    called_kept s values call target Null is = tt
    called_kept s values call target (Pointer p) is = function_kept s values call target (runs h s.objects call p) is

    taken_kept : (see : Sight) (s : ProgramState) (x : Variable) (right : TypedRight) (c : Conversion) → s.frames ≡ InBody f ∷ below → Kept (taken h program see s x right c)
    taken_kept see s x (Operand y) c is = assigned_kept s x _ (on_body s is)
    taken_kept see s x (Arithmetic op t y z) c is = assigned_kept s x _ (on_body s is)
    taken_kept see s x (SamePointer differ y z) c is = assigned_kept s x _ (on_body s is)
    taken_kept see s x (Not y) c is = assigned_kept s x _ (on_body s is)
    taken_kept see s x (Read place) c is = assigned_kept s x _ (on_body s is)
    taken_kept see s x (Address place d) c is = assigned_kept s x _ (on_body s is)
    taken_kept see s x (CallRight call) c is = called_kept s (map (argument_value see) call.arguments) call (taker x c) (receiver_value see call) is
    taken_kept see s x (New d) c is = made_kept s d (taker x c) is
    taken_kept see s x (Cast cast y) c is = assigned_kept s x _ (on_body s is)
    taken_kept see s x (TypeEqual y d) c is = assigned_kept s x _ (on_body s is)

    declared_kept : (see : Sight) (s : ProgramState) (n : ℕ) (o : Option Converted) → s.frames ≡ InBody f ∷ below → Kept (local_declared h program see s n o)
    declared_kept see s n None is = on_body s is
    declared_kept see s n (Some x) is = taken_kept see s (Local n) x.right x.conversion is

    written_kept : (s : ProgramState) (place : TypedPlace) (new v : Value) → s.frames ≡ InBody f ∷ below → Kept (written s place new v)
    written_kept s place new Unset is = tt
    written_kept s place new (Number z) is = tt
    written_kept s place new Null is = tt
    written_kept s place new (Pointer p) is = on_body s is

    copied_kept : (s : ProgramState) (c : ClassId) (to from : Value) → s.frames ≡ InBody f ∷ below → Kept (copied_at h s c to from)
    copied_kept s c Unset from is = tt
    copied_kept s c (Number z) from is = tt
    copied_kept s c Null from is = tt
    copied_kept s c (Pointer to) Unset is = tt
    copied_kept s c (Pointer to) (Number z) is = tt
    copied_kept s c (Pointer to) Null is = tt
    copied_kept s c (Pointer to) (Pointer from) is = on_body s is

    telling_kept : (s : ProgramState) (o : Option Out) → s.frames ≡ InBody f ∷ below → Kept (telling s o)
    telling_kept s None is = tt
    telling_kept s (Some out) is = on_body s is

  result_kept : (s : ProgramState) (found : Conversion) (target : Option Target) (o : Option Value) → IsOrderlyState program s → IsOrderlyState program (result_given s found target o)
  result_kept s found target None a = a
  result_kept s found target (Some v) a = given_kept s (converted_to v found) target a

  returned_kept : (s : ProgramState) (g : RunningBody) (below : List Frame) (o : Owner) (v : Option Value) → MayGoBehind program o below → AreOrderly program below → Kept (left_by o (result_given (with_frames s below) g.found g.target v))
  returned_kept s g below Main v a b = tt
  returned_kept s g below (Function n) v a b = result_kept (with_frames s below) g.found g.target v (a, b)
  returned_kept s g below (Constructor c) v a b = tt
  returned_kept s g below (Destructor c) v a b = tt

  branched_kept : (s : ProgramState) (f : RunningBody) (below : List Frame) (v : Value) (yes_at no_at : ℕ) → s.frames ≡ InBody f ∷ below → AreOrderly program (InBody f ∷ below) → Kept (branched s v yes_at no_at)
  branched_kept s f below Unset yes_at no_at is a = tt
  branched_kept s f below (Number z) yes_at no_at is a = by (if is_number_zero z then no_at else yes_at)
    where
      by : (n : ℕ) → InOrder (frames_at s.frames n)
      by n = subst (λ (fs : List Frame). InOrder (frames_at fs n)) (sym is) (tt, a)
  branched_kept s f below Null yes_at no_at is a = tt
  branched_kept s f below (Pointer p) yes_at no_at is a = tt

  kind_kept : (see : Sight) (s : ProgramState) (f g : RunningBody) (below : List Frame) (n next : ℕ) (kind : TypedKind) → s.frames ≡ InBody f ∷ below → AreOrderly program (InBody f ∷ below) → MayGoBehind program g.owner below → Kept (kind_effect h program see s g below n next kind)
  kind_kept see s f g below n next (Declare m x) is a left = declared_kept f below a see s m x is
  kind_kept see s f g below n next (Assign x y) is a left = taken_kept f below a see s x y.right y.conversion is
  kind_kept see s f g below n next (Write place x) is a left = written_kept f below a s place (argument_value see x) (value_of_operand see place.pointer) is
  kind_kept see s f g below n next (Copy to from c) is a left = copied_kept f below a s c (value_of_operand see to) (value_of_operand see from) is
  kind_kept see s f g below n next (Call call) is a left = called_kept f below a s (map (argument_value see) call.arguments) call None (receiver_value see call) is
  kind_kept see s f g below n next (Delete x c) is a left = deleted_kept f below a s (value_of_operand see x) is
  kind_kept see s f g below n next (If x other behind) is a left = branched_kept s f below (value_of_operand see x) (block_at (n + 1) other next) (block_at other behind next) is a
  kind_kept see s f g below n next (While x behind) is a left = branched_kept s f below (value_of_operand see x) (block_at (n + 1) behind n) next is a
  kind_kept see s f g below n next (Return x) is a left = returned_kept s g below g.owner (option_map (argument_value see) x) left a.1
  kind_kept see s f g below n next (Print x) is a left = telling_kept f below a s _ is
  kind_kept see s f g below n next (PrintType x c) is a left = telling_kept f below a s _ is
  kind_kept see s f g below n next (PrintView x c) is a left = telling_kept f below a s _ is
  kind_kept see s f g below n next (Dump x c) is a left = telling_kept f below a s _ is

  -- each step

  unless_kept : (o : Option Undefined) (line : ℕ) (next : Next) → Kept next → Kept (unless o line next)
  unless_kept None line next a = a
  unless_kept (Some rule) line next a = tt

  closed_kept : (s : ProgramState) (o : Owner) (line : ℕ) (below : List Frame) → MayGoBehind program o below → AreOrderly program below → Kept (body_closed h program s o line below)
  closed_kept s Main line below a b = tt
  closed_kept s (Function g) line below a b = unless_kept (closing_refusal h s.objects g) line (Goes (with_frames s below) []) (a, b)
  closed_kept s (Constructor c) line [] a b = tt
  closed_kept s (Constructor c) line (InBody f ∷ below) a b = tt
  closed_kept s (Constructor c) line (InPlan p ∷ below) a b = top_kept s p below b
  closed_kept s (Destructor c) line below a b = (a, b)

  statement_kept : (s : ProgramState) (f : RunningBody) (below : List Frame) (n : ℕ) (statement : TypedStatement) → AreOrderly program (InBody f ∷ below) → Kept (step_of_statement h program s f below n statement)
  statement_kept s f below n statement a = unless_kept (statement_refusal h (sight s f) (wanted_result f) statement.kind) statement.line (effect h program (with_frames s (InBody f ∷ below)) f below n statement)
      (kind_kept (sight (with_frames s (InBody f ∷ below)) f) (with_frames s (InBody (at_statement f statement.next) ∷ below)) (at_statement f statement.next) f below n statement.next statement.kind refl a a.0)

  before_kept : (f : RunningBody) (kind : TypedKind) (below : List Frame) → AreOrderly program (InBody f ∷ below) → AreOrderly program (InBody (before_kind f kind) ∷ below)
  before_kept f kind below a = (subst (λ (o : Owner). MayGoBehind program o below) ((before_rest f kind).owner) a.0, a.1)

  in_body_kept : (s : ProgramState) (f : RunningBody) (below : List Frame) (body : TypedBody) (o : Option TypedStatement) → AreOrderly program (InBody f ∷ below) → Kept (next_in_body h program s f below body o)
  in_body_kept s f below body None a = closed_kept s f.owner body.close_line below a.0 a.1
  in_body_kept s f below body (Some statement) a = statement_kept s (before_kind f statement.kind) below f.next statement (before_kept f statement.kind below a)

  body_step_kept : (s : ProgramState) (f : RunningBody) (below : List Frame) (o : Option TypedBody) → AreOrderly program (InBody f ∷ below) → Kept (body_step h program s f below o)
  body_step_kept s f below None a = tt
  body_step_kept s f below (Some body) a = in_body_kept s f below body (slice_get body.statements f.next) a

  frames_kept : (s : ProgramState) (frames : List Frame) → AreOrderly program frames → Kept (frame_step h program s frames)
  frames_kept s [] a = tt
  frames_kept s (InBody f ∷ below) a = body_step_kept s f below (owned_body program f.owner) a
  frames_kept s (InPlan p ∷ below) a = top_kept s p below a

  start_in_order : (o : Option TypedBody) → InOrder (main_frames o)
  start_in_order None = (tt, tt)
  start_in_order (Some body) = (tt, (behind_any body.owner [] tt, tt))

  pub runs_in_order : (sizes : ClassId → ℕ) (n : ℕ) → IsOrderlyState program (state_at h sizes program n)
  runs_in_order sizes zero = start_in_order program.main
  runs_in_order sizes (suc n) =
      let s = state_at h sizes program n in
      behind_move (IsOrderlyState program) (step h program s) (limit_at sizes program s) s (runs_in_order sizes n) (frames_kept s s.frames (runs_in_order sizes n).1)
