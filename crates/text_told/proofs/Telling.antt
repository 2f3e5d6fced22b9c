-- Each step of a typed program's run makes objects of classes of the hierarchy alone, and what it tells names parts that are there, and functions that have bodies.
use Rattle.std.proofs.Common.{◌≡◌, ◌∙◌, inl, ℕ, zero, suc, ◌+◌, ◌<◌, true, false, ⊎_elim, Option, Some, None, List, [], ◌∷◌, ◌++◌, map, length, refl, ap, subst, sym}
use Rattle.std.specs.Prelude.{slice_get}
use Rattle.foundation.proofs.Members.{Has}
use Rattle.foundation.proofs.Places.{get_pushed}
use Rattle.cxx_hierarchy.specs.declared.records.ClassId.{ClassId}
use Rattle.cxx_hierarchy.specs.declared.records.ValueType.{ValueType}
use Rattle.cxx_hierarchy.specs.declared.records.ValueType.TheVariants.{Pointer as PointerType}
use Rattle.cxx_hierarchy.specs.declared.stop.LimitNo.{LimitNo}
use Rattle.cxx_hierarchy.specs.Classes.{Classes}
use Rattle.cxx_hierarchy.specs.Hierarchies.{IsHierarchy}
use Rattle.cxx_subobject.specs.Locations.{ObjectPart}
use Rattle.cxx_overrider.specs.Faults.{HasNoFault}
use Rattle.cxx_overrider.specs.declared.FunctionId.{FunctionId}
use Rattle.cxx_program.specs.declared.operand.Variable.{Variable}
use Rattle.cxx_program.specs.declared.operand.Variable.TheVariants.{Global, Local}
use Rattle.cxx_program.specs.declared.operand.Conversion.{Conversion}
use Rattle.cxx_program.specs.declared.statement.TypedPlace.{TypedPlace}
use Rattle.cxx_program.specs.declared.statement.TypedCall.{TypedCall}
use Rattle.cxx_program.specs.declared.statement.TypedRight.{TypedRight}
use Rattle.cxx_program.specs.declared.statement.TypedRight.TheVariants.{Operand, Arithmetic, SamePointer, Not, Read, Address, Call as CallRight, New, Cast, TypeEqual}
use Rattle.cxx_program.specs.declared.statement.Converted.{Converted}
use Rattle.cxx_program.specs.declared.statement.TypedKind.{TypedKind}
use Rattle.cxx_program.specs.declared.statement.TypedStatement.{TypedStatement}
use Rattle.cxx_program.specs.declared.program.Owner.{Owner}
use Rattle.cxx_program.specs.declared.program.Owner.TheVariants.{Main, Function, Constructor, Destructor}
use Rattle.cxx_program.specs.declared.program.TypedBody.{TypedBody}
use Rattle.cxx_program.specs.declared.program.TypedProgram.{TypedProgram}
use Rattle.cxx_program.specs.Typed.{Scope, scope_of, this_of, HasRight, an_operand, a_calculation, a_comparison, a_negation, a_read, an_address, a_result, an_object, a_cast, a_type_test, IsConverted, a_right, a_null_right, IsTyped, declares, begins, assigns, writes, copies, calls, deletes, branches, repeats, returns_nothing, returns_value, prints, prints_type, prints_view, dumps, IsTypedProgram}
use Rattle.path_rules.specs.declared.Undefined.{Undefined}
use Rattle.path_plan.specs.Whole.{whole_part}
use Rattle.path_plan.specs.Phases.{PartEvent, Begin, Ready, Init, Body, Done, Ending, Bases, End, part_of}
use Rattle.path_model.specs.declared.outs.Out.{Out}
use Rattle.path_model.specs.declared.outs.Out.TheVariants.{Number as NumberOut, Pointer as PointerOut, TypeName as TypeNameOut, Dump as DumpOut, Call as CallOut, Built as BuiltOut, Ending as EndingOut}
use Rattle.path_model.specs.Values.{Value, Unset, Number, Null, Pointer, Sight, value_of_operand, argument_value, converted_to}
use Rattle.path_model.specs.Uses.{receiver_value}
use Rattle.path_model.specs.Rules.{closing_refusal, statement_refusal}
use Rattle.path_model.specs.States.{Target, RunningBody, Planned, Frame, InBody, InPlan, ProgramState, assigned, owned_body, is_body, sight, wanted_result, with_frames, with_objects}
use Rattle.path_model.specs.Outs.{location_of, object_class}
use Rattle.path_model.specs.Effects.{Next, Goes, Refuses, Ends, Wrong, body_entered, block_at, branched, called, called_at, copied_at, deleted, dump_out, effect, function_entered, given_to_target, going_on_at, kind_effect, left_by, object_ended, result_given, returned, right_side_value, runs, taken, taker, telling, type_out, value_out, view_out, written}
use Rattle.path_model.specs.Steps.{before_kind, body_opened, body_owner, body_step, class_of_part, body_closed, constructor_closed, event_outs, event_step, frame_step, next_in_body, objects_after, plan_left, resumed, step, unless}
use Rattle.path_model.specs.Runs.{limit_at, move, move_by, outs_in, state_at, within}
use Rattle.path_model.specs.TypedStates.{IsPartMade, IsThis}
use Rattle.path_model.proofs.KeptFrames.{IfGoes, IsKept, IsKeptAt, kept_left}
use Rattle.path_model.proofs.KeptLaws.{plan_inside}
use Rattle.path_model.proofs.KeptSteps.{before_rest, behind_move, state_kept}
use Rattle.path_model.proofs.TypedBodies.{body_typed}
use Rattle.path_model.proofs.TypedFrames.{IsSound, IsSoundNext, assigned_sound, sight_typed}
use Rattle.path_model.proofs.TypedPlans.{inside_made}
use Rattle.path_model.proofs.TypedStatements.{kind_sound}
use Rattle.path_model.proofs.TypedSteps.{state_sound}
use Rattle.path_model.proofs.TypedValues.{IsTypedSight, operand_typed}
use Rattle.path_model.specs.Outs.{is_traced}
use Rattle.text_told.specs.OutTexts.{IsTold}
use Rattle.text_told.proofs.Outs.{AreKnown, IfTold, dump_names, part_names, type_names, value_names, view_names}

-- what is told as a call is one of a function that has a body
abbrev pub HasBody : TypedProgram → Out → Type 0
HasBody program (NumberOut z) = Unit {0}
HasBody program (PointerOut at_part) = Unit {0}
HasBody program (TypeNameOut c) = Unit {0}
HasBody program (DumpOut number c leaves) = Unit {0}
HasBody program (CallOut f at_part) = is_body (owned_body program (Function f)) ≡ true
HasBody program (BuiltOut c at_part) = Unit {0}
HasBody program (EndingOut c at_part) = Unit {0}

-- what is told names parts that are there, and functions that have bodies
abbrev pub AreTold : Classes → TypedProgram → List Out → Type 0
AreTold h program outs = (out : Out) → Has outs out → IsTold h out × HasBody program out

none_told : (h : Classes) (program : TypedProgram) → AreTold h program []
none_told h program out has = absurd has

one_told : (h : Classes) (program : TypedProgram) (x : Out) → IsTold h x → HasBody program x → AreTold h program (x ∷ [])
one_told h program x told body out has = ⊎_elim (λ e. subst (λ (y : Out). IsTold h y × HasBody program y) e (told, body)) (λ none. absurd none) has

-- what is printed is no call
printed_body : (program : TypedProgram) (x : Out) → is_traced x ≡ false → HasBody program x
printed_body program (NumberOut z) plain = tt
printed_body program (PointerOut at_part) plain = tt
printed_body program (TypeNameOut c) plain = tt
printed_body program (DumpOut number c leaves) plain = tt
printed_body program (CallOut f at_part) plain = absurd (let e : true ≡ false = plain in cc (e))
printed_body program (BuiltOut c at_part) plain = tt
printed_body program (EndingOut c at_part) plain = tt

-- a step that goes leads to objects of known classes, and what it tells names parts and bodies that are there
abbrev pub IsFine : Classes → TypedProgram → Next → Type 0
IsFine h program (Goes s outs) = AreKnown h s.objects.classes × AreTold h program outs
IsFine h program (Refuses rule line) = Unit {0}
IsFine h program Ends = Unit {0}
IsFine h program Wrong = Unit {0}

-- changes of a state that make no object

assigned_known : (h : Classes) (s : ProgramState) (x : Variable) (v : Value) → AreKnown h s.objects.classes → AreKnown h (assigned s x v).objects.classes
assigned_known h s (Global n) v known = known
assigned_known h s (Local n) v known = known

given_known : (h : Classes) (s : ProgramState) (v : Value) (target : Option Target) → AreKnown h s.objects.classes → AreKnown h (given_to_target s v target).objects.classes
given_known h s v None known = known
given_known h s v (Some target) known = assigned_known h s target.variable (converted_to v target.conversion) known

result_known : (h : Classes) (s : ProgramState) (found : Conversion) (target : Option Target) (v : Option Value) → AreKnown h s.objects.classes → AreKnown h (result_given s found target v).objects.classes
result_known h s found target None known = known
result_known h s found target (Some v) known = given_known h s (converted_to v found) target known

pushed_known : (h : Classes) (cs : List ClassId) (d : ClassId) → AreKnown h cs → d.0 < length h → AreKnown h (cs ++ d ∷ [])
pushed_known h cs d known new k c there = ⊎_elim (λ old. known k c old) (λ last. subst (λ (e : ClassId). e.0 < length h) (sym last.1) new) (get_pushed cs d k c there)

-- events

-- the parts of events were made
abbrev AreMade : Classes → List ClassId → List PartEvent → Type 0
AreMade h cs events = (e : PartEvent) → Has events e → IsPartMade h cs (part_of e) (class_of_part (part_of e))

module _ (h : Classes) (program : TypedProgram) where
  opened_fine : (s : ProgramState) (p : ObjectPart) (outs : List Out) (frames : List Frame) (o : Option TypedBody) → AreKnown h s.objects.classes → AreTold h program outs → IsFine h program (body_opened s p outs frames o)
  opened_fine s p outs frames None known told = tt
  opened_fine s p outs frames (Some body) known told = (known, told)

  resumed_fine : (s : ProgramState) (f : Planned) (below : List Frame) (outs : List Out) (events : List PartEvent) → AreKnown h s.objects.classes → AreTold h program outs → IsFine h program (resumed program s f below outs events)
  resumed_fine s f below outs [] known told = (given_known h (with_frames s below) (Pointer (whole_part f.object (object_class s.objects f.object))) f.target known, told)
  resumed_fine s f below outs (Begin p ∷ events) known told = (known, told)
  resumed_fine s f below outs (Ready p ∷ events) known told = (known, told)
  resumed_fine s f below outs (Init p m ∷ events) known told = (known, told)
  resumed_fine s f below outs (Body p ∷ events) known told = opened_fine s p outs (plan_left f events ∷ below) (owned_body program (body_owner f.is_building (class_of_part p))) known told
  resumed_fine s f below outs (Done p ∷ events) known told = (known, told)
  resumed_fine s f below outs (Ending p ∷ events) known told = (known, told)
  resumed_fine s f below outs (Bases p ∷ events) known told = (known, told)
  resumed_fine s f below outs (End p ∷ events) known told = (known, told)

  event_fine : (s : ProgramState) (f : Planned) (below : List Frame) (events : List PartEvent) → AreKnown h s.objects.classes → AreMade h s.objects.classes events → IsFine h program (event_step program s f below events)
  event_fine s f below [] known made = tt
  event_fine s f below (Begin p ∷ events) known made = resumed_fine (with_objects s (objects_after program s.objects (Begin p))) f below [] events known (none_told h program)
  event_fine s f below (Ready p ∷ events) known made = resumed_fine (with_objects s (objects_after program s.objects (Ready p))) f below [] events known (none_told h program)
  event_fine s f below (Init p m ∷ events) known made = resumed_fine (with_objects s (objects_after program s.objects (Init p m))) f below [] events known (none_told h program)
  event_fine s f below (Body p ∷ events) known made = tt
  event_fine s f below (Done p ∷ events) known made =
      resumed_fine (with_objects s (objects_after program s.objects (Done p))) f below (event_outs s.objects (Done p)) events known
      (one_told h program (BuiltOut (class_of_part p) (location_of s.objects p)) (part_names h s.objects known p (class_of_part p) (made (Done p) (inl refl))) tt)
  event_fine s f below (Ending p ∷ events) known made =
      resumed_fine (with_objects s (objects_after program s.objects (Ending p))) f below (event_outs s.objects (Ending p)) events known
      (one_told h program (EndingOut (class_of_part p) (location_of s.objects p)) (part_names h s.objects known p (class_of_part p) (made (Ending p) (inl refl))) tt)
  event_fine s f below (Bases p ∷ events) known made = resumed_fine (with_objects s (objects_after program s.objects (Bases p))) f below [] events known (none_told h program)
  event_fine s f below (End p ∷ events) known made = resumed_fine (with_objects s (objects_after program s.objects (End p))) f below [] events known (none_told h program)

  plan_fine : IsHierarchy h → (s : ProgramState) (f : Planned) (below : List Frame) → IsKeptAt h program s.objects (InPlan f ∷ below) → AreKnown h s.objects.classes → IsFine h program (event_step program s f below f.events)
  plan_fine keeps s f below kept known =
      event_fine s f below f.events known (λ e has. let r = plan_inside h keeps program s.objects (InPlan f ∷ below) kept f e (inl refl) has in inside_made h s.objects.classes f.object r.0 (part_of e) r.1 r.2)

  -- ends of bodies

  unless_fine : (o : Option Undefined) (line : ℕ) (next : Next) → (o ≡ None → IsFine h program next) → IsFine h program (unless o line next)
  unless_fine None line next fine = fine refl
  unless_fine (Some rule) line next fine = tt

  constructor_fine : IsHierarchy h → (s : ProgramState) (below : List Frame) → IsKeptAt h program s.objects below → AreKnown h s.objects.classes → IsFine h program (constructor_closed program s below)
  constructor_fine keeps s [] kept known = tt
  constructor_fine keeps s (InBody f ∷ below) kept known = tt
  constructor_fine keeps s (InPlan f ∷ below) kept known = plan_fine keeps s f below kept known

  closed_fine : IsHierarchy h → (s : ProgramState) (o : Owner) (line : ℕ) (below : List Frame) → IsKeptAt h program s.objects below → AreKnown h s.objects.classes → IsFine h program (body_closed h program s o line below)
  closed_fine keeps s Main line below kept known = tt
  closed_fine keeps s (Function g) line below kept known = unless_fine (closing_refusal h s.objects g) line (Goes (with_frames s below) []) (λ none. (known, none_told h program))
  closed_fine keeps s (Constructor c) line below kept known = constructor_fine keeps s below kept known
  closed_fine keeps s (Destructor c) line below kept known = (known, none_told h program)

  -- calls: the part that is `this` was made, since the body is entered in a typed state

  this_made : (cs : List ClassId) (o : Owner) (g : FunctionId) (p : ObjectPart) → o ≡ Function g → IsThis h cs (this_of o) (Pointer p) → IsPartMade h cs p g.class
  this_made cs o g p is this =
      let r = subst (λ (x : Owner). IsThis h cs (this_of x) (Pointer p)) is this in
      let same : Pointer p ≡ Pointer r.0 = r.1 in
      let at_part : r.0 ≡ p = cc in
      subst (λ (q : ObjectPart). IsPartMade h cs q g.class) at_part r.2

  module _ (typed : IsTypedProgram h program) where
    entered_fine : (s : ProgramState) (values : List Value) (call : TypedCall) (target : Option Target) (run : ObjectPart × FunctionId) (o : Option TypedBody) → owned_body program (Function run.1) ≡ o → AreKnown h s.objects.classes
        → IsSoundNext h program (body_entered h s values call target run o) → IsFine h program (body_entered h s values call target run o)
    entered_fine s values call target run None there known sound = tt
    entered_fine s values call target run (Some body) there known sound =
        let owner = (body_typed h program typed (Function run.1) body there).0 in
        let made = this_made s.objects.classes body.owner run.1 run.0 owner sound.typed.frames.0.1.this in
        (known, one_told h program (CallOut run.1 (location_of s.objects run.0)) (part_names h s.objects known run.0 run.1.class made) (ap is_body there))

    function_fine : (s : ProgramState) (values : List Value) (call : TypedCall) (target : Option Target) (o : Option (ObjectPart × FunctionId)) → AreKnown h s.objects.classes
        → IsSoundNext h program (function_entered h program s values call target o) → IsFine h program (function_entered h program s values call target o)
    function_fine s values call target None known sound = tt
    function_fine s values call target (Some run) known sound = entered_fine s values call target run (owned_body program (Function run.1)) refl known sound

    called_at_fine : (s : ProgramState) (values : List Value) (call : TypedCall) (target : Option Target) (v : Value) → AreKnown h s.objects.classes
        → IsSoundNext h program (called_at h program s values call target v) → IsFine h program (called_at h program s values call target v)
    called_at_fine s values call target Unset known sound = tt
    called_at_fine s values call target (Number z) known sound = tt
    called_at_fine s values call target Null known sound = tt
    called_at_fine s values call target (Pointer p) known sound = function_fine s values call target (runs h s.objects call p) known sound

    called_fine : (see : Sight) (s : ProgramState) (call : TypedCall) (target : Option Target) → AreKnown h s.objects.classes → IsSoundNext h program (called h program see s call target) → IsFine h program (called h program see s call target)
    called_fine see s call target known sound = called_at_fine s (map (argument_value see) call.arguments) call target (receiver_value see call) known sound

  -- right sides

  made_known : (e : Scope) (r : TypedRight) (u : ValueType ClassId) → HasRight h e r u → (d : ClassId) → r ≡ New d → d.0 < length h
  made_known e _ _ (an_operand x t has) d is = absurd (cc)
  made_known e _ _ (a_calculation op s t x y left right) d is = absurd (cc)
  made_known e _ _ (a_comparison differ x y c left right) d is = absurd (cc)
  made_known e _ _ (a_negation x t has) d is = absurd (cc)
  made_known e _ _ (a_read place t p) d is = absurd (cc)
  made_known e _ _ (an_address place c p) d is = absurd (cc)
  made_known e _ _ (a_result other f t c ret) d is = absurd (cc)
  made_known e _ _ (an_object c known) d is = let same : c ≡ d = cc in subst (λ (x : ClassId). x.0 < length h) same known
  made_known e _ _ (a_cast cast x c k has casts) d is = absurd (cc)
  made_known e _ _ (a_type_test x c k has poly known) d is = absurd (cc)

  new_known : (e : Scope) (x : Converted) (t : ValueType ClassId) → IsConverted h e x t → (d : ClassId) → x.right ≡ New d → d.0 < length h
  new_known e _ _ (a_right x u t has fits) d is = made_known e x.right u has d is
  new_known e _ _ (a_null_right c) d is = absurd (cc)

  taken_fine : IsTypedProgram h program → (e : Scope) (see : Sight) (s : ProgramState) (variable : Variable) (t : ValueType ClassId) (r : TypedRight) (c : Conversion) → IsConverted h e (record { right = r; conversion = c }) t → AreKnown h s.objects.classes
      → IsSoundNext h program (taken h program see s variable r c) → IsFine h program (taken h program see s variable r c)
  taken_fine typed e see s variable t (Operand x) c fits known sound = (assigned_known h s variable (converted_to (right_side_value h see (Operand x)) c) known, none_told h program)
  taken_fine typed e see s variable t (Arithmetic op k x y) c fits known sound = (assigned_known h s variable (converted_to (right_side_value h see (Arithmetic op k x y)) c) known, none_told h program)
  taken_fine typed e see s variable t (SamePointer differ x y) c fits known sound = (assigned_known h s variable (converted_to (right_side_value h see (SamePointer differ x y)) c) known, none_told h program)
  taken_fine typed e see s variable t (Not x) c fits known sound = (assigned_known h s variable (converted_to (right_side_value h see (Not x)) c) known, none_told h program)
  taken_fine typed e see s variable t (Read place) c fits known sound = (assigned_known h s variable (converted_to (right_side_value h see (Read place)) c) known, none_told h program)
  taken_fine typed e see s variable t (Address place d) c fits known sound = (assigned_known h s variable (converted_to (right_side_value h see (Address place d)) c) known, none_told h program)
  taken_fine typed e see s variable t (CallRight call) c fits known sound = called_fine typed see s call (taker variable c) known sound
  taken_fine typed e see s variable t (New d) c fits known sound = (pushed_known h s.objects.classes d known (new_known e (record { right = New d; conversion = c }) t fits d refl), none_told h program)
  taken_fine typed e see s variable t (Cast cast x) c fits known sound = (assigned_known h s variable (converted_to (right_side_value h see (Cast cast x)) c) known, none_told h program)
  taken_fine typed e see s variable t (TypeEqual x d) c fits known sound = (assigned_known h s variable (converted_to (right_side_value h see (TypeEqual x d)) c) known, none_told h program)

  -- other statements

  written_fine : (s : ProgramState) (place : TypedPlace) (v w : Value) → AreKnown h s.objects.classes → IsFine h program (written s place v w)
  written_fine s place v Unset known = tt
  written_fine s place v (Number z) known = tt
  written_fine s place v Null known = tt
  written_fine s place v (Pointer p) known = (known, none_told h program)

  copied_fine : (s : ProgramState) (c : ClassId) (v w : Value) → AreKnown h s.objects.classes → IsFine h program (copied_at h s c v w)
  copied_fine s c Unset w known = tt
  copied_fine s c (Number z) w known = tt
  copied_fine s c Null w known = tt
  copied_fine s c (Pointer p) Unset known = tt
  copied_fine s c (Pointer p) (Number z) known = tt
  copied_fine s c (Pointer p) Null known = tt
  copied_fine s c (Pointer p) (Pointer q) known = (known, none_told h program)

  ended_fine : (s : ProgramState) (k : ℕ) (o : Option ClassId) → AreKnown h s.objects.classes → IsFine h program (object_ended h program s k o)
  ended_fine s k None known = tt
  ended_fine s k (Some c) known = (known, none_told h program)

  deleted_fine : (s : ProgramState) (v : Value) → AreKnown h s.objects.classes → IsFine h program (deleted h program s v)
  deleted_fine s Unset known = tt
  deleted_fine s (Number z) known = tt
  deleted_fine s Null known = (known, none_told h program)
  deleted_fine s (Pointer p) known = ended_fine s p.object (slice_get s.objects.classes p.object) known

  branched_fine : (s : ProgramState) (v : Value) (yes_at no_at : ℕ) → AreKnown h s.objects.classes → IsFine h program (branched s v yes_at no_at)
  branched_fine s Unset yes_at no_at known = tt
  branched_fine s (Number z) yes_at no_at known = (known, none_told h program)
  branched_fine s Null yes_at no_at known = tt
  branched_fine s (Pointer p) yes_at no_at known = tt

  left_fine : (o : Owner) (s : ProgramState) → AreKnown h s.objects.classes → IsFine h program (left_by o s)
  left_fine Main s known = tt
  left_fine (Function g) s known = (known, none_told h program)
  left_fine (Constructor c) s known = tt
  left_fine (Destructor c) s known = tt

  returned_fine : (s : ProgramState) (f : RunningBody) (below : List Frame) (v : Option Value) → AreKnown h s.objects.classes → IsFine h program (returned s f below v)
  returned_fine s f below v known = left_fine f.owner (result_given (with_frames s below) f.found f.target v) (result_known h (with_frames s below) f.found f.target v known)

  telling_fine : (s : ProgramState) (o : Option Out) → AreKnown h s.objects.classes → IfTold h o → IsFine h program (telling s o)
  telling_fine s None known told = tt
  telling_fine s (Some out) known told = (known, one_told h program out told.0 (printed_body program out told.1))

  -- statements

  module _ (typed : IsTypedProgram h program) (s : ProgramState) (f : RunningBody) (below : List Frame) (body : TypedBody) (there : owned_body program f.owner ≡ Some body) (b : IsSound h program (with_frames s (InBody f ∷ below))) (known : AreKnown h s.objects.classes) (n next : ℕ) where
    -- what the statement sees
    abbrev See : TypedKind → Sight
    See kind = sight (with_frames s (InBody (before_kind f kind) ∷ below)) (before_kind f kind)

    -- the state in which control has gone on
    abbrev On : TypedKind → ProgramState
    On kind = going_on_at (with_frames s (InBody (before_kind f kind) ∷ below)) next

    sees : IsTypedSight h (scope_of h program.globals body) (sight (with_frames s (InBody f ∷ below)) f)
    sees = sight_typed h program (with_frames s (InBody f ∷ below)) f below body refl there (body_typed h program typed f.owner body there).0 b.typed

    kind_fine : (kind : TypedKind) → IsTyped h (scope_of h program.globals body) kind → IsSoundNext h program (kind_effect h program (See kind) (On kind) (before_kind f kind) below n next kind) → IsFine h program (kind_effect h program (See kind) (On kind) (before_kind f kind) below n next kind)
    kind_fine kind (declares m t is) sound = (known, none_told h program)
    kind_fine kind (begins m y t is fits) sound = taken_fine typed (scope_of h program.globals body) (See kind) (On kind) (Local m) t y.right y.conversion fits known sound
    kind_fine kind (assigns variable y t is fits) sound = taken_fine typed (scope_of h program.globals body) (See kind) (On kind) variable t y.right y.conversion fits known sound
    kind_fine kind (writes place y t p fits) sound = written_fine (On kind) place (argument_value (See kind) y) (value_of_operand (See kind) place.pointer) known
    kind_fine kind (copies to from c has_to has_from) sound = copied_fine (On kind) c (value_of_operand (See kind) to) (value_of_operand (See kind) from) known
    kind_fine kind (calls call d c) sound = called_fine typed (See kind) (On kind) call None known sound
    kind_fine kind (deletes y c has) sound = deleted_fine (On kind) (value_of_operand (See kind) y) known
    kind_fine kind (branches y t other behind has) sound = branched_fine (On kind) (value_of_operand (See kind) y) (block_at (n + 1) other next) (block_at other behind next) known
    kind_fine kind (repeats y t behind has) sound = branched_fine (On kind) (value_of_operand (See kind) y) (block_at (n + 1) behind n) next known
    kind_fine kind (returns_nothing is) sound = returned_fine (On kind) f below None known
    kind_fine kind (returns_value y t is fits) sound = returned_fine (On kind) f below (Some (argument_value (See kind) y)) known
    kind_fine kind (prints y t has) sound = telling_fine (On kind) (value_out s.objects (value_of_operand (See kind) y)) known (value_names h s.objects known (value_of_operand (See kind) y) t (operand_typed h (scope_of h program.globals body) (See kind) sees y t has))
    kind_fine kind (prints_type y c has poly) sound = telling_fine (On kind) (type_out h s.objects (value_of_operand (See kind) y)) known (type_names h s.objects known (value_of_operand (See kind) y))
    kind_fine kind (prints_view y c has poly) sound =
        telling_fine (On kind) (view_out h s.objects (value_of_operand (See kind) y)) known (view_names h s.objects known b.runs (value_of_operand (See kind) y) c (operand_typed h (scope_of h program.globals body) (See kind) sees y (PointerType c) has))
    kind_fine kind (dumps y c has) sound = telling_fine (On kind) (dump_out h s.objects (value_of_operand (See kind) y)) known (dump_names h s.objects known b.typed.leaves (value_of_operand (See kind) y))

  module _ (keeps : IsHierarchy h) (fine : HasNoFault h) (typed : IsTypedProgram h program) where
    -- a declaration makes its variable unset
    before_sound : (s : ProgramState) (f : RunningBody) (below : List Frame) (body : TypedBody) → owned_body program f.owner ≡ Some body → (kind : TypedKind) → IsTyped h (scope_of h program.globals body) kind → IsSound h program (with_frames s (InBody f ∷ below))
        → IsSound h program (with_frames s (InBody (before_kind f kind) ∷ below))
    before_sound s f below body there kind (declares n t is) b = assigned_sound h program (with_frames s (InBody f ∷ below)) body there (Local n) t is Unset tt b
    before_sound s f below body there kind (begins n x t is fits) b = assigned_sound h program (with_frames s (InBody f ∷ below)) body there (Local n) t is Unset tt b
    before_sound s f below body there kind (assigns variable x t is fits) b = b
    before_sound s f below body there kind (writes place x t p fits) b = b
    before_sound s f below body there kind (copies to from c has_to has_from) b = b
    before_sound s f below body there kind (calls call d c) b = b
    before_sound s f below body there kind (deletes x c has) b = b
    before_sound s f below body there kind (branches x t other behind has) b = b
    before_sound s f below body there kind (repeats x t behind has) b = b
    before_sound s f below body there kind (returns_nothing is) b = b
    before_sound s f below body there kind (returns_value x t is fits) b = b
    before_sound s f below body there kind (prints x t has) b = b
    before_sound s f below body there kind (prints_type x c has poly) b = b
    before_sound s f below body there kind (prints_view x c has poly) b = b
    before_sound s f below body there kind (dumps x c has) b = b

    statement_fine : (s : ProgramState) (f : RunningBody) (below : List Frame) (body : TypedBody) → owned_body program f.owner ≡ Some body → IsKeptAt h program s.objects (InBody f ∷ below) → IsSound h program (with_frames s (InBody f ∷ below))
        → AreKnown h s.objects.classes → (o : Option TypedStatement) → slice_get body.statements f.next ≡ o → IsFine h program (next_in_body h program s f below body o)
    statement_fine s f below body there kept b known None is = closed_fine keeps s f.owner body.close_line below (kept_left h program s.objects f below kept) known
    statement_fine s f below body there kept b known (Some statement) is =
        let g = before_kind f statement.kind in
        let a = (body_typed h program typed f.owner body there).1.statements f.next statement is in
        let found : owned_body program g.owner ≡ Some body = ap (owned_body program) (sym ((before_rest f statement.kind).owner)) ∙ there in
        unless_fine (statement_refusal h (sight s g) (wanted_result g) statement.kind) statement.line (effect h program (with_frames s (InBody g ∷ below)) g below f.next statement)
        (λ none. kind_fine typed s f below body there b known f.next statement.next statement.kind a.typed
        (kind_sound h keeps fine program typed s.objects s.globals g below body found (wanted_result g) f.next statement.next a.next (before_sound s f below body there statement.kind a.typed b) statement.kind a.typed a.within none))

    body_fine : (s : ProgramState) (f : RunningBody) (below : List Frame) → IsKeptAt h program s.objects (InBody f ∷ below) → IsSound h program (with_frames s (InBody f ∷ below)) → AreKnown h s.objects.classes
        → (o : Option TypedBody) → owned_body program f.owner ≡ o → IsFine h program (body_step h program s f below o)
    body_fine s f below kept b known None there = tt
    body_fine s f below kept b known (Some body) there = statement_fine s f below body there kept b known (slice_get body.statements f.next) refl

    frames_fine : (s : ProgramState) (frames : List Frame) → IsKeptAt h program s.objects frames → IsSound h program (with_frames s frames) → AreKnown h s.objects.classes → IsFine h program (frame_step h program s frames)
    frames_fine s [] kept b known = tt
    frames_fine s (InBody f ∷ below) kept b known = body_fine s f below kept b known (owned_body program f.owner) refl
    frames_fine s (InPlan f ∷ below) kept b known = plan_fine keeps s f below kept known

    step_fine : (s : ProgramState) → IsKept h program s → IsSound h program s → AreKnown h s.objects.classes → IsFine h program (step h program s)
    step_fine s kept b known = frames_fine s s.frames kept b known

-- runs

fine_goes : (h : Classes) (program : TypedProgram) (next : Next) → IsFine h program next → IfGoes (λ (s : ProgramState). AreKnown h s.objects.classes) next
fine_goes h program (Goes s outs) fine = fine.0
fine_goes h program (Refuses rule line) fine = tt
fine_goes h program Ends fine = tt
fine_goes h program Wrong fine = tt

within_told : (h : Classes) (program : TypedProgram) (o : Option LimitNo) (s : ProgramState) (outs : List Out) → AreTold h program outs → AreTold h program (outs_in (within o s outs))
within_told h program None s outs told = told
within_told h program (Some limit) s outs told = none_told h program

fine_told : (h : Classes) (program : TypedProgram) (next : Next) (o : Option LimitNo) → IsFine h program next → AreTold h program (outs_in (move_by next o))
fine_told h program (Goes s outs) o fine = within_told h program o s outs fine.1
fine_told h program (Refuses rule line) o fine = none_told h program
fine_told h program Ends o fine = none_told h program
fine_told h program Wrong o fine = none_told h program

none_known : (h : Classes) → AreKnown h []
none_known h k c there = absurd (let f : None ≡ Some c = there in cc)

module _ (h : Classes) (keeps : IsHierarchy h) (fine : HasNoFault h) (program : TypedProgram) (typed : IsTypedProgram h program) (sizes : ClassId → ℕ) (main : is_body program.main ≡ true) where
  step_at : (n : ℕ) → AreKnown h (state_at h sizes program n).objects.classes → IsFine h program (step h program (state_at h sizes program n))
  step_at n known = step_fine h program keeps fine typed (state_at h sizes program n) (state_kept h sizes program n) (state_sound h keeps fine program typed sizes main n) known

  known_at : (n : ℕ) → AreKnown h (state_at h sizes program n).objects.classes
  known_at zero = none_known h
  known_at (suc n) =
      let s = state_at h sizes program n in
      behind_move (λ (x : ProgramState). AreKnown h x.objects.classes) (step h program s) (limit_at sizes program s) s (known_at n) (fine_goes h program (step h program s) (step_at n (known_at n)))

  -- what a step of the run tells names parts and bodies that are there
  pub steps_told : (n : ℕ) → AreTold h program (outs_in (move h sizes program (state_at h sizes program n)))
  steps_told n = let s = state_at h sizes program n in fine_told h program (step h program s) (limit_at sizes program s) (step_at n (known_at n))
