-- Behind a step that tells a dump a body is on top.
use Rattle.std.proofs.Common.{◌≡◌, ℕ, ◌+◌, Option, Some, None, List, [], ◌∷◌, ⊎_elim, map, refl, subst}
use Rattle.std.specs.Prelude.{slice_get, option_map}
use Rattle.cxx_hierarchy.specs.declared.records.ClassId.{ClassId}
use Rattle.cxx_hierarchy.specs.declared.stop.LimitNo.{LimitNo}
use Rattle.cxx_hierarchy.specs.Classes.{Classes}
use Rattle.cxx_subobject.specs.Locations.{ObjectPart}
use Rattle.cxx_overrider.specs.declared.FunctionId.{FunctionId}
use Rattle.cxx_program.specs.declared.operand.Conversion.{Conversion}
use Rattle.cxx_program.specs.declared.operand.Variable.{Variable}
use Rattle.cxx_program.specs.declared.operand.Variable.TheVariants.{Local}
use Rattle.cxx_program.specs.declared.program.Owner.{Owner}
use Rattle.cxx_program.specs.declared.program.Owner.TheVariants.{Main, Function, Constructor, Destructor}
use Rattle.cxx_program.specs.declared.program.TypedBody.{TypedBody}
use Rattle.cxx_program.specs.declared.program.TypedProgram.{TypedProgram}
use Rattle.cxx_program.specs.declared.statement.Converted.{Converted}
use Rattle.cxx_program.specs.declared.statement.TypedCall.{TypedCall}
use Rattle.cxx_program.specs.declared.statement.TypedKind.{TypedKind}
use Rattle.cxx_program.specs.declared.statement.TypedKind.TheVariants.{Declare, Assign, Write, Copy, Call, Delete, If, While, Return, Print, PrintType, PrintView, Dump}
use Rattle.cxx_program.specs.declared.statement.TypedPlace.{TypedPlace}
use Rattle.cxx_program.specs.declared.statement.TypedRight.{TypedRight}
use Rattle.cxx_program.specs.declared.statement.TypedRight.TheVariants.{Operand, Arithmetic, SamePointer, Not, Read, Address, Call as CallRight, New, Cast, TypeEqual}
use Rattle.cxx_program.specs.declared.statement.TypedStatement.{TypedStatement}
use Rattle.foundation.proofs.Members.{Has}
use Rattle.path_rules.specs.declared.Undefined.{Undefined}
use Rattle.path_plan.specs.Phases.{PartEvent, Begin, Ready, Init, Body, Done, Ending, Bases, End}
use Rattle.path_model.specs.declared.outs.DumpLeaf.{DumpLeaf}
use Rattle.path_model.specs.declared.outs.Out.{Out}
use Rattle.path_model.specs.declared.outs.Out.TheVariants.{Number as NumberOut, Pointer as PointerOut, TypeName as TypeNameOut, Dump as DumpOut, Call as CallOut, Built as BuiltOut, Ending as EndingOut}
use Rattle.path_model.specs.Values.{Value, Unset, Number, Null, Pointer, Objects, Sight, value_of_operand, argument_value}
use Rattle.path_model.specs.Uses.{receiver_value}
use Rattle.path_model.specs.Rules.{statement_refusal, closing_refusal}
use Rattle.path_model.specs.States.{at_statement, Target, ProgramState, RunningBody, Planned, Frame, InBody, InPlan, owned_body, sight, wanted_result, with_frames, with_objects}
use Rattle.path_model.specs.Effects.{Next, Goes, Refuses, Ends, Wrong, runs, body_entered, function_entered, called_at, called, taker, taken, local_declared, written, copied_at, object_ended, deleted, going_on_at, branched, block_at, result_given, left_by, value_out, view_out, type_out, dump_out, telling, kind_effect, effect}
use Rattle.path_model.specs.Steps.{body_owner, class_of_part, body_opened, plan_left, resumed, objects_after, event_outs, event_step, unless, constructor_closed, body_closed, before_kind, step_of_statement, next_in_body, body_step, frame_step, step}
use Rattle.path_model.specs.Runs.{Moves, limit_at, within, move_by, move}

-- a body is on top of the frames
pub record HasBody (frames : List Frame) : Type 0 where
  pub body : RunningBody
  pub below : List Frame
  pub is : frames ≡ InBody body ∷ below

-- where a dump is among the outs
abbrev Tops : List Frame → List Out → Type 0
Tops frames outs = (number : ℕ) (c : ClassId) (leaves : List DumpLeaf) → Has outs (DumpOut number c leaves) → HasBody frames

abbrev IsTopped : Next → Type 0
IsTopped (Goes s outs) = Tops s.frames outs
IsTopped (Refuses rule line) = Unit {0}
IsTopped Ends = Unit {0}
IsTopped Wrong = Unit {0}

-- outs that are no dumps

nothing_dumped : (frames : List Frame) → Tops frames []
nothing_dumped frames number c leaves has = absurd has

abbrev IsNoDump : Out → Type 0
IsNoDump (NumberOut z) = Unit {0}
IsNoDump (PointerOut location) = Unit {0}
IsNoDump (TypeNameOut c) = Unit {0}
IsNoDump (DumpOut number c leaves) = ⊥
IsNoDump (CallOut f location) = Unit {0}
IsNoDump (BuiltOut c location) = Unit {0}
IsNoDump (EndingOut c location) = Unit {0}

other_told : (frames : List Frame) (out : Out) → IsNoDump out → Tops frames (out ∷ [])
other_told frames out other number c leaves has = ⊎_elim (λ same. absurd (subst (λ (x : Out). IsNoDump x) same other)) (λ more. absurd more) has

-- a body is on top, whatever is told
top_told : (s : ProgramState) (o : Option Out) → HasBody s.frames → IsTopped (telling s o)
top_told s None top = tt
top_told s (Some out) top = λ number c leaves has. top

-- statements

module _ (h : Classes) (program : TypedProgram) where
  entered_told : (s : ProgramState) (values : List Value) (call : TypedCall) (target : Option Target) (run : ObjectPart × FunctionId) (o : Option TypedBody) → IsTopped (body_entered h s values call target run o)
  entered_told s values call target run None = tt
  entered_told s values call target run (Some body) = other_told _ _ tt

  function_told : (s : ProgramState) (values : List Value) (call : TypedCall) (target : Option Target) (o : Option (ObjectPart × FunctionId)) → IsTopped (function_entered h program s values call target o)
  function_told s values call target None = tt
  function_told s values call target (Some run) = entered_told s values call target run (owned_body program (Function run.1))

  called_told : (s : ProgramState) (values : List Value) (call : TypedCall) (target : Option Target) (v : Value) → IsTopped (called_at h program s values call target v)
  called_told s values call target Unset = tt
  called_told s values call target (Number z) = tt
  called_told s values call target Null = tt
  called_told s values call target (Pointer p) = function_told s values call target (runs h s.objects call p)

  call_told : (see : Sight) (s : ProgramState) (call : TypedCall) (target : Option Target) → IsTopped (called h program see s call target)
  call_told see s call target = called_told s (map (argument_value see) call.arguments) call target (receiver_value see call)

  taken_told : (see : Sight) (s : ProgramState) (variable : Variable) (right : TypedRight) (c : Conversion) → IsTopped (taken h program see s variable right c)
  taken_told see s variable (Operand x) c = nothing_dumped _
  taken_told see s variable (Arithmetic op t x y) c = nothing_dumped _
  taken_told see s variable (SamePointer differ a b) c = nothing_dumped _
  taken_told see s variable (Not x) c = nothing_dumped _
  taken_told see s variable (Read place) c = nothing_dumped _
  taken_told see s variable (Address place d) c = nothing_dumped _
  taken_told see s variable (CallRight call) c = call_told see s call (taker variable c)
  taken_told see s variable (New d) c = nothing_dumped _
  taken_told see s variable (Cast cast x) c = nothing_dumped _
  taken_told see s variable (TypeEqual x d) c = nothing_dumped _

  declared_told : (see : Sight) (s : ProgramState) (n : ℕ) (o : Option Converted) → IsTopped (local_declared h program see s n o)
  declared_told see s n None = nothing_dumped _
  declared_told see s n (Some x) = taken_told see s (Local n) x.right x.conversion

  written_told : (s : ProgramState) (place : TypedPlace) (new v : Value) → IsTopped (written s place new v)
  written_told s place new Unset = tt
  written_told s place new (Number z) = tt
  written_told s place new Null = tt
  written_told s place new (Pointer p) = nothing_dumped _

  copied_told : (s : ProgramState) (c : ClassId) (to from : Value) → IsTopped (copied_at h s c to from)
  copied_told s c Unset from = tt
  copied_told s c (Number z) from = tt
  copied_told s c Null from = tt
  copied_told s c (Pointer to) Unset = tt
  copied_told s c (Pointer to) (Number z) = tt
  copied_told s c (Pointer to) Null = tt
  copied_told s c (Pointer to) (Pointer from) = nothing_dumped _

  ended_told : (s : ProgramState) (k : ℕ) (o : Option ClassId) → IsTopped (object_ended h program s k o)
  ended_told s k None = tt
  ended_told s k (Some c) = nothing_dumped _

  deleted_told : (s : ProgramState) (v : Value) → IsTopped (deleted h program s v)
  deleted_told s Unset = tt
  deleted_told s (Number z) = tt
  deleted_told s Null = nothing_dumped _
  deleted_told s (Pointer p) = ended_told s p.object (slice_get s.objects.classes p.object)

  branched_told : (s : ProgramState) (v : Value) (yes_at no_at : ℕ) → IsTopped (branched s v yes_at no_at)
  branched_told s Unset yes_at no_at = tt
  branched_told s (Number z) yes_at no_at = nothing_dumped _
  branched_told s Null yes_at no_at = tt
  branched_told s (Pointer p) yes_at no_at = tt

  left_told : (owner : Owner) (s : ProgramState) → IsTopped (left_by owner s)
  left_told Main s = tt
  left_told (Function g) s = nothing_dumped _
  left_told (Constructor c) s = tt
  left_told (Destructor c) s = tt

  kind_told : (see : Sight) (on : ProgramState) (f : RunningBody) (below : List Frame) (n next : ℕ) (kind : TypedKind) → HasBody on.frames → IsTopped (kind_effect h program see on f below n next kind)
  kind_told see on f below n next (Declare m x) top = declared_told see on m x
  kind_told see on f below n next (Assign variable x) top = taken_told see on variable x.right x.conversion
  kind_told see on f below n next (Write place x) top = written_told on place (argument_value see x) (value_of_operand see place.pointer)
  kind_told see on f below n next (Copy to from c) top = copied_told on c (value_of_operand see to) (value_of_operand see from)
  kind_told see on f below n next (Call call) top = call_told see on call None
  kind_told see on f below n next (Delete x c) top = deleted_told on (value_of_operand see x)
  kind_told see on f below n next (If x other behind) top = branched_told on (value_of_operand see x) (block_at (n + 1) other next) (block_at other behind next)
  kind_told see on f below n next (While x behind) top = branched_told on (value_of_operand see x) (block_at (n + 1) behind n) next
  kind_told see on f below n next (Return x) top = left_told f.owner (result_given (with_frames on below) f.found f.target (option_map (argument_value see) x))
  kind_told see on f below n next (Print x) top = top_told on (value_out on.objects (value_of_operand see x)) top
  kind_told see on f below n next (PrintType x c) top = top_told on (type_out h on.objects (value_of_operand see x)) top
  kind_told see on f below n next (PrintView x c) top = top_told on (view_out h on.objects (value_of_operand see x)) top
  kind_told see on f below n next (Dump x c) top = top_told on (dump_out h on.objects (value_of_operand see x)) top

  unless_told : (o : Option Undefined) (line : ℕ) (next : Next) → (o ≡ None → IsTopped next) → IsTopped (unless o line next)
  unless_told None line next told = told refl
  unless_told (Some rule) line next told = tt

  statement_told : (s : ProgramState) (f : RunningBody) (below : List Frame) (n : ℕ) (statement : TypedStatement) → IsTopped (step_of_statement h program s f below n statement)
  statement_told s f below n statement = unless_told (statement_refusal h (sight s f) (wanted_result f) statement.kind) statement.line (effect h program (with_frames s (InBody f ∷ below)) f below n statement)
      (λ none. kind_told (sight s f) (going_on_at (with_frames s (InBody f ∷ below)) statement.next) f below n statement.next statement.kind (record { body = at_statement f statement.next; below = below; is = refl }))

  -- events of plans

  -- outs that are no dumps at all
  abbrev AreNoDumps : List Out → Type 0
  AreNoDumps outs = (frames : List Frame) → Tops frames outs

  body_told : (s : ProgramState) (p : ObjectPart) (outs : List Out) (frames : List Frame) (o : Option TypedBody) → AreNoDumps outs → IsTopped (body_opened s p outs frames o)
  body_told s p outs frames None dumped = tt
  body_told s p outs frames (Some body) dumped = dumped _

  resumed_told : (s : ProgramState) (f : Planned) (below : List Frame) (outs : List Out) (es : List PartEvent) → AreNoDumps outs → IsTopped (resumed program s f below outs es)
  resumed_told s f below outs [] dumped = dumped _
  resumed_told s f below outs (Begin p ∷ es) dumped = dumped _
  resumed_told s f below outs (Ready p ∷ es) dumped = dumped _
  resumed_told s f below outs (Init p m ∷ es) dumped = dumped _
  resumed_told s f below outs (Body p ∷ es) dumped = body_told s p outs (plan_left f es ∷ below) (owned_body program (body_owner f.is_building (class_of_part p))) dumped
  resumed_told s f below outs (Done p ∷ es) dumped = dumped _
  resumed_told s f below outs (Ending p ∷ es) dumped = dumped _
  resumed_told s f below outs (Bases p ∷ es) dumped = dumped _
  resumed_told s f below outs (End p ∷ es) dumped = dumped _

  outs_plain : (s : Objects) (e : PartEvent) → AreNoDumps (event_outs s e)
  outs_plain s (Begin p) frames = nothing_dumped _
  outs_plain s (Ready p) frames = nothing_dumped _
  outs_plain s (Init p m) frames = nothing_dumped _
  outs_plain s (Body p) frames = nothing_dumped _
  outs_plain s (Done p) frames = other_told _ _ tt
  outs_plain s (Ending p) frames = other_told _ _ tt
  outs_plain s (Bases p) frames = nothing_dumped _
  outs_plain s (End p) frames = nothing_dumped _

  event_told : (s : ProgramState) (f : Planned) (below : List Frame) (es : List PartEvent) → IsTopped (event_step program s f below es)
  event_told s f below [] = tt
  event_told s f below (Begin p ∷ es) = resumed_told (with_objects s (objects_after program s.objects (Begin p))) f below (event_outs s.objects (Begin p)) es (outs_plain s.objects (Begin p))
  event_told s f below (Ready p ∷ es) = resumed_told (with_objects s (objects_after program s.objects (Ready p))) f below (event_outs s.objects (Ready p)) es (outs_plain s.objects (Ready p))
  event_told s f below (Init p m ∷ es) = resumed_told (with_objects s (objects_after program s.objects (Init p m))) f below (event_outs s.objects (Init p m)) es (outs_plain s.objects (Init p m))
  event_told s f below (Body p ∷ es) = tt
  event_told s f below (Done p ∷ es) = resumed_told (with_objects s (objects_after program s.objects (Done p))) f below (event_outs s.objects (Done p)) es (outs_plain s.objects (Done p))
  event_told s f below (Ending p ∷ es) = resumed_told (with_objects s (objects_after program s.objects (Ending p))) f below (event_outs s.objects (Ending p)) es (outs_plain s.objects (Ending p))
  event_told s f below (Bases p ∷ es) = resumed_told (with_objects s (objects_after program s.objects (Bases p))) f below (event_outs s.objects (Bases p)) es (outs_plain s.objects (Bases p))
  event_told s f below (End p ∷ es) = resumed_told (with_objects s (objects_after program s.objects (End p))) f below (event_outs s.objects (End p)) es (outs_plain s.objects (End p))

  -- steps

  constructor_told : (s : ProgramState) (below : List Frame) → IsTopped (constructor_closed program s below)
  constructor_told s [] = tt
  constructor_told s (InBody f ∷ below) = tt
  constructor_told s (InPlan f ∷ below) = event_told s f below f.events

  closed_told : (s : ProgramState) (owner : Owner) (line : ℕ) (below : List Frame) → IsTopped (body_closed h program s owner line below)
  closed_told s Main line below = tt
  closed_told s (Function g) line below = unless_told (closing_refusal h s.objects g) line (Goes (with_frames s below) []) (λ none. nothing_dumped _)
  closed_told s (Constructor c) line below = constructor_told s below
  closed_told s (Destructor c) line below = nothing_dumped _

  in_body_told : (s : ProgramState) (f : RunningBody) (below : List Frame) (body : TypedBody) (o : Option TypedStatement) → IsTopped (next_in_body h program s f below body o)
  in_body_told s f below body None = closed_told s f.owner body.close_line below
  in_body_told s f below body (Some statement) = statement_told s (before_kind f statement.kind) below f.next statement

  owner_told : (s : ProgramState) (f : RunningBody) (below : List Frame) (o : Option TypedBody) → IsTopped (body_step h program s f below o)
  owner_told s f below None = tt
  owner_told s f below (Some body) = in_body_told s f below body (slice_get body.statements f.next)

  frames_told : (s : ProgramState) (frames : List Frame) → IsTopped (frame_step h program s frames)
  frames_told s [] = tt
  frames_told s (InBody f ∷ below) = owner_told s f below (owned_body program f.owner)
  frames_told s (InPlan f ∷ below) = event_told s f below f.events

  within_told : (s : ProgramState) (outs : List Out) (o : Option LimitNo) → Tops s.frames outs → (new : ProgramState) (told : List Out) → within o s outs ≡ Moves new told → Tops new.frames told
  within_told s outs None dumped new told e =
      let states : s ≡ new = cc in
      let lists : outs ≡ told = cc in
      subst (λ (xs : List Out). Tops new.frames xs) lists (subst (λ (t : ProgramState). Tops t.frames outs) states dumped)
  within_told s outs (Some limit) dumped new told e = cc

  next_told : (next : Next) (o : Option LimitNo) → IsTopped next → (new : ProgramState) (told : List Out) → move_by next o ≡ Moves new told → Tops new.frames told
  next_told (Goes s outs) o dumped new told e = within_told s outs o dumped new told e
  next_told (Refuses rule line) o dumped new told e = cc
  next_told Ends o dumped new told e = cc
  next_told Wrong o dumped new told e = cc

-- behind a move that tells a dump
pub dumps_are_in_bodies : (h : Classes) (sizes : ClassId → ℕ) (program : TypedProgram) (s new : ProgramState) (outs : List Out) (number : ℕ) (c : ClassId) (leaves : List DumpLeaf) → move h sizes program s ≡ Moves new outs → Has outs (DumpOut number c leaves) → HasBody new.frames
dumps_are_in_bodies h sizes program s new outs number c leaves moves has =
    next_told h program (step h program s) (limit_at sizes program s) (frames_told h program s s.frames) new outs moves number c leaves has
