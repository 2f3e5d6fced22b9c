-- What a step tells as a dump: the leaves of an open and complete object, as they are in the state behind the step, and nothing else.
use Rattle.std.proofs.Common.{◌≡◌, ℕ, ◌+◌, false, Option, Some, None, List, [], ◌∷◌, inl, inr, ⊎_elim, map, refl, ap, subst, sym, ◌∙◌}
use Rattle.std.specs.Prelude.{slice_get, Contains, option_map}
use Rattle.cxx_hierarchy.specs.declared.records.ClassId.{ClassId}
use Rattle.cxx_hierarchy.specs.declared.stop.LimitNo.{LimitNo}
use Rattle.cxx_hierarchy.specs.Classes.{Classes}
use Rattle.cxx_subobject.specs.Locations.{ObjectPart}
use Rattle.cxx_overrider.specs.declared.FunctionId.{FunctionId}
use Rattle.cxx_program.specs.declared.operand.Conversion.{Conversion}
use Rattle.cxx_program.specs.declared.operand.TypedOperand.{TypedOperand}
use Rattle.cxx_program.specs.declared.operand.Variable.{Variable}
use Rattle.cxx_program.specs.declared.operand.Variable.TheVariants.{Local}
use Rattle.cxx_program.specs.declared.program.Owner.{Owner}
use Rattle.cxx_program.specs.declared.program.Owner.TheVariants.{Main, Function, Constructor, Destructor}
use Rattle.cxx_program.specs.declared.program.TypedBody.{TypedBody}
use Rattle.cxx_program.specs.declared.program.TypedProgram.{TypedProgram}
use Rattle.cxx_program.specs.declared.statement.Converted.{Converted}
use Rattle.cxx_program.specs.declared.statement.TypedCall.{TypedCall}
use Rattle.cxx_program.specs.declared.statement.TypedKind.{TypedKind}
use Rattle.cxx_program.specs.declared.statement.TypedKind.TheVariants.{Declare, Assign, Write, Copy, Call, Delete, If, While, Return, Print, PrintType, PrintView, Dump}
use Rattle.cxx_program.specs.declared.statement.TypedPlace.{TypedPlace}
use Rattle.cxx_program.specs.declared.statement.TypedRight.{TypedRight}
use Rattle.cxx_program.specs.declared.statement.TypedRight.TheVariants.{Operand, Arithmetic, SamePointer, Not, Read, Address, Call as CallRight, New, Cast, TypeEqual}
use Rattle.cxx_program.specs.declared.statement.TypedStatement.{TypedStatement}
use Rattle.foundation.proofs.Members.{Has, has_from_contains}
use Rattle.path_rules.specs.declared.Undefined.{Undefined}
use Rattle.path_rules.specs.declared.Undefined.TheVariants.{Dangling, NotComplete}
use Rattle.path_plan.specs.Phases.{PartEvent, Begin, Ready, Init, Body, Done, Ending, Bases, End, Complete}
use Rattle.path_plan.specs.Whole.{whole_part}
use Rattle.path_model.specs.declared.outs.DumpLeaf.{DumpLeaf}
use Rattle.path_model.specs.declared.outs.Out.{Out}
use Rattle.path_model.specs.declared.outs.Out.TheVariants.{Number as NumberOut, Pointer as PointerOut, TypeName as TypeNameOut, Dump as DumpOut, Call as CallOut, Built as BuiltOut, Ending as EndingOut}
use Rattle.path_model.specs.Values.{Value, Unset, Number, Null, Pointer, Objects, Sight, value_of_operand, argument_value}
use Rattle.path_model.specs.Places.{leaves_of}
use Rattle.path_model.specs.Uses.{Reads, Dumps, Wanted, receiver_value}
use Rattle.path_model.specs.Rules.{names, is_incomplete, statement_refusal, closing_refusal, uses_of}
use Rattle.path_model.specs.Outs.{dump_leaf}
use Rattle.path_model.specs.States.{Target, ProgramState, RunningBody, Planned, Frame, InBody, InPlan, owned_body, sight, wanted_result, with_frames, with_objects}
use Rattle.path_model.specs.Effects.{Next, Goes, Refuses, Ends, Wrong, runs, body_entered, function_entered, called_at, called, taker, taken, local_declared, written, copied_at, object_ended, deleted, going_on_at, branched, block_at, result_given, left_by, value_out, part_out, view_out, class_out, type_out, view_part, typeid_class, object_out, dump_out, telling, kind_effect, effect}
use Rattle.path_model.specs.Steps.{body_owner, class_of_part, body_opened, plan_left, resumed, objects_after, event_outs, event_step, unless, constructor_closed, body_closed, before_kind, step_of_statement, next_in_body, body_step, frame_step, step}
use Rattle.path_model.specs.Runs.{Moves, limit_at, within, move_by, move}
use Rattle.path_model.proofs.RuleLaws.{complete_law}
use Rattle.path_model.proofs.TypedUses.{unbroken}
use Rattle.agree_runs.specs.Dumps.{TellsDump}

-- each dump among the outs is one of the state
abbrev AreDumped : Classes → Objects → List Out → Type 0
AreDumped h s outs = (number : ℕ) (c : ClassId) (leaves : List DumpLeaf) → Has outs (DumpOut number c leaves) → TellsDump h s outs number c leaves

abbrev TellsDumps : Classes → Next → Type 0
TellsDumps h (Goes s outs) = AreDumped h s.objects outs
TellsDumps h (Refuses rule line) = Unit {0}
TellsDumps h Ends = Unit {0}
TellsDumps h Wrong = Unit {0}

-- outs that are no dumps

nothing_dumped : (h : Classes) (s : Objects) → AreDumped h s []
nothing_dumped h s number c leaves has = absurd has

abbrev IsNoDump : Out → Type 0
IsNoDump (NumberOut z) = Unit {0}
IsNoDump (PointerOut location) = Unit {0}
IsNoDump (TypeNameOut c) = Unit {0}
IsNoDump (DumpOut number c leaves) = ⊥
IsNoDump (CallOut f location) = Unit {0}
IsNoDump (BuiltOut c location) = Unit {0}
IsNoDump (EndingOut c location) = Unit {0}

other_told : (h : Classes) (s : Objects) (out : Out) → IsNoDump out → AreDumped h s (out ∷ [])
other_told h s out other number c leaves has = ⊎_elim (λ same. absurd (subst (λ (x : Out). IsNoDump x) same other)) (λ more. absurd more) has

abbrev IfNoDump : Option Out → Type 0
IfNoDump None = Unit {0}
IfNoDump (Some out) = IsNoDump out

telling_other : (h : Classes) (s : ProgramState) (o : Option Out) → IfNoDump o → TellsDumps h (telling s o)
telling_other h s None other = tt
telling_other h s (Some out) other = other_told h s.objects out other

-- what is printed

value_printed : (s : Objects) (v : Value) → IfNoDump (value_out s v)
value_printed s Unset = tt
value_printed s (Number z) = tt
value_printed s Null = tt
value_printed s (Pointer p) = tt

part_printed : (s : Objects) (o : Option ObjectPart) → IfNoDump (part_out s o)
part_printed s None = tt
part_printed s (Some p) = tt

view_printed : (h : Classes) (s : Objects) (v : Value) → IfNoDump (view_out h s v)
view_printed h s Unset = tt
view_printed h s (Number z) = tt
view_printed h s Null = tt
view_printed h s (Pointer p) = part_printed s (view_part h s p)

class_printed : (o : Option ClassId) → IfNoDump (class_out o)
class_printed None = tt
class_printed (Some c) = tt

type_printed : (h : Classes) (s : Objects) (v : Value) → IfNoDump (type_out h s v)
type_printed h s Unset = tt
type_printed h s (Number z) = tt
type_printed h s Null = tt
type_printed h s (Pointer p) = class_printed (typeid_class h s p)

-- a dump

module _ (h : Classes) (s : ProgramState) where
  object_told : (k : ℕ) (o : Option ClassId) → slice_get s.objects.classes k ≡ o → s.objects.is_closed k ≡ false → ((c : ClassId) → slice_get s.objects.classes k ≡ Some c → s.objects.phases.phase (whole_part k c) ≡ Complete) → TellsDumps h (telling s (object_out h s.objects k o))
  object_told k None class open_there complete = tt
  object_told k (Some c) class open_there complete = λ number d leaves has. ⊎_elim
      (λ same.
      let numbers : k + 1 ≡ number = cc in
      let classes : c ≡ d = cc in
      let lists : map (dump_leaf s.objects) (leaves_of h c (whole_part k c)) ≡ leaves = cc in
      record {
        object = k;
        number_is = sym numbers;
        class = class ∙ ap (λ (x : ClassId). Some x) classes;
        leaves_are = sym lists ∙ ap (λ (x : ClassId). map (dump_leaf s.objects) (leaves_of h x (whole_part k x))) classes;
        open_there = open_there;
        complete = complete d (class ∙ ap (λ (x : ClassId). Some x) classes);
        alone = ap (λ (x : Out). x ∷ []) same;
      })
      (λ more. absurd more)
      has

  dump_told : (v : Value) → names (λ p. s.objects.is_closed p.object) v ≡ false → names (is_incomplete s.objects) v ≡ false → TellsDumps h (telling s (dump_out h s.objects v))
  dump_told Unset open_there full = tt
  dump_told (Number z) open_there full = tt
  dump_told Null open_there full = tt
  dump_told (Pointer p) open_there full = object_told p.object (slice_get s.objects.classes p.object) refl open_there (λ c class. (complete_law s.objects p c class).0 full)

  -- that no rule refuses
  dump_clear : (see : Sight) (w : Wanted) (x : TypedOperand) (c : ClassId) → see.objects ≡ s.objects → statement_refusal h see w (Dump x c) ≡ None → TellsDumps h (telling s (dump_out h s.objects (value_of_operand see x)))
  dump_clear see w x c same none =
      let fine = unbroken h see.objects (uses_of h see w (Dump x c)) none in
      dump_told (value_of_operand see x)
      (subst (λ (o : Objects). names (λ p. o.is_closed p.object) (value_of_operand see x) ≡ false) same (fine (Reads (value_of_operand see x)) (inl refl) Dangling))
      (subst (λ (o : Objects). names (is_incomplete o) (value_of_operand see x) ≡ false) same (fine (Dumps (value_of_operand see x)) (inr (inr (inl refl))) NotComplete))

-- statements

module _ (h : Classes) (program : TypedProgram) where
  entered_told : (s : ProgramState) (values : List Value) (call : TypedCall) (target : Option Target) (run : ObjectPart × FunctionId) (o : Option TypedBody) → TellsDumps h (body_entered h s values call target run o)
  entered_told s values call target run None = tt
  entered_told s values call target run (Some body) = other_told h s.objects _ tt

  function_told : (s : ProgramState) (values : List Value) (call : TypedCall) (target : Option Target) (o : Option (ObjectPart × FunctionId)) → TellsDumps h (function_entered h program s values call target o)
  function_told s values call target None = tt
  function_told s values call target (Some run) = entered_told s values call target run (owned_body program (Function run.1))

  called_told : (s : ProgramState) (values : List Value) (call : TypedCall) (target : Option Target) (v : Value) → TellsDumps h (called_at h program s values call target v)
  called_told s values call target Unset = tt
  called_told s values call target (Number z) = tt
  called_told s values call target Null = tt
  called_told s values call target (Pointer p) = function_told s values call target (runs h s.objects call p)

  call_told : (see : Sight) (s : ProgramState) (call : TypedCall) (target : Option Target) → TellsDumps h (called h program see s call target)
  call_told see s call target = called_told s (map (argument_value see) call.arguments) call target (receiver_value see call)

  taken_told : (see : Sight) (s : ProgramState) (variable : Variable) (right : TypedRight) (c : Conversion) → TellsDumps h (taken h program see s variable right c)
  taken_told see s variable (Operand x) c = nothing_dumped h _
  taken_told see s variable (Arithmetic op t x y) c = nothing_dumped h _
  taken_told see s variable (SamePointer differ a b) c = nothing_dumped h _
  taken_told see s variable (Not x) c = nothing_dumped h _
  taken_told see s variable (Read place) c = nothing_dumped h _
  taken_told see s variable (Address place d) c = nothing_dumped h _
  taken_told see s variable (CallRight call) c = call_told see s call (taker variable c)
  taken_told see s variable (New d) c = nothing_dumped h _
  taken_told see s variable (Cast cast x) c = nothing_dumped h _
  taken_told see s variable (TypeEqual x d) c = nothing_dumped h _

  declared_told : (see : Sight) (s : ProgramState) (n : ℕ) (o : Option Converted) → TellsDumps h (local_declared h program see s n o)
  declared_told see s n None = nothing_dumped h s.objects
  declared_told see s n (Some x) = taken_told see s (Local n) x.right x.conversion

  written_told : (s : ProgramState) (place : TypedPlace) (new v : Value) → TellsDumps h (written s place new v)
  written_told s place new Unset = tt
  written_told s place new (Number z) = tt
  written_told s place new Null = tt
  written_told s place new (Pointer p) = nothing_dumped h _

  copied_told : (s : ProgramState) (c : ClassId) (to from : Value) → TellsDumps h (copied_at h s c to from)
  copied_told s c Unset from = tt
  copied_told s c (Number z) from = tt
  copied_told s c Null from = tt
  copied_told s c (Pointer to) Unset = tt
  copied_told s c (Pointer to) (Number z) = tt
  copied_told s c (Pointer to) Null = tt
  copied_told s c (Pointer to) (Pointer from) = nothing_dumped h _

  ended_told : (s : ProgramState) (k : ℕ) (o : Option ClassId) → TellsDumps h (object_ended h program s k o)
  ended_told s k None = tt
  ended_told s k (Some c) = nothing_dumped h s.objects

  deleted_told : (s : ProgramState) (v : Value) → TellsDumps h (deleted h program s v)
  deleted_told s Unset = tt
  deleted_told s (Number z) = tt
  deleted_told s Null = nothing_dumped h s.objects
  deleted_told s (Pointer p) = ended_told s p.object (slice_get s.objects.classes p.object)

  branched_told : (s : ProgramState) (v : Value) (yes_at no_at : ℕ) → TellsDumps h (branched s v yes_at no_at)
  branched_told s Unset yes_at no_at = tt
  branched_told s (Number z) yes_at no_at = nothing_dumped h s.objects
  branched_told s Null yes_at no_at = tt
  branched_told s (Pointer p) yes_at no_at = tt

  left_told : (owner : Owner) (s : ProgramState) → TellsDumps h (left_by owner s)
  left_told Main s = tt
  left_told (Function g) s = nothing_dumped h s.objects
  left_told (Constructor c) s = tt
  left_told (Destructor c) s = tt

  kind_told : (see : Sight) (w : Wanted) (on : ProgramState) (f : RunningBody) (below : List Frame) (n next : ℕ) (kind : TypedKind) → see.objects ≡ on.objects → statement_refusal h see w kind ≡ None → TellsDumps h (kind_effect h program see on f below n next kind)
  kind_told see w on f below n next (Declare m x) same none = declared_told see on m x
  kind_told see w on f below n next (Assign variable x) same none = taken_told see on variable x.right x.conversion
  kind_told see w on f below n next (Write place x) same none = written_told on place (argument_value see x) (value_of_operand see place.pointer)
  kind_told see w on f below n next (Copy to from c) same none = copied_told on c (value_of_operand see to) (value_of_operand see from)
  kind_told see w on f below n next (Call call) same none = call_told see on call None
  kind_told see w on f below n next (Delete x c) same none = deleted_told on (value_of_operand see x)
  kind_told see w on f below n next (If x other behind) same none = branched_told on (value_of_operand see x) (block_at (n + 1) other next) (block_at other behind next)
  kind_told see w on f below n next (While x behind) same none = branched_told on (value_of_operand see x) (block_at (n + 1) behind n) next
  kind_told see w on f below n next (Return x) same none = left_told f.owner (result_given (with_frames on below) f.found f.target (option_map (argument_value see) x))
  kind_told see w on f below n next (Print x) same none = telling_other h on _ (value_printed on.objects (value_of_operand see x))
  kind_told see w on f below n next (PrintType x c) same none = telling_other h on _ (type_printed h on.objects (value_of_operand see x))
  kind_told see w on f below n next (PrintView x c) same none = telling_other h on _ (view_printed h on.objects (value_of_operand see x))
  kind_told see w on f below n next (Dump x c) same none = dump_clear h on see w x c same none

  unless_told : (o : Option Undefined) (line : ℕ) (next : Next) → (o ≡ None → TellsDumps h next) → TellsDumps h (unless o line next)
  unless_told None line next told = told refl
  unless_told (Some rule) line next told = tt

  statement_told : (s : ProgramState) (f : RunningBody) (below : List Frame) (n : ℕ) (statement : TypedStatement) → TellsDumps h (step_of_statement h program s f below n statement)
  statement_told s f below n statement = unless_told (statement_refusal h (sight s f) (wanted_result f) statement.kind) statement.line (effect h program (with_frames s (InBody f ∷ below)) f below n statement)
      (λ none. kind_told (sight s f) (wanted_result f) (going_on_at (with_frames s (InBody f ∷ below)) statement.next) f below n statement.next statement.kind refl none)

  -- events of plans

  body_told : (s : ProgramState) (p : ObjectPart) (outs : List Out) (frames : List Frame) (o : Option TypedBody) → AreDumped h s.objects outs → TellsDumps h (body_opened s p outs frames o)
  body_told s p outs frames None dumped = tt
  body_told s p outs frames (Some body) dumped = dumped

  -- outs that are no dumps at all
  abbrev AreNoDumps : List Out → Type 0
  AreNoDumps outs = (s : Objects) → AreDumped h s outs

  resumed_told : (s : ProgramState) (f : Planned) (below : List Frame) (outs : List Out) (es : List PartEvent) → AreNoDumps outs → TellsDumps h (resumed program s f below outs es)
  resumed_told s f below outs [] dumped = dumped _
  resumed_told s f below outs (Begin p ∷ es) dumped = dumped s.objects
  resumed_told s f below outs (Ready p ∷ es) dumped = dumped s.objects
  resumed_told s f below outs (Init p m ∷ es) dumped = dumped s.objects
  resumed_told s f below outs (Body p ∷ es) dumped = body_told s p outs (plan_left f es ∷ below) (owned_body program (body_owner f.is_building (class_of_part p))) (dumped s.objects)
  resumed_told s f below outs (Done p ∷ es) dumped = dumped s.objects
  resumed_told s f below outs (Ending p ∷ es) dumped = dumped s.objects
  resumed_told s f below outs (Bases p ∷ es) dumped = dumped s.objects
  resumed_told s f below outs (End p ∷ es) dumped = dumped s.objects

  outs_plain : (s : Objects) (e : PartEvent) → AreNoDumps (event_outs s e)
  outs_plain s (Begin p) t = nothing_dumped h t
  outs_plain s (Ready p) t = nothing_dumped h t
  outs_plain s (Init p m) t = nothing_dumped h t
  outs_plain s (Body p) t = nothing_dumped h t
  outs_plain s (Done p) t = other_told h t _ tt
  outs_plain s (Ending p) t = other_told h t _ tt
  outs_plain s (Bases p) t = nothing_dumped h t
  outs_plain s (End p) t = nothing_dumped h t

  event_told : (s : ProgramState) (f : Planned) (below : List Frame) (es : List PartEvent) → TellsDumps h (event_step program s f below es)
  event_told s f below [] = tt
  event_told s f below (Begin p ∷ es) = resumed_told (with_objects s (objects_after program s.objects (Begin p))) f below (event_outs s.objects (Begin p)) es (outs_plain s.objects (Begin p))
  event_told s f below (Ready p ∷ es) = resumed_told (with_objects s (objects_after program s.objects (Ready p))) f below (event_outs s.objects (Ready p)) es (outs_plain s.objects (Ready p))
  event_told s f below (Init p m ∷ es) = resumed_told (with_objects s (objects_after program s.objects (Init p m))) f below (event_outs s.objects (Init p m)) es (outs_plain s.objects (Init p m))
  event_told s f below (Body p ∷ es) = tt
  event_told s f below (Done p ∷ es) = resumed_told (with_objects s (objects_after program s.objects (Done p))) f below (event_outs s.objects (Done p)) es (outs_plain s.objects (Done p))
  event_told s f below (Ending p ∷ es) = resumed_told (with_objects s (objects_after program s.objects (Ending p))) f below (event_outs s.objects (Ending p)) es (outs_plain s.objects (Ending p))
  event_told s f below (Bases p ∷ es) = resumed_told (with_objects s (objects_after program s.objects (Bases p))) f below (event_outs s.objects (Bases p)) es (outs_plain s.objects (Bases p))
  event_told s f below (End p ∷ es) = resumed_told (with_objects s (objects_after program s.objects (End p))) f below (event_outs s.objects (End p)) es (outs_plain s.objects (End p))

  -- steps

  constructor_told : (s : ProgramState) (below : List Frame) → TellsDumps h (constructor_closed program s below)
  constructor_told s [] = tt
  constructor_told s (InBody f ∷ below) = tt
  constructor_told s (InPlan f ∷ below) = event_told s f below f.events

  closed_told : (s : ProgramState) (owner : Owner) (line : ℕ) (below : List Frame) → TellsDumps h (body_closed h program s owner line below)
  closed_told s Main line below = tt
  closed_told s (Function g) line below = unless_told (closing_refusal h s.objects g) line (Goes (with_frames s below) []) (λ none. nothing_dumped h s.objects)
  closed_told s (Constructor c) line below = constructor_told s below
  closed_told s (Destructor c) line below = nothing_dumped h s.objects

  in_body_told : (s : ProgramState) (f : RunningBody) (below : List Frame) (body : TypedBody) (o : Option TypedStatement) → TellsDumps h (next_in_body h program s f below body o)
  in_body_told s f below body None = closed_told s f.owner body.close_line below
  in_body_told s f below body (Some statement) = statement_told s (before_kind f statement.kind) below f.next statement

  owner_told : (s : ProgramState) (f : RunningBody) (below : List Frame) (o : Option TypedBody) → TellsDumps h (body_step h program s f below o)
  owner_told s f below None = tt
  owner_told s f below (Some body) = in_body_told s f below body (slice_get body.statements f.next)

  frames_told : (s : ProgramState) (frames : List Frame) → TellsDumps h (frame_step h program s frames)
  frames_told s [] = tt
  frames_told s (InBody f ∷ below) = owner_told s f below (owned_body program f.owner)
  frames_told s (InPlan f ∷ below) = event_told s f below f.events

  within_told : (s : ProgramState) (outs : List Out) (o : Option LimitNo) → AreDumped h s.objects outs → (new : ProgramState) (told : List Out) → within o s outs ≡ Moves new told → AreDumped h new.objects told
  within_told s outs None dumped new told e =
      let states : s ≡ new = cc in
      let lists : outs ≡ told = cc in
      subst (λ (xs : List Out). AreDumped h new.objects xs) lists (subst (λ (t : ProgramState). AreDumped h t.objects outs) states dumped)
  within_told s outs (Some limit) dumped new told e = cc

  next_told : (next : Next) (o : Option LimitNo) → TellsDumps h next → (new : ProgramState) (told : List Out) → move_by next o ≡ Moves new told → AreDumped h new.objects told
  next_told (Goes s outs) o dumped new told e = within_told s outs o dumped new told e
  next_told (Refuses rule line) o dumped new told e = cc
  next_told Ends o dumped new told e = cc
  next_told Wrong o dumped new told e = cc

-- a dump that a move tells is of the state behind it
pub dumps_are_of_the_state : (h : Classes) (sizes : ClassId → ℕ) (program : TypedProgram) (s new : ProgramState) (outs : List Out) (number : ℕ) (c : ClassId) (leaves : List DumpLeaf) → move h sizes program s ≡ Moves new outs → Contains outs (DumpOut number c leaves) → TellsDump h new.objects outs number c leaves
dumps_are_of_the_state h sizes program s new outs number c leaves moves there =
    next_told h program (step h program s) (limit_at sizes program s) (frames_told h program s s.frames) new outs moves number c leaves (has_from_contains outs (DumpOut number c leaves) there)
