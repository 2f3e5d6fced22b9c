-- Where a plan is on top of a state, the frame on top of the byte state is at its next event, whose block agrees with the step.
use Rattle.std.proofs.Common.{◌≡◌, ◌<◌, true, false, Some, None, List, ◌∷◌, ◌++◌, length, refl, ap, subst, sym, ◌∙◌}
use Rattle.std.specs.Prelude.{slice_get, if◌then◌else◌}
use Rattle.cxx_hierarchy.specs.declared.records.ClassId.{ClassId}
use Rattle.cxx_subobject.specs.Locations.{ObjectPart}
use Rattle.cxx_program.specs.declared.program.TypedProgram.{TypedProgram}
use Rattle.path_plan.specs.Phases.{PartEvent, part_of}
use Rattle.path_plan.specs.declared.form.Form.{Form}
use Rattle.path_plan.specs.Views.{Fits}
use Rattle.path_model.specs.declared.outs.Out.{Out}
use Rattle.path_model.specs.States.{ProgramState, Planned, Frame as PathFrame, InPlan, with_objects, is_body}
use Rattle.path_model.specs.Effects.{Goes}
use Rattle.path_model.specs.Steps.{objects_after, event_outs, resumed, event_step}
use Rattle.path_model.specs.Runs.{open_count}
use Rattle.code_blocks.specs.Blocks.{AtEvent, next_place, event_block}
use Rattle.code_blocks.specs.Items.{Item, Does, event_of}
use Rattle.code_blocks.specs.Lowered.{IsEnd, has_own_block}
use Rattle.code_blocks.specs.declared.items.Kind.{Kind}
use Rattle.code_blocks.specs.declared.items.Kind.TheVariants.{AtBegin, AtReady, AtInit, AtBody, AtDone, AtEnding, AtBases, AtEnd}
use Rattle.code_ops.specs.Routines.{IsCourse}
use Rattle.code_ops.specs.Setups.{PlanCode, body_of_routine}
use Rattle.code_ops.specs.declared.routines.Course.{Course}
use Rattle.byte_code.specs.declared.code.Block.{Block}
use Rattle.byte_machine.specs.Frames.{MachineFrame}
use Rattle.byte_machine.specs.Running.{Running}
use Rattle.agree_relation.specs.Worlds.{World, IsProgramWorld, world_classes}
use Rattle.agree_relation.specs.Words.{heap_of}
use Rattle.agree_relation.specs.Goings.{Going, at_left, opened_goings, AreOf, ArePlanned, events_left}
use Rattle.agree_relation.specs.Frames.{PlaceNumbers, awaits_body, WaitInPlan, Behind, StandOver}
use Rattle.agree_statements.specs.Statements.{BeginsBlock}
use Rattle.agree_events.specs.Turns.{IsTopFrame, IsTurn, IsPlanBlock}
use Rattle.agree_events.proofs.Events.{next_event}
use Rattle.agree_events.proofs.Steps.{low_itself}
use Rattle.agree_events.proofs.Tops.{top_of, top_moves, top_steps}
use Rattle.agree_events.proofs.Owned.{owns_first}
use Rattle.agree_events.proofs.PlanTurns.{turn_of}

pub event_part : (k : Kind) (p : ObjectPart) → part_of (event_of k p) ≡ p
event_part AtBegin p = refl
event_part AtReady p = refl
event_part (AtInit m) p = refl
event_part AtBody p = refl
event_part AtDone p = refl
event_part AtEnding p = refl
event_part AtBases p = refl
event_part AtEnd p = refl

awaits_more : (k : Kind) (left : List Item) → awaits_body left ≡ true → awaits_body (Does k ∷ left) ≡ true
awaits_more AtBegin left e = e
awaits_more AtReady left e = e
awaits_more (AtInit m) left e = e
awaits_more AtBody left e = refl
awaits_more AtDone left e = e
awaits_more AtEnding left e = e
awaits_more AtBases left e = e
awaits_more AtEnd left e = e

own_place : (course : Course) (form : Form) (c : ClassId) (k : Kind) (left : List Item) → (k ≡ AtBody → ⊥) → next_place course form c (Does k ∷ left) ≡ AtEvent course form c (Does k ∷ left)
own_place course form c AtBegin left other = refl
own_place course form c AtReady left other = refl
own_place course form c (AtInit m) left other = refl
own_place course form c AtBody left other = absurd (other refl)
own_place course form c AtDone left other = refl
own_place course form c AtEnding left other = refl
own_place course form c AtBases left other = refl
own_place course form c AtEnd left other = refl

-- the step of an event, which is no body
record IsStep (program : TypedProgram) (s : ProgramState) (p : Planned) (path : List PathFrame) (k : Kind) (q : ObjectPart) (es : List PartEvent) (s' : ProgramState) (told : List Out) : Type 0 where
  other : k ≡ AtBody → ⊥
  next : resumed program (with_objects s (objects_after program s.objects (event_of k q))) p path (event_outs s.objects (event_of k q)) es ≡ Goes s' told

step_is : (program : TypedProgram) (s : ProgramState) (p : Planned) (path : List PathFrame) (k : Kind) (q : ObjectPart) (es : List PartEvent) (s' : ProgramState) (told : List Out) → event_step program s p path (event_of k q ∷ es) ≡ Goes s' told → IsStep program s p path k q es s' told
step_is program s p path AtBegin q es s' told e = record { other = λ same. cc; next = e }
step_is program s p path AtReady q es s' told e = record { other = λ same. cc; next = e }
step_is program s p path (AtInit m) q es s' told e = record { other = λ same. cc; next = e }
step_is program s p path AtBody q es s' told e = absurd (cc)
step_is program s p path AtDone q es s' told e = record { other = λ same. cc; next = e }
step_is program s p path AtEnding q es s' told e = record { other = λ same. cc; next = e }
step_is program s p path AtBases q es s' told e = record { other = λ same. cc; next = e }
step_is program s p path AtEnd q es s' told e = record { other = λ same. cc; next = e }

-- the events of a plan whose first part is f
pub events_next : (w : World) → IsProgramWorld w → (f : Going) (k : Kind) (left : List Item) (own others : List Going) (es : List PartEvent) → f.left ≡ Does k ∷ left → own ≡ f ∷ others → es ≡ events_left w own → es ≡ event_of k f.part ∷ events_left w (opened_goings w f left others)
events_next w world f k left own others es is own_is events =
    let first : es ≡ events_left w (f ∷ others) = events ∙ ap (events_left w) own_is in
    let at_it : es ≡ events_left w (at_left f (Does k ∷ left) ∷ others) = subst (λ (xs : List Item). es ≡ events_left w (at_left f xs ∷ others)) is first in
    at_it ∙ next_event w world.hierarchy f k left others

-- a turn from a state with a plan on top
pub record HasTurn (w : World) (at : PlaceNumbers) (s : ProgramState) (p : Planned) (path : List PathFrame) (r : Running) (begins : BeginsBlock w at s r) (e : PartEvent) (es : List PartEvent) : Type 0 where
  pub f : Going
  pub k : Kind
  pub left : List Item
  pub others : List Going
  pub lower : List Going
  pub turn : IsTurn w at s p path f k left others lower r
  pub event : e ≡ event_of k f.part
  pub events : es ≡ events_left w (opened_goings w f left others)
  pub block : begins.top.block ≡ at (next_place f.course f.form f.class (Does k ∷ left))
  pub course : IsCourse f.course f.form
  pub ends : IsEnd w.setup f.course f.form f.class (Does k ∷ left)

pub has_turn : (w : World) (at : PlaceNumbers) → IsProgramWorld w → (s : ProgramState) (p : Planned) (path : List PathFrame) → s.frames ≡ InPlan p ∷ path → (r : Running) (begins : BeginsBlock w at s r)
    → (e : PartEvent) (es : List PartEvent) → p.events ≡ e ∷ es → Fits (world_classes w) s.objects.phases e → s.objects.is_closed (part_of e).object ≡ false → HasTurn w at s p path r begins e es
has_turn w at world s p path frames_are r begins e es events fits is_open =
    let stands = begins.stands in
    let g = heap_of s.objects.classes r.memory.regions in
    let gs = stands.frames.goings in
    let over : StandOver w at g None (InPlan p ∷ path) gs (begins.top ∷ r.below) = subst (λ (fs : List PathFrame). StandOver w at g None fs gs (begins.top ∷ r.below)) frames_are stands.frames.frames in
    let parts = over.0 in
    let wait = over.1 in
    let runs = wait.1.0 in
    let f = runs.first in
    let tail = runs.more ++ wait.0 in
    let owns = owns_first w f tail parts.own parts.lower e es (sym runs.is ∙ parts.is) (sym events ∙ parts.events_are) in
    let all_are : gs ≡ f ∷ (owns.others ++ parts.lower) = runs.is ∙ ap (λ (l : List Going). f ∷ l) owns.tail_is in
    let planned : ArePlanned w s.objects.classes s.objects.phases (f ∷ (owns.others ++ parts.lower)) = subst (λ (l : List Going). ArePlanned w s.objects.classes s.objects.phases l) all_are stands.frames.planned in
    let going = planned.going.0 in
    let k = going.kind in
    let left = going.rest in
    let at_it : f ≡ at_left f (Does k ∷ left) = ap (at_left f) going.is in
    let left_are = events_next w world f k left parts.own owns.others (e ∷ es) going.is owns.own_is (sym events ∙ parts.events_are) in
    let event : e ≡ event_of k f.part = cc (left_are) in
    let courses : AreOf p.is_building (f ∷ owns.others) = subst (λ (l : List Going). AreOf p.is_building l) owns.own_is parts.course in
    let under = Behind parts.lower (StandOver w at g None path) in
    let there : WaitInPlan w at g p path (f ∷ (owns.others ++ parts.lower)) (begins.top ∷ r.below) under = subst (λ (l : List Going). WaitInPlan w at g p path l (begins.top ∷ r.below) under) all_are wait in
    let stepped = top_steps w at g p path under f (owns.others ++ parts.lower) begins.top r.below (top_of w at g p path under f (owns.others ++ parts.lower) begins.top r.below there) in
    let top : IsTopFrame w at g p path under f (owns.others ++ parts.lower) r.top r.below = subst (λ (b : MachineFrame). IsTopFrame w at g p path under f (owns.others ++ parts.lower) b r.below) (sym begins.stepped) stepped in
    record {
      f = f;
      k = k;
      left = left;
      others = owns.others;
      lower = parts.lower;
      turn = record {
        planned = subst (λ (h : Going). ArePlanned w s.objects.classes s.objects.phases (h ∷ (owns.others ++ parts.lower))) at_it planned;
        fits = subst (λ (x : PartEvent). Fits (world_classes w) s.objects.phases x) event fits;
        is_open = ap (λ (q : ObjectPart). s.objects.is_closed q.object) (sym (ap part_of event ∙ event_part k f.part)) ∙ is_open;
        columns = stands.columns;
        globals = stands.globals;
        calls = stands.frames.calls ∙ ap open_count frames_are;
        opened = begins.opened;
        outs = begins.silent;
        course = courses.0;
        courses = courses.1;
        top = top_moves w at g p path under f left (owns.others ++ parts.lower) r.top r.below r.top.registers r.top.block (λ awaits. ap awaits_body going.is ∙ awaits_more k left awaits) (low_itself w (PlanCode f.course f.form f.class) r.top.registers) top;
      };
      event = event;
      events = cc (left_are);
      block = runs.next ∙ ap (λ (xs : List Item). at (next_place f.course f.form f.class xs)) going.is;
      course = going.course;
      ends = subst (λ (xs : List Item). IsEnd w.setup f.course f.form f.class xs) going.is going.ends;
    }

pub plan_block : (w : World) (at : PlaceNumbers) → IsProgramWorld w → (s : ProgramState) (p : Planned) (path : List PathFrame) → s.frames ≡ InPlan p ∷ path → (r : Running) (begins : BeginsBlock w at s r)
    → (e : PartEvent) (es : List PartEvent) → p.events ≡ e ∷ es → Fits (world_classes w) s.objects.phases e → s.objects.is_closed (part_of e).object ≡ false → (s' : ProgramState) (told : List Out) → event_step w.setup.program s p path (e ∷ es) ≡ Goes s' told → IsPlanBlock w at s p path r begins s' told
plan_block w at world s p path frames_are r begins e es events fits is_open s' told step =
    let has = has_turn w at world s p path frames_are r begins e es events fits is_open in
    let next = step_is w.setup.program s p path has.k has.f.part es s' told (ap (λ (x : PartEvent). event_step w.setup.program s p path (x ∷ es)) (sym has.event) ∙ step) in
    record {
      f = has.f;
      k = has.k;
      left = has.left;
      others = has.others;
      lower = has.lower;
      block = has.block ∙ ap at (own_place has.f.course has.f.form has.f.class has.k has.left next.other);
      course = has.course;
      ends = has.ends;
      events = events ∙ (ap (λ (x : PartEvent). x ∷ es) has.event ∙ ap (λ (xs : List PartEvent). event_of has.k has.f.part ∷ xs) has.events);
      turn = turn_of w at world s p path has.f has.k has.left has.others has.lower r has.turn es has.events s' told next.next;
    }

-- and that block stands in the code
pub block_there : (w : World) → (world : IsProgramWorld w) → (course : Course) (form : Form) (c : ClassId) (k : Kind) (left : List Item) → c.0 < length (world_classes w) → IsCourse course form → IsEnd w.setup course form c (Does k ∷ left) → has_own_block (is_body (body_of_routine w.setup (PlanCode course form c))) k ≡ true
    → slice_get w.code.blocks (world.lowered.at (AtEvent course form c (Does k ∷ left))) ≡ Some (record { ops = event_block w.setup world.lowered.at course form c k left; line = 0 })
block_there w world course form c k left known fits end own =
    let block : Block = record { ops = event_block w.setup world.lowered.at course form c k left; line = 0 } in
    world.lowered.each (AtEvent course form c (Does k ∷ left)) block ((known, fits), end) (ap (λ t. if t then Some block else None) own)
