-- The end of a body of a plan: a constructor is done, and a destructor goes on to the members.
use Rattle.std.proofs.Common.{◌≡◌, ◌⊎◌, inl, inr, ⊎_elim, true, false, Some, None, List, [], ◌∷◌, ◌++◌, refl, ap, subst, sym, ◌∙◌}
use Rattle.cxx_hierarchy.specs.declared.records.ClassId.{ClassId}
use Rattle.cxx_program.specs.declared.program.Owner.{Owner}
use Rattle.cxx_program.specs.declared.program.Owner.TheVariants.{Constructor, Destructor}
use Rattle.path_plan.specs.Phases.{PartEvent, Body, part_of}
use Rattle.path_plan.specs.Views.{Fits}
use Rattle.path_model.specs.declared.outs.Out.{Out}
use Rattle.path_model.specs.States.{ProgramState, RunningBody as PathRunning, Planned, Frame as PathFrame, InBody, InPlan, with_frames}
use Rattle.path_model.specs.Effects.{Goes}
use Rattle.path_model.specs.Steps.{event_step}
use Rattle.path_model.specs.Runs.{Moves, open_count}
use Rattle.code_blocks.specs.Blocks.{plan_tail, closing_ops}
use Rattle.code_blocks.specs.Items.{Item, Does, event_of}
use Rattle.code_blocks.specs.Lowered.{IsEnd}
use Rattle.code_blocks.specs.declared.items.Kind.TheVariants.{AtBody, AtDone}
use Rattle.code_ops.specs.Setups.{PlanCode, plan_owner}
use Rattle.code_ops.specs.declared.routines.Course.{Course}
use Rattle.code_ops.specs.declared.routines.Course.TheVariants.{Constructs, Destroys, Deletes}
use Rattle.byte_machine.specs.declared.turn.RawOut.{RawOut}
use Rattle.byte_machine.specs.Frames.{MachineFrame}
use Rattle.byte_machine.specs.Running.{Running}
use Rattle.byte_machine.specs.Leads.{LeadsBlock}
use Rattle.agree_parts.specs.Heaps.{Heap}
use Rattle.agree_relation.specs.Worlds.{World, IsProgramWorld, world_classes, fixed}
use Rattle.agree_relation.specs.Words.{heap_of}
use Rattle.agree_relation.specs.Goings.{Going, at_left, opened_goings, AreOf, ArePlanned, events_left}
use Rattle.agree_relation.specs.Frames.{PlaceNumbers, awaits_body, IsPlanFrame, IsInner, IsOuter, RunsBody, WaitInPlan, Behind, StandInPlan, StandOver, BodyStandsOver}
use Rattle.agree_relation.specs.Agrees.{ReadAs, Agrees}
use Rattle.agree_statements.specs.Statements.{BeginsBlock}
use Rattle.agree_relation.proofs.Objects.{objects_laid}
use Rattle.agree_events.specs.Turns.{InPlanBody, IsPlanTurn, IsTopFrame, IsTurn}
use Rattle.agree_events.proofs.Events.{next_event}
use Rattle.agree_events.proofs.Steps.{low_itself}
use Rattle.agree_events.proofs.Left.{AreLeft}
use Rattle.agree_events.proofs.Opened.{Holding}
use Rattle.agree_events.proofs.Planned.{at_next, planned_body}
use Rattle.agree_events.proofs.Bodies.{constructor_left, destructor_left, deleting_left, body_once}
use Rattle.agree_events.proofs.Tops.{elements_move, top_moves, top_steps}
use Rattle.agree_events.proofs.Tails.{leads_tail}
use Rattle.agree_events.proofs.Owned.{owns_first, opened_more, opened_of}
use Rattle.agree_events.proofs.PlanTurns.{owned_by, turn_of}
use Rattle.agree_events.proofs.PlanBlocks.{events_next}

constructs : (course : Course) (d c : ClassId) → plan_owner course d ≡ Constructor c → course ≡ Constructs
constructs Constructs d c e = refl
constructs Destroys d c e = absurd (cc)
constructs Deletes d c e = absurd (cc)

-- a body of a plan counts as no call
pub no_call : (fb : PathRunning) (p : Planned) (path : List PathFrame) (course : Course) (c : ClassId) → fb.owner ≡ plan_owner course c → open_count (InBody fb ∷ InPlan p ∷ path) ≡ open_count (InPlan p ∷ path)
no_call fb p path course c e = ap (λ (o : Owner). open_count (InBody (owned_by fb o) ∷ InPlan p ∷ path)) e ∙ by course
  where
    by : (course : Course) → open_count (InBody (owned_by fb (plan_owner course c)) ∷ InPlan p ∷ path) ≡ open_count (InPlan p ∷ path)
    by Constructs = refl
    by Destroys = refl
    by Deletes = refl

-- the frames of a plan whose body is on top
frames_in_plan : (w : World) (at : PlaceNumbers) (g : Heap) (fb : PathRunning) (p : Planned) (path : List PathFrame) (gs : List Going) (bs : List MachineFrame) (course : Course) (c : ClassId) → fb.owner ≡ plan_owner course c → StandOver w at g None (InBody fb ∷ InPlan p ∷ path) gs bs → StandInPlan w at g (Some fb) p path gs bs (StandOver w at g None path)
frames_in_plan w at g fb p path gs bs course c owner stand = by course (subst (λ (o : Owner). BodyStandsOver w at g fb o (InPlan p ∷ path) (StandOver w at g None (InPlan p ∷ path)) (StandOver w at g (Some fb) (InPlan p ∷ path)) gs bs) owner stand)
  where
    by : (course : Course) → BodyStandsOver w at g fb (plan_owner course c) (InPlan p ∷ path) (StandOver w at g None (InPlan p ∷ path)) (StandOver w at g (Some fb) (InPlan p ∷ path)) gs bs → StandInPlan w at g (Some fb) p path gs bs (StandOver w at g None path)
    by Constructs x = x
    by Destroys x = x
    by Deletes x = x

body_top : (w : World) (at : PlaceNumbers) (g : Heap) (fb : PathRunning) (p : Planned) (path : List PathFrame) (under : List Going → List MachineFrame → Type 0) (gs : List Going) (b : MachineFrame) (bs : List MachineFrame) (rest : List Going) → (runs : RunsBody w at g fb gs b rest) → (tail : List Going) → tail ≡ runs.more ++ rest
    → ((IsInner b × WaitInPlan w at g p path rest bs under) ⊎ (IsOuter w g p runs.first path b × under rest bs)) → IsTopFrame w at g p path under (at_left runs.first []) tail b bs
body_top w at g fb p path under gs b bs rest runs tail is kind = record {
  more = runs.more;
  rest = rest;
  is = is;
  frame = subst (λ (l : List Going). IsPlanFrame w at g (at_left runs.first []) l b) (sym is) runs.frame;
  again = elements_move w at g p path under runs.first [] b.again b.stride runs.more runs.again.elements;
  kind = ⊎_elim (λ i. inl i) (λ o. inr (record { is_call = o.0.is_call; again = o.0.again; class = o.0.class; made = o.0.made; part = o.0.part; keeps = o.0.keeps }, o.1)) kind;
}

pub in_plan_body : (w : World) (at : PlaceNumbers) → IsProgramWorld w → (s : ProgramState) (fb : PathRunning) (p : Planned) (path : List PathFrame) → s.frames ≡ InBody fb ∷ InPlan p ∷ path → (course : Course) (c : ClassId) → fb.owner ≡ plan_owner course c → (r : Running) (begins : BeginsBlock w at s r) → InPlanBody w at s fb p path r begins
in_plan_body w at world s fb p path frames_are course c owner r begins =
    let stands = begins.stands in
    let g = heap_of s.objects.classes r.memory.regions in
    let gs = stands.frames.goings in
    let over = frames_in_plan w at g fb p path gs (begins.top ∷ r.below) course c owner (subst (λ (fs : List PathFrame). StandOver w at g None fs gs (begins.top ∷ r.below)) frames_are stands.frames.frames) in
    let parts = over.1.0 in
    let runs = over.1.1.1.0 in
    let rest = over.1.1.0 in
    let f = runs.first in
    let tail = runs.more ++ rest in
    let owns = owns_first w f tail parts.own parts.lower (Body over.0) p.events (sym runs.is ∙ parts.is) parts.events_are in
    let all_are : gs ≡ f ∷ (owns.others ++ parts.lower) = runs.is ∙ ap (λ (l : List Going). f ∷ l) owns.tail_is in
    let planned : ArePlanned w s.objects.classes s.objects.phases (f ∷ (owns.others ++ parts.lower)) = subst (λ (l : List Going). ArePlanned w s.objects.classes s.objects.phases l) all_are stands.frames.planned in
    let at_it : f ≡ at_left f (Does AtBody ∷ runs.left) = ap (at_left f) runs.at_body in
    let left_are = events_next w world f AtBody runs.left parts.own owns.others (Body over.0 ∷ p.events) runs.at_body owns.own_is parts.events_are in
    let courses : AreOf p.is_building (f ∷ owns.others) = subst (λ (l : List Going). AreOf p.is_building l) owns.own_is parts.course in
    let under = Behind parts.lower (StandOver w at g None path) in
    let below = owns.others ++ parts.lower in
    let stepped = top_steps w at g p path under (at_left f []) below begins.top r.below (body_top w at g fb p path under gs begins.top r.below rest runs below (sym owns.tail_is) over.1.1.1.1) in
    record {
      f = f;
      left = runs.left;
      others = owns.others;
      lower = parts.lower;
      owner = runs.owner;
      block = runs.body.block;
      planned = subst (λ (h : Going). ArePlanned w s.objects.classes s.objects.phases (h ∷ (owns.others ++ parts.lower))) at_it planned;
      events = cc (left_are);
      course = courses.0;
      courses = courses.1;
      top = subst (λ (b : MachineFrame). IsTopFrame w at g p path under (at_left f []) below b r.below) (sym begins.stepped) stepped;
    }

-- the end of a constructor's body is the turn of its last event
pub constructor_turn : (w : World) (at : PlaceNumbers) → IsProgramWorld w → (s : ProgramState) (fb : PathRunning) (p : Planned) (path : List PathFrame) → s.frames ≡ InBody fb ∷ InPlan p ∷ path → (c : ClassId) → fb.owner ≡ Constructor c → (r : Running) (begins : BeginsBlock w at s r)
    → (inside : InPlanBody w at s fb p path r begins) → (e : PartEvent) (es : List PartEvent) → p.events ≡ e ∷ es → Fits (world_classes w) s.objects.phases e → s.objects.is_closed (part_of e).object ≡ false
    → (inside.f.course ≡ Constructs) × (IsTurn w at s p path inside.f AtDone [] inside.others inside.lower r) × (p.events ≡ event_of AtDone inside.f.part ∷ events_left w (opened_goings w inside.f [] inside.others))
constructor_turn w at world s fb p path frames_are c owner r begins inside e es events fits is_open =
    let stands = begins.stands in
    let f = inside.f in
    let course : f.course ≡ Constructs = constructs f.course f.class c (sym inside.owner ∙ owner) in
    let left : inside.left ≡ Does AtDone ∷ [] = constructor_left w.setup f.form f.class inside.left (subst (λ k. IsEnd w.setup k f.form f.class (Does AtBody ∷ inside.left)) course inside.planned.going.0.ends) in
    let left_are = inside.events ∙ (ap (λ (xs : List Item). events_left w (opened_goings w f xs inside.others)) left ∙ next_event w world.hierarchy f AtDone [] inside.others) in
    let event : e ≡ event_of AtDone f.part = let same : e ∷ es ≡ event_of AtDone f.part ∷ events_left w (opened_goings w f [] inside.others) = sym events ∙ left_are in cc (same) in
    let planned = planned_body w world.hierarchy s.objects.classes s.objects.phases f inside.left (inside.others ++ inside.lower) inside.planned in (
      course,
      record {
        planned = subst (λ (xs : List Item). ArePlanned w s.objects.classes s.objects.phases (opened_goings w f xs (inside.others ++ inside.lower))) left planned;
        fits = subst (λ (x : PartEvent). Fits (world_classes w) s.objects.phases x) event fits;
        is_open = ap (λ (x : PartEvent). s.objects.is_closed (part_of x).object) (sym event) ∙ is_open;
        columns = stands.columns;
        globals = stands.globals;
        calls = stands.frames.calls ∙ (ap open_count frames_are ∙ no_call fb p path Constructs c owner);
        opened = begins.opened;
        outs = begins.silent;
        course = inside.course;
        courses = inside.courses;
        top = inside.top;
      },
      left_are,
    )

pub constructor_closes : (w : World) (at : PlaceNumbers) → IsProgramWorld w → (s : ProgramState) (fb : PathRunning) (p : Planned) (path : List PathFrame) → s.frames ≡ InBody fb ∷ InPlan p ∷ path → (c : ClassId) → fb.owner ≡ Constructor c → (r : Running) (begins : BeginsBlock w at s r)
    → (inside : InPlanBody w at s fb p path r begins) → (e : PartEvent) (es : List PartEvent) → p.events ≡ e ∷ es → Fits (world_classes w) s.objects.phases e → s.objects.is_closed (part_of e).object ≡ false
    → (s' : ProgramState) (told : List Out) → event_step w.setup.program s p path p.events ≡ Goes s' told → (inside.f.course ≡ Constructs) × IsPlanTurn w at s p path inside.f AtDone [] inside.others inside.lower r s' told
constructor_closes w at world s fb p path frames_are c owner r begins inside e es events fits is_open s' told step =
    let f = inside.f in
    let turn = constructor_turn w at world s fb p path frames_are c owner r begins inside e es events fits is_open in
    let es = events_left w (opened_goings w f [] inside.others) in
    let next : event_step w.setup.program s p path (event_of AtDone f.part ∷ es) ≡ Goes s' told = ap (event_step w.setup.program s p path) (sym turn.2) ∙ step in
    (turn.0, turn_of w at world s p path f AtDone [] inside.others inside.lower r turn.1 es refl s' told next)

-- a destructor's body goes on to the members of its part
destructor_tail : (w : World) (at : PlaceNumbers) → IsProgramWorld w → (s : ProgramState) (fb : PathRunning) (p : Planned) (path : List PathFrame) → s.frames ≡ InBody fb ∷ InPlan p ∷ path → (r : Running) (begins : BeginsBlock w at s r) → (inside : InPlanBody w at s fb p path r begins)
    → LeadsBlock (fixed w) (plan_tail w.setup at inside.f.course inside.f.form inside.f.class inside.left) r (Agrees w at (Moves (with_frames s (InPlan p ∷ path)) []))
destructor_tail w at world s fb p path frames_are r begins inside =
    let stands = begins.stands in
    let f = inside.f in
    let left = inside.left in
    let below = inside.others ++ inside.lower in
    let g = heap_of s.objects.classes r.memory.regions in
    let laid = objects_laid w s.objects r.memory.regions r.objects r.heap world stands.columns.objects in
    let going = inside.planned.going.0 in
    let holds : Holding w s.objects.classes f below = record { made = going.made; complete = going.complete; whole = going.whole; course = going.course; deep = going.deep; stands = going.stands } in
    let behind = (at_next w world.hierarchy s.objects.classes f AtBody left below going).behind in
    let under = Behind inside.lower (StandOver w at g None path) in
    let once : awaits_body left ≡ false = body_once w.setup f.course f.form f.class left going.ends in
    let top = top_moves w at g p path under (at_left f []) left below r.top r.below r.top.registers r.top.block (λ e. absurd (let off : true ≡ false = sym e ∙ once in cc (off))) (low_itself w (PlanCode f.course f.form f.class) r.top.registers) inside.top in
    leads_tail w at world g laid p path under (Agrees w at (Moves (with_frames s (InPlan p ∷ path)) [])) f below r begins.opened holds inside.planned.going.1 left false false behind top
    (λ above b bs wait. (
      record {
        columns = stands.columns;
        globals = stands.globals;
        frames = record {
          goings = opened_goings w f left below;
          planned = planned_body w world.hierarchy s.objects.classes s.objects.phases f left below inside.planned;
          frames = (record { own = opened_goings w f left inside.others; lower = inside.lower; is = opened_more w f left inside.others inside.lower; events_are = inside.events; course = opened_of w f p.is_building left inside.others inside.course inside.courses }, wait);
          calls = stands.frames.calls ∙ (ap open_count frames_are ∙ no_call fb p path f.course f.class inside.owner);
        };
      },
      subst (λ (o : List RawOut). ReadAs w at g o []) (sym begins.silent) tt,
      refl,
    ))
    (λ last frame o rest. absurd (subst (λ (xs : List Item). AreLeft w.setup f.course f.form f.class false xs) last behind))

pub destructor_closes : (w : World) (at : PlaceNumbers) → IsProgramWorld w → (s : ProgramState) (fb : PathRunning) (p : Planned) (path : List PathFrame) → s.frames ≡ InBody fb ∷ InPlan p ∷ path → (c : ClassId) → fb.owner ≡ Destructor c → (r : Running) (begins : BeginsBlock w at s r) → (inside : InPlanBody w at s fb p path r begins)
    → LeadsBlock (fixed w) (closing_ops w.setup at (PlanCode inside.f.course inside.f.form inside.f.class)) r (Agrees w at (Moves (with_frames s (InPlan p ∷ path)) []))
destructor_closes w at world s fb p path frames_are c owner r begins inside =
    by inside.f.course (sym inside.owner ∙ owner) inside.planned.going.0.ends (destructor_tail w at world s fb p path frames_are r begins inside)
  where
    by : (course : Course) → plan_owner course inside.f.class ≡ Destructor c → IsEnd w.setup course inside.f.form inside.f.class (Does AtBody ∷ inside.left)
        → LeadsBlock (fixed w) (plan_tail w.setup at course inside.f.form inside.f.class inside.left) r (Agrees w at (Moves (with_frames s (InPlan p ∷ path)) []))
        → LeadsBlock (fixed w) (closing_ops w.setup at (PlanCode course inside.f.form inside.f.class)) r (Agrees w at (Moves (with_frames s (InPlan p ∷ path)) []))
    by Constructs e ends lead = absurd (cc)
    by Destroys e ends lead = subst (λ (xs : List Item). LeadsBlock (fixed w) (plan_tail w.setup at Destroys inside.f.form inside.f.class xs) r (Agrees w at (Moves (with_frames s (InPlan p ∷ path)) []))) (destructor_left w.setup inside.f.form inside.f.class inside.left ends) lead
    by Deletes e ends lead = subst (λ (xs : List Item). LeadsBlock (fixed w) (plan_tail w.setup at Deletes inside.f.form inside.f.class xs) r (Agrees w at (Moves (with_frames s (InPlan p ∷ path)) []))) (deleting_left w.setup inside.f.form inside.f.class inside.left ends) lead
