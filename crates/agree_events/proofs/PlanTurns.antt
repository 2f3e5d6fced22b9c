-- A turn of a plan: the block of its next event agrees with the step of the subobject machine.
use Rattle.std.proofs.Common.{◌≡◌, ℕ, ◌<◌, Option, Some, None, List, [], ◌∷◌, ◌++◌, length, map, refl, ap, subst, sym, ◌∙◌, arith}
use Rattle.cxx_hierarchy.specs.declared.records.ClassId.{ClassId}
use Rattle.cxx_subobject.specs.Locations.{ObjectPart}
use Rattle.cxx_program.specs.declared.operand.Conversion.TheVariants.{Same as ToSame}
use Rattle.cxx_program.specs.declared.program.Owner.{Owner}
use Rattle.cxx_program.specs.declared.program.TypedBody.{TypedBody}
use Rattle.path_plan.specs.Phases.{PartEvent, Begin, Ready, Init, Body, Done, Ending, Bases, End, phases_after}
use Rattle.path_model.specs.declared.outs.Out.{Out}
use Rattle.path_model.specs.Outs.{class_or_first}
use Rattle.path_model.specs.Values.{Pointer}
use Rattle.path_model.specs.States.{ProgramState, RunningBody as PathRunning, Planned, Frame as PathFrame, InBody, InPlan, owned_body, entered_body, with_objects, with_frames}
use Rattle.path_model.specs.Effects.{Goes}
use Rattle.path_model.specs.Steps.{objects_after, event_outs, class_of_part, body_owner, body_opened, plan_left, resumed}
use Rattle.path_model.specs.Runs.{Moves, open_count}
use Rattle.path_model.proofs.TypedBodies.{body_typed}
use Rattle.code_blocks.specs.Blocks.{event_block}
use Rattle.code_blocks.specs.Items.{Item, Does, event_of}
use Rattle.code_blocks.specs.declared.items.Kind.{Kind}
use Rattle.code_blocks.specs.declared.items.Kind.TheVariants.{AtBegin, AtReady, AtInit, AtBody, AtDone, AtEnding, AtBases, AtEnd}
use Rattle.code_ops.specs.Setups.{PlanCode, plan_owner, body_of_routine}
use Rattle.code_ops.specs.declared.routines.Course.{Course}
use Rattle.code_ops.specs.declared.routines.Course.TheVariants.{Constructs, Destroys, Deletes}
use Rattle.byte_memory.specs.Store.{Store}
use Rattle.byte_shadow.specs.Shadows.{Notes}
use Rattle.byte_machine.specs.declared.turn.RawOut.{RawOut}
use Rattle.byte_machine.specs.declared.turn.MachineTurn.TheVariants.{Went}
use Rattle.byte_machine.specs.Frames.{MachineFrame}
use Rattle.byte_machine.specs.Running.{Running}
use Rattle.byte_machine.specs.Leads.{LeadsBlock}
use Rattle.agree_parts.specs.Heaps.{Heap}
use Rattle.agree_relation.specs.Worlds.{World, IsProgramWorld, world_classes, fixed}
use Rattle.agree_relation.specs.Words.{heap_of, register_word}
use Rattle.agree_relation.specs.Goings.{Going, at_left, opened_goings, AreOf, AreGoing, ArePlanned, events_left}
use Rattle.agree_relation.specs.Frames.{PlaceNumbers, WaitInPlan, OwnsParts, Behind, StandOver}
use Rattle.agree_relation.specs.Agrees.{ReadAs, Agrees}
use Rattle.agree_events.specs.Events.{IsOwnEvent, IsAfter, now}
use Rattle.agree_events.specs.Turns.{IsTurn, IsPlanTurn, ReturnsFromPlan}
use Rattle.agree_events.proofs.Planned.{planned_step}
use Rattle.agree_events.proofs.EventBlocks.{leads_event}
use Rattle.agree_events.proofs.Owned.{opened_more, opened_of, some_own, waits_same}
use Rattle.agree_events.proofs.Bodied.{owner_of_plan, body_stands}

-- an event of a kind is a body where it is one
body_kind : (k : Kind) (p q : ObjectPart) → Body q ≡ event_of k p → (k ≡ AtBody) × (q ≡ p)
body_kind AtBegin p q e = absurd (cc)
body_kind AtReady p q e = absurd (cc)
body_kind (AtInit m) p q e = absurd (cc)
body_kind AtBody p q e = (refl, cc (e))
body_kind AtDone p q e = absurd (cc)
body_kind AtEnding p q e = absurd (cc)
body_kind AtBases p q e = absurd (cc)
body_kind AtEnd p q e = absurd (cc)

-- the first event left is the one at which the first part waits
first_left : (w : World) (x : Going) (others : List Going) (k : Kind) (left : List Item) (e : PartEvent) (es : List PartEvent) → x.left ≡ Does k ∷ left → e ∷ es ≡ events_left w (x ∷ others) → e ≡ event_of k x.part
first_left w x others k left e es is events = let at_it : e ∷ es ≡ events_left w (at_left x (Does k ∷ left) ∷ others) = subst (λ (xs : List Item). e ∷ es ≡ events_left w (at_left x xs ∷ others)) is events in cc (at_it)

some_left : (w : World) (x : Going) (others : List Going) (k : Kind) (left : List Item) → x.left ≡ Does k ∷ left → [] ≡ events_left w (x ∷ others) → ⊥
some_left w x others k left is events = let at_it : [] ≡ events_left w (at_left x (Does k ∷ left) ∷ others) = subst (λ (xs : List Item). [] ≡ events_left w (at_left x xs ∷ others)) is events in cc (at_it)

-- the event, from what is known of the turn
turn_event : (w : World) (at : PlaceNumbers) (s : ProgramState) (p : Planned) (path : List PathFrame) (f : Going) (k : Kind) (left : List Item) (others lower : List Going) (r : Running) → IsTurn w at s p path f k left others lower r → IsOwnEvent w s.objects.classes s.objects.phases f k left (others ++ lower)
turn_event w at s p path f k left others lower r turn = record { planned = turn.planned; fits = turn.fits }

-- a body of a plan counts as no call
abbrev pub owned_by : PathRunning → Owner → PathRunning
owned_by fb o = record { owner = o; this = fb.this; locals = fb.locals; next = fb.next; found = fb.found; target = fb.target }

no_call : (fb : PathRunning) (p : Planned) (es : List PartEvent) (path : List PathFrame) (course : Course) (c : ClassId) → open_count (InBody (owned_by fb (plan_owner course c)) ∷ plan_left p es ∷ path) ≡ open_count (InPlan p ∷ path)
no_call fb p es path Constructs c = refl
no_call fb p es path Destroys c = refl
no_call fb p es path Deletes c = refl

-- the state after it, but for its frames
abbrev pub state_after : World → ProgramState → PartEvent → ProgramState
state_after w s e = with_objects s (objects_after w.setup.program s.objects e)

module _ (w : World) (at : PlaceNumbers) (world : IsProgramWorld w) (s : ProgramState) (p : Planned) (path : List PathFrame) (f : Going) (k : Kind) (left : List Item) (others lower : List Going) (r : Running) (turn : IsTurn w at s p path f k left others lower r) where
  abbrev e : PartEvent
  e = event_of k f.part

  abbrev g : Heap
  g = heap_of s.objects.classes r.memory.regions

  abbrev own : List Going
  own = opened_goings w f left others

  abbrev gs : List Going
  gs = opened_goings w f left (others ++ lower)

  abbrev under : List Going → List MachineFrame → Type 0
  under = Behind lower (StandOver w at g None path)

  planned : ArePlanned w s.objects.classes (phases_after s.objects.phases e) gs
  planned = planned_step w world.hierarchy s.objects.classes s.objects.phases f k left (others ++ lower) turn.planned turn.fits

  gs_is : gs ≡ own ++ lower
  gs_is = opened_more w f left others lower

  -- what stands, whatever the frames of the state are
  stands_now : (registers : List (Option ℕ)) (memory : Store) (notes : Notes) (outs : List RawOut) → IsAfter w at (objects_after w.setup.program s.objects e) r (event_outs s.objects e) memory notes outs
      → (frames : List PathFrame) (above : List MachineFrame) (b : MachineFrame) (bs : List MachineFrame) → StandOver w at g None frames gs (above ++ b ∷ bs) → open_count frames ≡ open_count (InPlan p ∷ path)
      → Agrees w at (Moves (with_frames (state_after w s e) frames) (event_outs s.objects e)) (record (now r registers memory notes outs) { opened = above; top = b; below = bs }) Went
  stands_now registers memory notes outs then frames above b bs stand count =
      let same : heap_of s.objects.classes memory.regions ≡ g = ap (λ (starts : List ℕ). record { classes = s.objects.classes; starts = starts }) then.starts in
      let told : outs ≡ then.tells.more = then.tells.is ∙ ap (λ (o : List RawOut). o ++ then.tells.more) turn.outs in (
        record {
          columns = then.columns;
          globals = turn.globals ∙ ap (λ (h : Heap). map (register_word w h) s.globals) (sym same);
          frames = record {
            goings = gs;
            planned = planned;
            frames = subst (λ (h : Heap). StandOver w at h None frames gs (above ++ b ∷ bs)) (sym same) stand;
            calls = turn.calls ∙ sym count;
          };
        },
        subst (λ (o : List RawOut). ReadAs w at (heap_of s.objects.classes memory.regions) o (event_outs s.objects e)) (sym told) (subst (λ (h : Heap). ReadAs w at h then.tells.more (event_outs s.objects e)) (sym same) then.tells.reads),
        refl,
      )

  -- another event is next
  plan_stands : (es : List PartEvent) → es ≡ events_left w own → (stack : List MachineFrame) → WaitInPlan w at g p path gs stack under → StandOver w at g None (plan_left p es ∷ path) gs stack
  plan_stands es events stack wait =
      (record { own = own; lower = lower; is = gs_is; events_are = events; course = opened_of w f p.is_building left others turn.course turn.courses }, waits_same w at g p es path under gs stack wait)

  -- a body is next
  record HasBody (q : ObjectPart) (es : List PartEvent) (body : TypedBody) : Type 0 where
    stand : (stack : List MachineFrame) → WaitInPlan w at g p path gs stack under → StandOver w at g None (InBody (entered_body body (Pointer q) [] ToSame None) ∷ plan_left p es ∷ path) gs stack
    count : open_count (InBody (entered_body body (Pointer q) [] ToSame None) ∷ plan_left p es ∷ path) ≡ open_count (InPlan p ∷ path)

  has_body : (q : ObjectPart) (es : List PartEvent) (body : TypedBody) → Body q ∷ es ≡ events_left w own → owned_body w.setup.program (body_owner p.is_building (class_of_part q)) ≡ Some body → HasBody q es body
  has_body q es body events there = by_own own refl
    where
      by_own : (xs : List Going) → own ≡ xs → HasBody q es body
      by_own [] none = absurd (let none_left : Body q ∷ es ≡ [] = events ∙ ap (events_left w) none in cc (none_left))
      by_own (x ∷ xs) is =
          let left_are : Body q ∷ es ≡ events_left w (x ∷ xs) = events ∙ ap (events_left w) is in
          let all_are : gs ≡ x ∷ (xs ++ lower) = gs_is ∙ ap (λ (l : List Going). l ++ lower) is in
          let going = (subst (λ (l : List Going). AreGoing w s.objects.classes l) all_are planned.going).0 in
          let kind = body_kind going.kind x.part q (first_left w x xs going.kind going.rest (Body q) es going.is left_are) in
          let at_body : x.left ≡ Does AtBody ∷ going.rest = going.is ∙ ap (λ k. Does k ∷ going.rest) kind.0 in
          let courses : AreOf p.is_building (x ∷ xs) = subst (λ (l : List Going). AreOf p.is_building l) is (opened_of w f p.is_building left others turn.course turn.courses) in
          let class : class_of_part q ≡ x.class = ap class_of_part kind.1 ∙ ap class_or_first going.made.of_class in
          let owner : body_owner p.is_building (class_of_part q) ≡ plan_owner x.course x.class = ap (body_owner p.is_building) class ∙ owner_of_plan x.course x.class p.is_building courses.0 in
          let body_is : body_of_routine w.setup (PlanCode x.course x.form x.class) ≡ Some body = ap (owned_body w.setup.program) (sym owner) ∙ there in
          let typed : body.owner ≡ plan_owner x.course x.class = (body_typed (world_classes w) w.setup.program world.typed (plan_owner x.course x.class) body body_is).0 in
          let parts : OwnsParts w p.is_building (Body x.part ∷ es) (x ∷ (xs ++ lower)) = record { own = x ∷ xs; lower = lower; is = refl; events_are = ap (λ (y : ObjectPart). Body y ∷ es) (sym kind.1) ∙ left_are; course = courses } in
          record {
            stand = λ stack wait.
                subst (λ (l : List Going). StandOver w at g None (InBody (entered_body body (Pointer q) [] ToSame None) ∷ plan_left p es ∷ path) l stack) (sym all_are)
                (subst (λ (y : ObjectPart). StandOver w at g None (InBody (entered_body body (Pointer y) [] ToSame None) ∷ plan_left p es ∷ path) (x ∷ (xs ++ lower)) stack) (sym kind.1)
                (body_stands w at g p path es x going.rest (xs ++ lower) stack body at_body body_is typed parts (subst (λ (l : List Going). WaitInPlan w at g p path l stack under) all_are wait)));
            count = ap (λ (o : Owner). open_count (InBody (owned_by (entered_body body (Pointer q) [] ToSame None) o) ∷ plan_left p es ∷ path)) typed ∙ no_call (entered_body body (Pointer q) [] ToSame None) p es path x.course x.class;
          }

  -- no event is left, but parts wait: that is not so
  none_wait : [] ≡ events_left w own → (stack : List MachineFrame) → WaitInPlan w at g p path gs stack under → ⊥
  none_wait events stack wait = by_own own refl
    where
      more : length lower < length gs
      more = some_own w at g p path lower (StandOver w at g None path) gs stack wait

      by_own : (xs : List Going) → own ≡ xs → ⊥
      by_own [] none = let same : length gs ≡ length lower = ap length (gs_is ∙ ap (λ (l : List Going). l ++ lower) none) in let less = more in omega arith
      by_own (x ∷ xs) is =
          let all_are : gs ≡ x ∷ (xs ++ lower) = gs_is ∙ ap (λ (l : List Going). l ++ lower) is in
          let going = (subst (λ (l : List Going). AreGoing w s.objects.classes l) all_are planned.going).0 in
          some_left w x xs going.kind going.rest going.is (events ∙ ap (events_left w) is)

  module _ (registers : List (Option ℕ)) (memory : Store) (notes : Notes) (outs : List RawOut) (then : IsAfter w at (objects_after w.setup.program s.objects e) r (event_outs s.objects e) memory notes outs) (s' : ProgramState) (told : List Out) where
    abbrev Agreed : List MachineFrame → MachineFrame → List MachineFrame → Type 0
    Agreed above b bs = Agrees w at (Moves s' told) (record (now r registers memory notes outs) { opened = above; top = b; below = bs }) Went

    goes_to : (frames : List PathFrame) (above : List MachineFrame) (b : MachineFrame) (bs : List MachineFrame) → Goes (with_frames (state_after w s e) frames) (event_outs s.objects e) ≡ Goes s' told → StandOver w at g None frames gs (above ++ b ∷ bs) → open_count frames ≡ open_count (InPlan p ∷ path) → Agreed above b bs
    goes_to frames above b bs same stand count =
        let state : with_frames (state_after w s e) frames ≡ s' = cc (same) in
        let told_is : event_outs s.objects e ≡ told = cc (same) in
        subst (λ (x : ProgramState). Agrees w at (Moves x told) (record (now r registers memory notes outs) { opened = above; top = b; below = bs }) Went) state
        (subst (λ (o : List Out). Agrees w at (Moves (with_frames (state_after w s e) frames) o) (record (now r registers memory notes outs) { opened = above; top = b; below = bs }) Went) told_is
        (stands_now registers memory notes outs then frames above b bs stand count))

    by_body : (q : ObjectPart) (es : List PartEvent) → Body q ∷ es ≡ events_left w own → (o : Option TypedBody) → owned_body w.setup.program (body_owner p.is_building (class_of_part q)) ≡ o → body_opened (state_after w s e) q (event_outs s.objects e) (plan_left p es ∷ path) o ≡ Goes s' told
        → (above : List MachineFrame) (b : MachineFrame) (bs : List MachineFrame) → WaitInPlan w at g p path gs (above ++ b ∷ bs) under → Agreed above b bs
    by_body q es events None there next above b bs wait = absurd (cc)
    by_body q es events (Some body) there next above b bs wait =
        let has = has_body q es body events there in
        goes_to (InBody (entered_body body (Pointer q) [] ToSame None) ∷ plan_left p es ∷ path) above b bs next (has.stand (above ++ b ∷ bs) wait) has.count

    by_next : (es : List PartEvent) → es ≡ events_left w own → resumed w.setup.program (state_after w s e) p path (event_outs s.objects e) es ≡ Goes s' told → (above : List MachineFrame) (b : MachineFrame) (bs : List MachineFrame) → WaitInPlan w at g p path gs (above ++ b ∷ bs) under → Agreed above b bs
    by_next [] events next above b bs wait = absurd (none_wait events (above ++ b ∷ bs) wait)
    by_next (Body q ∷ es) events next above b bs wait = by_body q es events (owned_body w.setup.program (body_owner p.is_building (class_of_part q))) refl next above b bs wait
    by_next (Begin q ∷ es) events next above b bs wait = goes_to (plan_left p (Begin q ∷ es) ∷ path) above b bs next (plan_stands (Begin q ∷ es) events (above ++ b ∷ bs) wait) refl
    by_next (Ready q ∷ es) events next above b bs wait = goes_to (plan_left p (Ready q ∷ es) ∷ path) above b bs next (plan_stands (Ready q ∷ es) events (above ++ b ∷ bs) wait) refl
    by_next (Init q m ∷ es) events next above b bs wait = goes_to (plan_left p (Init q m ∷ es) ∷ path) above b bs next (plan_stands (Init q m ∷ es) events (above ++ b ∷ bs) wait) refl
    by_next (Done q ∷ es) events next above b bs wait = goes_to (plan_left p (Done q ∷ es) ∷ path) above b bs next (plan_stands (Done q ∷ es) events (above ++ b ∷ bs) wait) refl
    by_next (Ending q ∷ es) events next above b bs wait = goes_to (plan_left p (Ending q ∷ es) ∷ path) above b bs next (plan_stands (Ending q ∷ es) events (above ++ b ∷ bs) wait) refl
    by_next (Bases q ∷ es) events next above b bs wait = goes_to (plan_left p (Bases q ∷ es) ∷ path) above b bs next (plan_stands (Bases q ∷ es) events (above ++ b ∷ bs) wait) refl
    by_next (End q ∷ es) events next above b bs wait = goes_to (plan_left p (End q ∷ es) ∷ path) above b bs next (plan_stands (End q ∷ es) events (above ++ b ∷ bs) wait) refl

  -- a turn: where the last event is told, the return to who waits for the object is left
  pub plan_turn : (es : List PartEvent) → es ≡ events_left w own → (s' : ProgramState) (told : List Out) → resumed w.setup.program (state_after w s e) p path (event_outs s.objects e) es ≡ Goes s' told
      → ((registers : List (Option ℕ)) (memory : Store) (notes : Notes) (outs : List RawOut) → IsAfter w at (objects_after w.setup.program s.objects e) r (event_outs s.objects e) memory notes outs → ReturnsFromPlan w at g p path under f left (others ++ lower) (now r registers memory notes outs) (Agrees w at (Moves s' told)))
      → LeadsBlock (fixed w) (event_block w.setup at f.course f.form f.class k left) r (Agrees w at (Moves s' told))
  plan_turn es events s' told next leaves =
      leads_event w at world p path under (Agrees w at (Moves s' told)) s.objects f k left (others ++ lower) (turn_event w at s p path f k left others lower r turn) r turn.opened turn.is_open turn.columns turn.top
      (λ registers memory notes outs then. (λ above b bs wait. by_next registers memory notes outs then s' told es events next above b bs wait, leaves registers memory notes outs then))

-- with the events that are left said by the parts
pub turn_of : (w : World) (at : PlaceNumbers) → IsProgramWorld w → (s : ProgramState) (p : Planned) (path : List PathFrame) (f : Going) (k : Kind) (left : List Item) (others lower : List Going) (r : Running) → IsTurn w at s p path f k left others lower r
    → (es : List PartEvent) → es ≡ events_left w (opened_goings w f left others) → (s' : ProgramState) (told : List Out) → resumed w.setup.program (with_objects s (objects_after w.setup.program s.objects (event_of k f.part))) p path (event_outs s.objects (event_of k f.part)) es ≡ Goes s' told
    → IsPlanTurn w at s p path f k left others lower r s' told
turn_of w at world s p path f k left others lower r turn es events s' told next = record {
  turn = turn;
  next = ap (resumed w.setup.program (with_objects s (objects_after w.setup.program s.objects (event_of k f.part))) p path (event_outs s.objects (event_of k f.part))) (sym events) ∙ next;
  leads = λ leaves. plan_turn w at world s p path f k left others lower r turn es events s' told next leaves;
}
