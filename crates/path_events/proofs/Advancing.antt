-- A plan goes on by one event: the stack stands for what is left.
use Rattle.std.proofs.Common.{◌≡◌, ℕ, ◌≤◌, ◌^◌, Bool, true, false, Option, Some, None, List, [], ◌∷◌, ◌++◌, refl, ap, subst, sym, ◌∙◌, append_assoc, append-nil, arith}
use Rattle.std.specs.Prelude.{slice_get, reverse, if◌then◌else◌}
use Rattle.std.specs.List.{flat_map}
use Rattle.std.proofs.lemmas.List.{reverse-append}
use Rattle.cxx_hierarchy.specs.declared.records.ClassId.{ClassId}
use Rattle.cxx_hierarchy.specs.Classes.{Classes}
use Rattle.cxx_hierarchy.specs.Hierarchies.{IsHierarchy}
use Rattle.cxx_program.specs.declared.program.TypedProgram.{TypedProgram}
use Rattle.path_plan.specs.Places.{ObjectPart}
use Rattle.path_plan.specs.Phases.{PartEvent, Begin, Ending}
use Rattle.path_plan.specs.declared.form.Form.{Form}
use Rattle.path_plan.specs.declared.form.Form.TheVariants.{InFull}
use Rattle.path_plan.specs.Plans.{Bodies, plan, unplan}
use Rattle.path_plan.specs.Whole.{whole_part, construction, destruction}
use Rattle.path_plan.specs.Pieces.{expand, Pending, pending, rest_of_plan}
use Rattle.path_plan.proofs.Pieces.{plan_pieces, unplan_pieces}
use Rattle.path_model.specs.States.{plan_bodies}
use Rattle.path_numbers.specs.Sizes.{sizes_of, total}
use Rattle.path_numbers.specs.Nodes.{Node, here}
use Rattle.path_numbers.specs.Heap.{root_at}
use Rattle.path_numbers.proofs.Sized.{sizes_are}
use Rattle.path_numbers.proofs.Heap.{heap_number, at_within}
use Rattle.path_heap.specs.declared.state.NumberedPart.{NumberedPart}
use Rattle.path_heap.specs.Points.{StandsForPart}
use Rattle.path_bodies.specs.declared.index.BodyIndex.{BodyIndex}
use Rattle.path_bodies.specs.Places.{IsIndexOf}
use Rattle.path_events.specs.declared.frame.Pending.{Pending as Frame}
use Rattle.path_events.specs.declared.frame.Step.{Step}
use Rattle.path_events.specs.declared.frame.Step.TheVariants.{Event as EventStep, Last as LastStep, Open as OpenStep}
use Rattle.path_events.specs.declared.plan.Plan.{Plan}
use Rattle.path_events.specs.declared.plan.PlanEvent.{PlanEvent}
use Rattle.path_events.specs.Frames.{StandsAs, left_of}
use Rattle.path_events.specs.Plans.{inner_of, IsEvent, begins_event, ending_event, EntryStands, EntriesStand, MeansNext, rest_events, PlanStands}
use Rattle.path_events.specs.invariants.Steps.{IsStep, left_at, GivesStep, first_event, first_stage, event_in, stack_behind}
use Rattle.path_events.proofs.Building.{built_first}
use Rattle.path_events.proofs.Ending.{ended_first}
use Rattle.path_events.proofs.Giving.{named}

-- the first event of a part, and what is left behind it
abbrev first_of : Bool → ObjectPart → PartEvent
first_of true p = Begin p
first_of false p = Ending p

first_means : (h : Classes) (program : TypedProgram) (classes : List ClassId) (b : Bool) (code : NumberedPart) (p : ObjectPart) → StandsForPart h classes code p → IsEvent h program classes (first_event b code) (first_of b p)
first_means h program classes true code p a = begins_event code p a
first_means h program classes false code p a = ending_event code p a

inner_first : (h : Classes) → IsHierarchy h → (bodies : Bodies) (b : Bool) (form : Form) (c : ClassId) (p : ObjectPart) → inner_of h bodies b form c p ≡ first_of b p ∷ flat_map (expand (inner_of h bodies b)) (left_of h bodies b form c p (first_stage b))
inner_first h keeps bodies true form c p = sym (plan_pieces h keeps bodies form c p) ∙ ap (flat_map (expand (plan h bodies))) (built_first h bodies form c p)
inner_first h keeps bodies false form c p = sym (unplan_pieces h keeps bodies form c p) ∙ ap (flat_map (expand (unplan h bodies))) (ended_first h bodies form c p)

-- the frames behind a step, and its event
record IsTaken (h : Classes) (program : TypedProgram) (classes : List ClassId) (b : Bool) (code : PlanEvent) (stack : List Frame) (events : List PartEvent) : Type 0 where
  frames : List Pending
  stand : EntriesStand h (plan_bodies program) b classes stack frames
  e : PartEvent
  means : IsEvent h program classes code e
  is : events ≡ e ∷ rest_of_plan (inner_of h (plan_bodies program) b) frames

made : (h : Classes) (program : TypedProgram) (classes : List ClassId) (new : Plan) (b : Bool) (code : PlanEvent) (stack : List Frame) (events : List PartEvent) → new.is_building ≡ b → new.upcoming ≡ Some code → reverse new.stack.items ≡ stack → IsTaken h program classes b code stack events → PlanStands h program classes new events
made h program classes new b code stack events building upcoming items taken = record {
  frames = taken.frames;
  stand = subst (λ x. EntriesStand h (plan_bodies program) x classes (reverse new.stack.items) taken.frames) (sym building) (subst (λ (s : List Frame). EntriesStand h (plan_bodies program) b classes s taken.frames) (sym items) taken.stand);
  first = subst (λ (o : Option PlanEvent). MeansNext h program classes o events) (sym upcoming) (subst (λ (es : List PartEvent). MeansNext h program classes (Some code) es) (sym taken.is) taken.means);
  rest = ap rest_events taken.is ∙ ap (λ x. rest_of_plan (inner_of h (plan_bodies program) x) taken.frames) (sym building);
}

taken_by : (h : Classes) → IsHierarchy h → (program : TypedProgram) (classes : List ClassId) (b : Bool) (frame : Frame) (below : List Frame) (f : Pending) (fs : List Pending) → EntryStands h (plan_bodies program) b classes frame f → EntriesStand h (plan_bodies program) b classes below fs
    → (step : Step) → IsStep h program classes (left_at h program b frame f.part) (left_at h program b frame f.part frame.stage) step → IsTaken h program classes b (event_in b step) (stack_behind b frame step below) (rest_of_plan (inner_of h (plan_bodies program) b) (f ∷ fs))
taken_by h keeps program classes b frame below f fs s r (LastStep code) is = record {
  frames = fs;
  stand = r;
  e = is.e;
  means = is.means;
  is = ap (λ l. flat_map (expand (inner_of h (plan_bodies program) b)) l ++ rest_of_plan (inner_of h (plan_bodies program) b) fs) (s.left ∙ is.is);
}
taken_by h keeps program classes b frame below f fs s r (EventStep code stage) is = record {
  frames = pending f.part (left_at h program b frame f.part stage) ∷ fs;
  stand = (record { stands = s.stands; left = refl }, r);
  e = is.e;
  means = is.means;
  is = ap (λ l. flat_map (expand (inner_of h (plan_bodies program) b)) l ++ rest_of_plan (inner_of h (plan_bodies program) b) fs) (s.left ∙ is.is);
}
taken_by h keeps program classes b frame below f fs s r (OpenStep kid form stage) is =
    let inner = inner_of h (plan_bodies program) b in
    let inside = left_of h (plan_bodies program) b form kid.class is.q (first_stage b) in
    let behind = left_at h program b frame f.part stage in
    record {
      frames = pending is.q inside ∷ (pending f.part behind ∷ fs);
      stand = (record { stands = is.stands; left = refl }, (record { stands = s.stands; left = refl }, r));
      e = first_of b is.q;
      means = first_means h program classes b kid is.q (named h classes kid form is.q is.stands);
      is = ap (λ l. flat_map (expand inner) l ++ rest_of_plan inner fs) (s.left ∙ is.is)
          ∙ (ap (λ t. (t ++ flat_map (expand inner) behind) ++ rest_of_plan inner fs) (inner_first h keeps (plan_bodies program) b form kid.class is.q)
          ∙ ap (λ t. first_of b is.q ∷ t) (append_assoc (flat_map (expand inner) inside) (flat_map (expand inner) behind) (rest_of_plan inner fs)));
    }

taken_from : (h : Classes) → IsHierarchy h → (program : TypedProgram) (index : BodyIndex) (classes : List ClassId) (b : Bool) (frame : Frame) (step : Step) (below : List Frame) (frames : List Pending) → IsIndexOf program index → GivesStep h index b frame frame.stage step
    → EntriesStand h (plan_bodies program) b classes (frame ∷ below) frames → IsTaken h program classes b (event_in b step) (stack_behind b frame step below) (rest_of_plan (inner_of h (plan_bodies program) b) frames)
taken_from h keeps program index classes b frame step below [] is gives stand = absurd stand
taken_from h keeps program index classes b frame step below (f ∷ fs) is gives stand = taken_by h keeps program classes b frame below f fs stand.0 stand.1 step (gives program classes f.part is stand.0.stands)

pub goes_on : (h : Classes) → IsHierarchy h → (program : TypedProgram) (index : BodyIndex) (classes : List ClassId) (old new : Plan) (frame : Frame) (step : Step) (left : List Frame) (e : PartEvent) (rest : List PartEvent) → IsIndexOf program index → PlanStands h program classes old (e ∷ rest)
    → old.stack.items ≡ left ++ frame ∷ [] → GivesStep h index old.is_building frame frame.stage step → new.is_building ≡ old.is_building → new.upcoming ≡ Some (event_in old.is_building step) → reverse new.stack.items ≡ stack_behind old.is_building frame step (reverse left) → PlanStands h program classes new rest
goes_on h keeps program index classes old new frame step left e rest is stands items gives building upcoming stack =
    let turned : reverse old.stack.items ≡ frame ∷ reverse left = ap reverse items ∙ reverse-append left (frame ∷ []) in
    let t = taken_from h keeps program index classes old.is_building frame step (reverse left) stands.frames is gives (subst (λ (s : List Frame). EntriesStand h (plan_bodies program) old.is_building classes s stands.frames) turned stands.stand) in
    made h program classes new old.is_building (event_in old.is_building step) (stack_behind old.is_building frame step (reverse left)) rest building upcoming stack
    (record { frames = t.frames; stand = t.stand; e = t.e; means = t.means; is = stands.rest ∙ t.is })

-- the last part has ended
no_frames : (h : Classes) (bodies : Bodies) (b : Bool) (classes : List ClassId) (frames : List Pending) → EntriesStand h bodies b classes [] frames → frames ≡ []
no_frames h bodies b classes [] s = refl
no_frames h bodies b classes (f ∷ frames) s = absurd s

over : (h : Classes) (program : TypedProgram) (classes : List ClassId) (new : Plan) (rest : List PartEvent) → new.upcoming ≡ None → new.stack.items ≡ [] → rest ≡ [] → PlanStands h program classes new rest
over h program classes new [] upcoming items e = record {
  frames = [];
  stand = subst (λ (s : List Frame). EntriesStand h (plan_bodies program) new.is_building classes (reverse s) []) (sym items) tt;
  first = subst (λ (o : Option PlanEvent). MeansNext h program classes o []) (sym upcoming) tt;
  rest = refl;
}
over h program classes new (x ∷ rest) upcoming items e = absurd (cc)

pub is_over : (h : Classes) (program : TypedProgram) (classes : List ClassId) (old new : Plan) (e : PartEvent) (rest : List PartEvent) → PlanStands h program classes old (e ∷ rest) → old.stack.items ≡ [] → new.upcoming ≡ None → new.stack.items ≡ [] → PlanStands h program classes new rest
is_over h program classes old new e rest stands empty upcoming items =
    let none = no_frames h (plan_bodies program) old.is_building classes stands.frames (subst (λ (s : List Frame). EntriesStand h (plan_bodies program) old.is_building classes (reverse s) stands.frames) empty stands.stand) in
    over h program classes new rest upcoming items (stands.rest ∙ ap (rest_of_plan (inner_of h (plan_bodies program) old.is_building)) none)

-- a new plan
whole_stands : (h : Classes) → IsHierarchy h → (classes : List ClassId) (k : ℕ) (whole : NumberedPart) → slice_get classes k ≡ Some whole.class → StandsForPart h classes whole (whole_part k whole.class) → total (sizes_of h InFull) classes ≤ 2 ^ 64 → StandsAs h classes whole InFull (whole_part k whole.class)
whole_stands h keeps classes k whole listed a few =
    let root = root_at (sizes_of h) classes k whole.class in
    let same : a.node ≡ root = heap_number h (sizes_of h) keeps classes a.node root a.at (record { object = k; class = whole.class; listed = listed; under = here root refl }) a.is_part in
    record {
      node = a.node;
      at = a.at;
      is_form = ap (λ (t : Node). t.form) same;
      is_part = a.is_part;
      is_number = a.is_number;
      is_class = a.is_class;
      owned = a.owned;
      room = let w = at_within h (sizes_of h) (sizes_are h keeps) classes a.node a.at in omega arith;
    }

chosen : (h : Classes) (bodies : Bodies) (b : Bool) (k : ℕ) (c : ClassId) → (if b then construction h bodies k c else destruction h bodies k c) ≡ inner_of h bodies b InFull c (whole_part k c)
chosen h bodies true k c = refl
chosen h bodies false k c = refl

pub new_stands : (h : Classes) → IsHierarchy h → (program : TypedProgram) (classes : List ClassId) (k : ℕ) (whole : NumberedPart) (b : Bool) (new : Plan) → slice_get classes k ≡ Some whole.class → StandsForPart h classes whole (whole_part k whole.class) → total (sizes_of h InFull) classes ≤ 2 ^ 64
    → new.is_building ≡ b → new.upcoming ≡ Some (first_event b whole) → reverse new.stack.items ≡ record { part = whole; form = InFull; stage = first_stage b } ∷ []
    → PlanStands h program classes new (if b then construction h (plan_bodies program) k whole.class else destruction h (plan_bodies program) k whole.class)
new_stands h keeps program classes k whole b new listed a few building upcoming stack =
    let inside = left_of h (plan_bodies program) b InFull whole.class (whole_part k whole.class) (first_stage b) in
    made h program classes new b (first_event b whole) (record { part = whole; form = InFull; stage = first_stage b } ∷ []) _ building upcoming stack (record {
      frames = pending (whole_part k whole.class) inside ∷ [];
      stand = (record { stands = whole_stands h keeps classes k whole listed a few; left = refl }, tt);
      e = first_of b (whole_part k whole.class);
      means = first_means h program classes b whole (whole_part k whole.class) a;
      is = chosen h (plan_bodies program) b k whole.class ∙ (inner_first h keeps (plan_bodies program) b InFull whole.class (whole_part k whole.class)
          ∙ ap (λ t. first_of b (whole_part k whole.class) ∷ t) (sym (append-nil (flat_map (expand (inner_of h (plan_bodies program) b)) inside))));
    })
