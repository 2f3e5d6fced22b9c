-- The side of the plan keeps its shape at each own event of the top frame.
use Rattle.std.proofs.Common.{◌≡◌, ℕ, Bool, true, false, ◌&&◌, List, [], ◌∷◌, ◌++◌, map, refl, ap, subst, sym, ◌∙◌}
use Rattle.std.specs.Prelude.{if◌then◌else◌}
use Rattle.std.specs.List.{Contains}
use Rattle.cxx_hierarchy.specs.declared.records.ClassId.{ClassId}
use Rattle.cxx_hierarchy.specs.Classes.{Classes}
use Rattle.cxx_hierarchy.specs.Hierarchies.{IsHierarchy}
use Rattle.cxx_subobject.specs.declared.Subobject.{Subobject}
use Rattle.cxx_subobject.specs.Locations.{Step, ObjectPart}
use Rattle.foundation.proofs.Truth.{split}
use Rattle.foundation.proofs.Places.{contains_first, contains_later}
use Rattle.path_plan.specs.Places.{part, base_part, shared_part, same_complete_object}
use Rattle.path_plan.specs.Phases.{InBases, ReadyBuilding, Complete, ReadyEnding, EndingBases, Ended, Phases, phases_after, is_in_bases, is_running}
use Rattle.path_plan.specs.Views.{Fits}
use Rattle.path_plan.specs.declared.form.Form.{Form}
use Rattle.path_plan.specs.declared.form.Form.TheVariants.{InFull, AsBase}
use Rattle.path_plan.specs.Pieces.{Choice}
use Rattle.path_plan.proofs.Same.{put_same, put_other}
use Rattle.code_blocks.specs.Items.{Item, Does, Shares, Inherits, Holds, indices, event_of}
use Rattle.code_blocks.specs.Lowered.{IsEnd}
use Rattle.code_blocks.specs.declared.items.Kind.{Kind}
use Rattle.code_blocks.specs.declared.items.Kind.TheVariants.{AtBegin, AtReady, AtInit, AtBody, AtDone, AtEnding, AtBases, AtEnd}
use Rattle.agree_relation.specs.Worlds.{World, world_classes}
use Rattle.agree_relation.specs.Goings.{Going, at_left, element_going, opened_goings, is_first_event, stops, has_begun, stack_in, IsGoing, AreGoing, WaitsIn, AllWaitIn, IsInStep, ArePlanned}
use Rattle.agree_events.proofs.Parts.{part_at}
use Rattle.agree_events.proofs.InStep.{Once, below_top, event_in_step}
use Rattle.agree_events.proofs.Left.{AreLeft, Behind, IsAt, opens_bases, at_event}
use Rattle.agree_events.proofs.Stacks.{over, stack_opened, stack_step}
use Rattle.agree_events.proofs.Opened.{Holding, over_itself, end_next, going_opened}

-- no other part changes its phase
pub event_phase : (s : Phases) (k : Kind) (p q : ObjectPart) → (p ≡ q → ⊥) → (phases_after s (event_of k p)).phase q ≡ s.phase q
event_phase s AtBegin p q differ = put_other s.phase p InBases q differ
event_phase s AtReady p q differ = put_other s.phase p ReadyBuilding q differ
event_phase s (AtInit m) p q differ = refl
event_phase s AtBody p q differ = refl
event_phase s AtDone p q differ = put_other s.phase p Complete q differ
event_phase s AtEnding p q differ = put_other s.phase p ReadyEnding q differ
event_phase s AtBases p q differ = put_other s.phase p EndingBases q differ
event_phase s AtEnd p q differ = put_other s.phase p Ended q differ

-- where bases are opened the part is in its bases
bases_phase : (s : Phases) (k : Kind) (p : ObjectPart) → opens_bases k ≡ true → is_in_bases ((phases_after s (event_of k p)).phase p) ≡ true
bases_phase s AtBegin p e = ap is_in_bases (put_same s.phase p InBases)
bases_phase s AtReady p e = absurd (cc)
bases_phase s (AtInit m) p e = absurd (cc)
bases_phase s AtBody p e = absurd (cc)
bases_phase s AtDone p e = absurd (cc)
bases_phase s AtEnding p e = absurd (cc)
bases_phase s AtBases p e = ap is_in_bases (put_same s.phase p EndingBases)
bases_phase s AtEnd p e = absurd (cc)

pub idle_before : (h : Classes) (s : Phases) (k : Kind) (p : ObjectPart) → is_first_event k ≡ true → Fits h s (event_of k p) → is_running (s.phase p) ≡ false
idle_before h s AtBegin p e fits = ap is_running fits
idle_before h s AtReady p e fits = absurd (cc)
idle_before h s (AtInit m) p e fits = absurd (cc)
idle_before h s AtBody p e fits = absurd (cc)
idle_before h s AtDone p e fits = absurd (cc)
idle_before h s AtEnding p e fits = ap is_running fits
idle_before h s AtBases p e fits = absurd (cc)
idle_before h s AtEnd p e fits = absurd (cc)

pub begun_stack : (f : Going) (k : Kind) (left : List Item) (below : List Going) (i : ℕ) (o : List Step) → is_first_event k ≡ false → stack_in (at_left f (Does k ∷ left) ∷ below) i o ≡ over f.part below i o
begun_stack f k left below i o e = rw e refl

pub waiting_stack : (f : Going) (k : Kind) (left : List Item) (below : List Going) (i : ℕ) (o : List Step) → is_first_event k ≡ true → stack_in (at_left f (Does k ∷ left) ∷ below) i o ≡ stack_in below i o
waiting_stack f k left below i o e = rw e refl

-- the part of the event is none of those that have begun below
pub below_differ : (s : Phases) (f : Going) (k : Kind) (left : List Item) (below : List Going) → IsInStep s → ((i : ℕ) (o : List Step) → s.running i o ≡ stack_in (at_left f (Does k ∷ left) ∷ below) i o) → (is_first_event k ≡ true → is_running (s.phase f.part) ≡ false)
    → (y : Subobject) → Contains (stack_in below f.part.object f.part.owner) y → f.part.at ≡ y → ⊥
below_differ s f k left below keeps are idle y has same = split (is_first_event k) (λ b. is_first_event k ≡ b → ⊥)
    (λ _ e. let off = idle e in
    let on = keeps.runs f.part.object f.part.owner f.part.at (subst (λ (xs : List Subobject). Contains xs f.part.at) (sym (are f.part.object f.part.owner ∙ waiting_stack f k left below f.part.object f.part.owner e)) (subst (λ (z : Subobject). Contains (stack_in below f.part.object f.part.owner) z) (sym same) has)) in
    cc)
    (λ _ e. let stack = are f.part.object f.part.owner ∙ (begun_stack f k left below f.part.object f.part.owner e ∙ over_itself f.part below) in
    below_top (f.part.at ∷ stack_in below f.part.object f.part.owner) f.part.at y refl (subst (λ (xs : List Subobject). Once xs) stack (keeps.once f.part.object f.part.owner)) has same)
    refl

-- frames below wait on
abbrev Keeps : Phases → Phases → List Going → Type 0
Keeps s s' fs = (k : ℕ) (o : List Step) (y : Subobject) → Contains (stack_in fs k o) y → s'.phase (part k o y) ≡ s.phase (part k o y)

pub has_more : (f : Going) (fs : List Going) (k : ℕ) (o : List Step) (y : Subobject) → Contains (stack_in fs k o) y → Contains (stack_in (f ∷ fs) k o) y
has_more f fs k o y has = split (has_begun f.left && same_complete_object f.part.object f.part.owner k o) (λ b. Contains (if b then f.part.at ∷ stack_in fs k o else stack_in fs k o) y) (λ e. contains_later f.part.at (stack_in fs k o) y has) (λ e. has)

waits_in_stay : (s s' : Phases) (form : Form) (p : ObjectPart) (stack : List Subobject) → ((y : Subobject) → Contains stack y → s'.phase (part p.object p.owner y) ≡ s.phase (part p.object p.owner y)) → WaitsIn s form p stack → WaitsIn s' form p stack
waits_in_stay s s' InFull p stack same waits = tt
waits_in_stay s s' AsBase p [] same waits = absurd waits
waits_in_stay s s' AsBase p (y ∷ rest) same waits = ap is_in_bases (same y (contains_first y rest)) ∙ waits

waits_stay : (s s' : Phases) (fs : List Going) → Keeps s s' fs → AllWaitIn s fs → AllWaitIn s' fs
waits_stay s s' [] same waits = tt
waits_stay s s' (f ∷ fs) same waits = (
  waits_in_stay s s' f.form f.part (stack_in fs f.part.object f.part.owner) (λ y has. same f.part.object f.part.owner y (has_more f fs f.part.object f.part.owner y has)) waits.0,
  waits_stay s s' fs (λ k o y has. same k o y (has_more f fs k o y has)) waits.1,
)

waits_elements : (w : World) (s : Phases) (f : Going) (m : ℕ) (d : ClassId) (is : List ℕ) (gs : List Going) → AllWaitIn s gs → AllWaitIn s (map (element_going w f m d) is ++ gs)
waits_elements w s f m d [] gs waits = waits
waits_elements w s f m d (i ∷ is) gs waits = (tt, waits_elements w s f m d is gs waits)

-- a base that p opens waits for p
base_waits : (s : Phases) (p q : ObjectPart) (stack rest : List Subobject) → stack ≡ p.at ∷ rest → q.object ≡ p.object → q.owner ≡ p.owner → is_in_bases (s.phase p) ≡ true → WaitsIn s AsBase q stack
base_waits s p q stack rest e object owner on = subst (λ (xs : List Subobject). WaitsIn s AsBase q xs) (sym e) ((λ i. is_in_bases (s.phase (part (object i) (owner i) p.at))) ∙ on)

waits_opened : (w : World) → IsHierarchy (world_classes w) → (s : Phases) (f : Going) (below : List Going) (bases : Bool) (left : List Item) → AreLeft w.setup f.course f.form f.class bases left → (bases ≡ true → is_in_bases (s.phase f.part) ≡ true)
    → WaitsIn s f.form f.part (stack_in below f.part.object f.part.owner) → AllWaitIn s below → AllWaitIn s (opened_goings w f left below)
waits_opened w keeps s f below bases [] tail on here waits = absurd tail
waits_opened w keeps s f below bases (Does k ∷ left) tail on here waits = (here, waits)
waits_opened w keeps s f below bases (Shares v ∷ left) tail on here waits = (
  base_waits s f.part (shared_part f.part v) (stack_in (opened_goings w f left below) f.part.object f.part.owner) (stack_in below f.part.object f.part.owner) (stack_opened w keeps f bases left below tail.3 f.part.object f.part.owner ∙ over_itself f.part below) refl refl (on tail.0),
  waits_opened w keeps s f below bases left tail.3 on here waits,
)
waits_opened w keeps s f below bases (Inherits b ∷ left) tail on here waits = (
  base_waits s f.part (base_part f.part b) (stack_in (opened_goings w f left below) f.part.object f.part.owner) (stack_in below f.part.object f.part.owner) (stack_opened w keeps f bases left below tail.3 f.part.object f.part.owner ∙ over_itself f.part below) refl refl (on tail.0),
  waits_opened w keeps s f below bases left tail.3 on here waits,
)
waits_opened w keeps s f below bases (Holds way m d n ∷ left) tail on here waits = waits_elements w s f m d (indices way n) (opened_goings w f left below) (waits_opened w keeps s f below bases left tail.1 on here waits)

-- the event that is next, and what is behind it
pub at_next : (w : World) → IsHierarchy (world_classes w) → (classes : List ClassId) (f : Going) (k : Kind) (left : List Item) (below : List Going) → IsGoing w classes (at_left f (Does k ∷ left)) below → IsAt w.setup f.course f.form f.class k left
at_next w keeps classes f k left below going = at_event w.setup keeps f.course f.form f.class k left going.ends

pub holding_of : (w : World) (classes : List ClassId) (f : Going) (left : List Item) (below : List Going) → IsGoing w classes (at_left f left) below → Holding w classes f below
holding_of w classes f left below going = record { made = going.made; complete = going.complete; whole = going.whole; course = going.course; deep = going.deep; stands = going.stands }

-- what is opened when the event is not the last, and what is left when it is
going_step : (w : World) → IsHierarchy (world_classes w) → (classes : List ClassId) (f : Going) (k : Kind) (left : List Item) (below : List Going) → Holding w classes f below → IsEnd w.setup f.course f.form f.class left → Behind w.setup f.course f.form f.class k left → AreGoing w classes below
    → AreGoing w classes (opened_goings w f left below)
going_step w keeps classes f k left below holds end behind are = split (stops k) (λ b. Choice b (left ≡ []) (AreLeft w.setup f.course f.form f.class (opens_bases k) left) → AreGoing w classes (opened_goings w f left below))
    (λ _ t. subst (λ (xs : List Item). AreGoing w classes (opened_goings w f xs below)) (sym t) are)
    (λ _ t. going_opened w keeps classes f below holds are (opens_bases k) left end t) behind

waits_step : (w : World) → IsHierarchy (world_classes w) → (s : Phases) (f : Going) (k : Kind) (left : List Item) (below : List Going) → Behind w.setup f.course f.form f.class k left → (opens_bases k ≡ true → is_in_bases (s.phase f.part) ≡ true)
    → WaitsIn s f.form f.part (stack_in below f.part.object f.part.owner) → AllWaitIn s below → AllWaitIn s (opened_goings w f left below)
waits_step w keeps s f k left below behind on here waits = split (stops k) (λ b. Choice b (left ≡ []) (AreLeft w.setup f.course f.form f.class (opens_bases k) left) → AllWaitIn s (opened_goings w f left below))
    (λ _ t. subst (λ (xs : List Item). AllWaitIn s (opened_goings w f xs below)) (sym t) waits)
    (λ _ t. waits_opened w keeps s f below (opens_bases k) left t on here waits) behind

-- where an event that starts finds its part at rest, and what runs stays in step
planned_by : (w : World) → IsHierarchy (world_classes w) → (classes : List ClassId) (s : Phases) (f : Going) (k : Kind) (left : List Item) (below : List Going) → ArePlanned w classes s (at_left f (Does k ∷ left) ∷ below) → (is_first_event k ≡ true → is_running (s.phase f.part) ≡ false)
    → IsInStep (phases_after s (event_of k f.part)) → ArePlanned w classes (phases_after s (event_of k f.part)) (opened_goings w f left below)
planned_by w keeps classes s f k left below planned idle in_step =
    let going = planned.going.0 in
    let behind = (at_next w keeps classes f k left below going).behind in
    let holds = holding_of w classes f (Does k ∷ left) below going in
    let differ : (i : ℕ) (o : List Step) (y : Subobject) → Contains (stack_in below i o) y → f.part ≡ part i o y → ⊥ =
    λ i o y has same. below_differ s f k left below planned.in_step planned.stack idle y (subst (λ (q : ObjectPart). Contains (stack_in below q.object q.owner) y) (sym same) has) (part_at f.part i o y same) in
    let stay : Keeps s (phases_after s (event_of k f.part)) below = λ i o y has. event_phase s k f.part (part i o y) (differ i o y has) in
    record {
      going = going_step w keeps classes f k left below holds (end_next w f.course f.form f.class (Does k) left going.ends) behind planned.going.1;
      waits = waits_step w keeps (phases_after s (event_of k f.part)) f k left below behind (bases_phase s k f.part)
          (waits_in_stay s (phases_after s (event_of k f.part)) f.form f.part (stack_in below f.part.object f.part.owner) (λ y has. stay f.part.object f.part.owner y has) planned.waits.0)
          (waits_stay s (phases_after s (event_of k f.part)) below stay planned.waits.1);
      stack = stack_step w keeps s f k left below behind planned.stack;
      in_step = in_step;
    }

-- an own event that fits
pub planned_step : (w : World) → IsHierarchy (world_classes w) → (classes : List ClassId) (s : Phases) (f : Going) (k : Kind) (left : List Item) (below : List Going) → ArePlanned w classes s (at_left f (Does k ∷ left) ∷ below) → Fits (world_classes w) s (event_of k f.part)
    → ArePlanned w classes (phases_after s (event_of k f.part)) (opened_goings w f left below)
planned_step w keeps classes s f k left below planned fits = planned_by w keeps classes s f k left below planned (λ e. idle_before (world_classes w) s k f.part e fits) (event_in_step (world_classes w) s (event_of k f.part) planned.in_step fits)

-- behind a body
pub planned_body : (w : World) → IsHierarchy (world_classes w) → (classes : List ClassId) (s : Phases) (f : Going) (left : List Item) (below : List Going) → ArePlanned w classes s (at_left f (Does AtBody ∷ left) ∷ below) → ArePlanned w classes s (opened_goings w f left below)
planned_body w keeps classes s f left below planned = planned_by w keeps classes s f AtBody left below planned (λ e. absurd (cc)) planned.in_step
