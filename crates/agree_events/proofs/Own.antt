-- The view of the complete object of an event's part, before the event and after it.
use Rattle.std.proofs.Common.{◌≡◌, true, false, Some, None, List, ◌∷◌, refl, ap, subst, sym, ◌∙◌}
use Rattle.std.specs.Prelude.{if◌then◌else◌}
use Rattle.std.specs.List.{Contains}
use Rattle.cxx_hierarchy.specs.declared.records.ClassId.{ClassId}
use Rattle.cxx_hierarchy.specs.Classes.{Classes}
use Rattle.cxx_subobject.specs.declared.Subobject.{Subobject}
use Rattle.cxx_subobject.specs.Subobjects.{whole_of}
use Rattle.cxx_subobject.specs.Locations.{ObjectPart}
use Rattle.path_plan.specs.Places.{part}
use Rattle.path_plan.specs.Phases.{Phase, Raw, InBases, ReadyBuilding, Complete, ReadyEnding, EndingBases, Ended, is_half, Phases, phases_after, is_complete, is_ready, top_subobject, rest_of, is_in_bases, is_running}
use Rattle.path_plan.specs.Views.{view, Fits, IsOnTop}
use Rattle.path_plan.specs.declared.form.Form.{Form}
use Rattle.path_plan.specs.declared.form.Form.TheVariants.{InFull, AsBase}
use Rattle.path_plan.proofs.Same.{put_same, pushed_same, popped_same}
use Rattle.code_blocks.specs.Items.{Item, Does, event_of}
use Rattle.code_blocks.specs.declared.items.Kind.{Kind}
use Rattle.code_blocks.specs.declared.items.Kind.TheVariants.{AtBegin, AtReady, AtInit, AtBody, AtDone, AtEnding, AtBases, AtEnd}
use Rattle.agree_relation.specs.Worlds.{World, world_classes}
use Rattle.agree_relation.specs.Goings.{Going, at_left, is_first_event, stops, StandsOnStack}
use Rattle.agree_events.specs.Events.{IsOwnEvent, complete_of, stack_below}
use Rattle.agree_events.proofs.Opened.{over_itself}
use Rattle.agree_events.proofs.Planned.{event_phase, below_differ, idle_before, has_more, begun_stack}

pub running_open : (v : Phase) → is_running v ≡ true → is_complete v ≡ false
running_open Raw e = refl
running_open InBases e = refl
running_open ReadyBuilding e = refl
running_open Complete e = absurd (cc)
running_open ReadyEnding e = refl
running_open EndingBases e = refl
running_open Ended e = refl

pub half_open : (v : Phase) → is_half v ≡ true → is_complete v ≡ false
half_open Raw e = refl
half_open InBases e = refl
half_open ReadyBuilding e = refl
half_open Complete e = absurd (cc)
half_open ReadyEnding e = refl
half_open EndingBases e = refl
half_open Ended e = refl

pub bases_unready : (v : Phase) → is_in_bases v ≡ true → is_ready v ≡ false
bases_unready Raw e = refl
bases_unready InBases e = refl
bases_unready ReadyBuilding e = absurd (cc)
bases_unready Complete e = absurd (cc)
bases_unready ReadyEnding e = absurd (cc)
bases_unready EndingBases e = refl
bases_unready Ended e = refl

-- the whole of the complete object, of class d, to which a part belongs
abbrev pub whole_in : ObjectPart → ClassId → ObjectPart
whole_in p d = part p.object p.owner (whole_of d)

-- a complete object is its own whole
pub whole_same : (c d : ClassId) (p : ObjectPart) (stack : List Subobject) → StandsOnStack InFull c d p stack → whole_in p d ≡ p
whole_same c d p stack stands = ap (λ (at : Subobject). part p.object p.owner at) (sym (stands.1 ∙ ap whole_of (sym stands.2)))

-- where the whole is open: a base's whole runs, and a complete object is itself not complete
pub whole_open : (s : Phases) (form : Form) (c d : ClassId) (p : ObjectPart) (stack : List Subobject) → StandsOnStack form c d p stack → ((y : Subobject) → Contains stack y → is_running (s.phase (part p.object p.owner y)) ≡ true)
    → is_complete (s.phase p) ≡ false → is_complete (s.phase (whole_in p d)) ≡ false
whole_open s InFull c d p stack stands runs is_open = ap (λ (q : ObjectPart). is_complete (s.phase q)) (whole_same c d p stack stands) ∙ is_open
whole_open s AsBase c d p stack stands runs is_open = running_open (s.phase (whole_in p d)) (runs (whole_of d) stands)

-- and runs
pub whole_runs : (s : Phases) (form : Form) (c d : ClassId) (p : ObjectPart) (stack : List Subobject) → StandsOnStack form c d p stack → ((y : Subobject) → Contains stack y → is_running (s.phase (part p.object p.owner y)) ≡ true)
    → is_running (s.phase p) ≡ true → is_running (s.phase (whole_in p d)) ≡ true
whole_runs s InFull c d p stack stands runs on = ap (λ (q : ObjectPart). is_running (s.phase q)) (whole_same c d p stack stands) ∙ on
whole_runs s AsBase c d p stack stands runs on = runs (whole_of d) stands

-- while the whole is open the view is on top
pub view_on_top : (s : Phases) (p : ObjectPart) (d : ClassId) → is_complete (s.phase (whole_in p d)) ≡ false → view s p.object p.owner d ≡ top_subobject (s.running p.object p.owner)
view_on_top s p d e = rw e refl

-- the phase of p before and after
open_before : (h : Classes) (s : Phases) (k : Kind) (p : ObjectPart) → is_first_event k ≡ false → Fits h s (event_of k p) → is_complete (s.phase p) ≡ false
open_before h s AtBegin p e fits = absurd (cc)
open_before h s AtReady p e fits = ap is_complete fits.0
open_before h s (AtInit m) p e fits = half_open (s.phase p) fits.0
open_before h s AtBody p e fits = half_open (s.phase p) fits.0
open_before h s AtDone p e fits = ap is_complete fits.0
open_before h s AtEnding p e fits = absurd (cc)
open_before h s AtBases p e fits = ap is_complete fits.0
open_before h s AtEnd p e fits = ap is_complete fits.0

top_before : (h : Classes) (s : Phases) (k : Kind) (p : ObjectPart) → is_first_event k ≡ false → Fits h s (event_of k p) → IsOnTop s p
top_before h s AtBegin p e fits = absurd (cc)
top_before h s AtReady p e fits = fits.1
top_before h s (AtInit m) p e fits = fits.1
top_before h s AtBody p e fits = fits.1
top_before h s AtDone p e fits = fits.1
top_before h s AtEnding p e fits = absurd (cc)
top_before h s AtBases p e fits = fits.1
top_before h s AtEnd p e fits = fits.1

open_after : (h : Classes) (s : Phases) (k : Kind) (p : ObjectPart) → stops k ≡ false → Fits h s (event_of k p) → is_complete ((phases_after s (event_of k p)).phase p) ≡ false
open_after h s AtBegin p e fits = ap is_complete (put_same s.phase p InBases)
open_after h s AtReady p e fits = ap is_complete (put_same s.phase p ReadyBuilding)
open_after h s (AtInit m) p e fits = half_open (s.phase p) fits.0
open_after h s AtBody p e fits = half_open (s.phase p) fits.0
open_after h s AtDone p e fits = absurd (cc)
open_after h s AtEnding p e fits = ap is_complete (put_same s.phase p ReadyEnding)
open_after h s AtBases p e fits = ap is_complete (put_same s.phase p EndingBases)
open_after h s AtEnd p e fits = absurd (cc)

top_after : (h : Classes) (s : Phases) (k : Kind) (p : ObjectPart) → stops k ≡ false → Fits h s (event_of k p) → IsOnTop (phases_after s (event_of k p)) p
top_after h s AtBegin p e fits = ap top_subobject (pushed_same s.running p)
top_after h s AtReady p e fits = fits.1
top_after h s (AtInit m) p e fits = fits.1
top_after h s AtBody p e fits = fits.1
top_after h s AtDone p e fits = absurd (cc)
top_after h s AtEnding p e fits = ap top_subobject (pushed_same s.running p)
top_after h s AtBases p e fits = fits.1
top_after h s AtEnd p e fits = absurd (cc)

pub below_runs : (w : World) (classes : List ClassId) (s : Phases) (f : Going) (k : Kind) (left : List Item) (below : List Going) → IsOwnEvent w classes s f k left below → (y : Subobject) → Contains (stack_below f below) y → is_running (s.phase (part f.part.object f.part.owner y)) ≡ true
below_runs w classes s f k left below event y has = event.planned.in_step.runs f.part.object f.part.owner y
    (subst (λ (xs : List Subobject). Contains xs y) (sym (event.planned.stack f.part.object f.part.owner)) (has_more (at_left f (Does k ∷ left)) below f.part.object f.part.owner y has))

pub below_same : (w : World) (classes : List ClassId) (s : Phases) (f : Going) (k : Kind) (left : List Item) (below : List Going) → IsOwnEvent w classes s f k left below → (y : Subobject) → Contains (stack_below f below) y → (phases_after s (event_of k f.part)).phase (part f.part.object f.part.owner y) ≡ s.phase (part f.part.object f.part.owner y)
below_same w classes s f k left below event y has = event_phase s k f.part (part f.part.object f.part.owner y)
    (λ same. below_differ s f k left below event.planned.in_step event.planned.stack (λ e. idle_before (world_classes w) s k f.part e event.fits) y has (ap (λ (q : ObjectPart). q.at) same))

pub below_runs_after : (w : World) (classes : List ClassId) (s : Phases) (f : Going) (k : Kind) (left : List Item) (below : List Going) → IsOwnEvent w classes s f k left below → (y : Subobject) → Contains (stack_below f below) y → is_running ((phases_after s (event_of k f.part)).phase (part f.part.object f.part.owner y)) ≡ true
below_runs_after w classes s f k left below event y has = ap is_running (below_same w classes s f k left below event y has) ∙ below_runs w classes s f k left below event y has

-- before an event that is not the first the part is the view
pub view_before : (w : World) (classes : List ClassId) (s : Phases) (f : Going) (k : Kind) (left : List Item) (below : List Going) → (event : IsOwnEvent w classes s f k left below) → is_first_event k ≡ false → view s f.part.object f.part.owner (complete_of event) ≡ Some f.part.at
view_before w classes s f k left below event e =
    view_on_top s f.part (complete_of event) (whole_open s f.form f.class (complete_of event) f.part (stack_below f below) event.planned.going.0.stands (below_runs w classes s f k left below event) (open_before (world_classes w) s k f.part e event.fits))
    ∙ top_before (world_classes w) s k f.part e event.fits

-- after an event that is not the last it is, too
pub view_after : (w : World) (classes : List ClassId) (s : Phases) (f : Going) (k : Kind) (left : List Item) (below : List Going) → (event : IsOwnEvent w classes s f k left below) → stops k ≡ false → view (phases_after s (event_of k f.part)) f.part.object f.part.owner (complete_of event) ≡ Some f.part.at
view_after w classes s f k left below event e =
    let s' = phases_after s (event_of k f.part) in
    view_on_top s' f.part (complete_of event) (whole_open s' f.form f.class (complete_of event) f.part (stack_below f below) event.planned.going.0.stands (below_runs_after w classes s f k left below event) (open_after (world_classes w) s k f.part e event.fits))
    ∙ top_after (world_classes w) s k f.part e event.fits

stack_now : (w : World) (classes : List ClassId) (s : Phases) (f : Going) (k : Kind) (left : List Item) (below : List Going) → IsOwnEvent w classes s f k left below → is_first_event k ≡ false → s.running f.part.object f.part.owner ≡ f.part.at ∷ stack_below f below
stack_now w classes s f k left below event e = event.planned.stack f.part.object f.part.owner ∙ (begun_stack f k left below f.part.object f.part.owner e ∙ over_itself f.part below)

-- after the last event of a base the view is the subobject around
pub base_view_after : (w : World) (classes : List ClassId) (s : Phases) (f : Going) (k : Kind) (left : List Item) (below : List Going) → (event : IsOwnEvent w classes s f k left below) → is_first_event k ≡ false → StandsOnStack AsBase f.class (complete_of event) f.part (stack_below f below)
    → (phases_after s (event_of k f.part)).running f.part.object f.part.owner ≡ rest_of (s.running f.part.object f.part.owner)
    → view (phases_after s (event_of k f.part)) f.part.object f.part.owner (complete_of event) ≡ top_subobject (stack_below f below)
base_view_after w classes s f k left below event e stands popped =
    let s' = phases_after s (event_of k f.part) in
    view_on_top s' f.part (complete_of event) (running_open (s'.phase (whole_in f.part (complete_of event))) (below_runs_after w classes s f k left below event (whole_of (complete_of event)) stands))
    ∙ ap top_subobject (popped ∙ ap rest_of (stack_now w classes s f k left below event e))

-- after the last event of the destruction of a complete object it has none
pub ended_view : (w : World) (classes : List ClassId) (s : Phases) (f : Going) (left : List Item) (below : List Going) → (event : IsOwnEvent w classes s f AtEnd left below) → StandsOnStack InFull f.class (complete_of event) f.part (stack_below f below)
    → view (phases_after s (event_of AtEnd f.part)) f.part.object f.part.owner (complete_of event) ≡ None
ended_view w classes s f left below event stands =
    let s' = phases_after s (event_of AtEnd f.part) in
    view_on_top s' f.part (complete_of event) (ap (λ (q : ObjectPart). is_complete (s'.phase q)) (whole_same f.class (complete_of event) f.part (stack_below f below) stands) ∙ ap is_complete (put_same s.phase f.part Ended))
    ∙ ap top_subobject (popped_same s.running f.part ∙ (ap rest_of (stack_now w classes s f AtEnd left below event refl) ∙ stands.0))

-- after its construction it is its own view
pub done_view : (w : World) (classes : List ClassId) (s : Phases) (f : Going) (left : List Item) (below : List Going) → (event : IsOwnEvent w classes s f AtDone left below) → StandsOnStack InFull f.class (complete_of event) f.part (stack_below f below)
    → view (phases_after s (event_of AtDone f.part)) f.part.object f.part.owner (complete_of event) ≡ Some f.part.at
done_view w classes s f left below event stands =
    let s' = phases_after s (event_of AtDone f.part) in
    let complete : is_complete (s'.phase (whole_in f.part (complete_of event))) ≡ true = ap (λ (q : ObjectPart). is_complete (s'.phase q)) (whole_same f.class (complete_of event) f.part (stack_below f below) stands) ∙ ap is_complete (put_same s.phase f.part Complete) in
    (λ i. if complete i then Some (whole_of (complete_of event)) else top_subobject (s'.running f.part.object f.part.owner)) ∙ ap (λ (y : Subobject). Some y) (sym (stands.1 ∙ ap whole_of (sym stands.2)))
