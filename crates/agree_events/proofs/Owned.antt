-- The parts of one plan, before those of the plans below it.
use Rattle.std.proofs.Common.{◌≡◌, inl, inr, ⊎_elim, ℕ, ◌+◌, ◌<◌, Bool, Option, Some, None, List, [], ◌∷◌, ◌++◌, length, map, append_assoc, refl, ap, sym, ◌∙◌, arith}
use Rattle.cxx_hierarchy.specs.declared.records.ClassId.{ClassId}
use Rattle.cxx_program.specs.declared.program.TypedBody.{TypedBody}
use Rattle.path_plan.specs.Places.{base_part, shared_part}
use Rattle.path_plan.specs.declared.form.Form.TheVariants.{AsBase}
use Rattle.path_plan.specs.Phases.{PartEvent}
use Rattle.path_model.specs.States.{Planned, Frame as PathFrame}
use Rattle.code_blocks.specs.Blocks.{base_course}
use Rattle.code_blocks.specs.Items.{Item, Does, Shares, Inherits, Holds, indices}
use Rattle.code_ops.specs.declared.routines.Course.{Course}
use Rattle.code_ops.specs.declared.routines.Course.TheVariants.{Constructs, Destroys, Deletes}
use Rattle.byte_machine.specs.Frames.{MachineFrame, Kept}
use Rattle.agree_parts.specs.Heaps.{Heap}
use Rattle.agree_relation.specs.Worlds.{World}
use Rattle.agree_relation.specs.Goings.{Going, going, element_going, opened_goings, builds, AreOf, events_left}
use Rattle.agree_relation.specs.Frames.{PlaceNumbers, KeepsObject, body_below, IsOuter, WaitInPlan, Behind}

pub opened_more : (w : World) (f : Going) (left : List Item) (gs below : List Going) → opened_goings w f left (gs ++ below) ≡ opened_goings w f left gs ++ below
opened_more w f [] gs below = refl
opened_more w f (Does k ∷ left) gs below = refl
opened_more w f (Shares v ∷ left) gs below = ap (λ (t : List Going). going w (base_course f.course) AsBase v (shared_part f.part v) ∷ t) (opened_more w f left gs below)
opened_more w f (Inherits b ∷ left) gs below = ap (λ (t : List Going). going w (base_course f.course) AsBase b.class (base_part f.part b) ∷ t) (opened_more w f left gs below)
opened_more w f (Holds way m d n ∷ left) gs below = ap (λ (t : List Going). map (element_going w f m d) (indices way n) ++ t) (opened_more w f left gs below) ∙ sym (append_assoc (map (element_going w f m d) (indices way n)) (opened_goings w f left gs) below)

-- all of one course

base_builds : (c : Course) → builds (base_course c) ≡ builds c
base_builds Constructs = refl
base_builds Destroys = refl
base_builds Deletes = refl

elements_of_course : (w : World) (f : Going) (m : ℕ) (d : ClassId) (b : Bool) (is : List ℕ) (gs : List Going) → builds f.course ≡ b → AreOf b gs → AreOf b (map (element_going w f m d) is ++ gs)
elements_of_course w f m d b [] gs e are = are
elements_of_course w f m d b (i ∷ is) gs e are = (base_builds f.course ∙ e, elements_of_course w f m d b is gs e are)

pub opened_of : (w : World) (f : Going) (b : Bool) (left : List Item) (gs : List Going) → builds f.course ≡ b → AreOf b gs → AreOf b (opened_goings w f left gs)
opened_of w f b [] gs e are = are
opened_of w f b (Does k ∷ left) gs e are = (e, are)
opened_of w f b (Shares v ∷ left) gs e are = (base_builds f.course ∙ e, opened_of w f b left gs e are)
opened_of w f b (Inherits c ∷ left) gs e are = (base_builds f.course ∙ e, opened_of w f b left gs e are)
opened_of w f b (Holds way m d n ∷ left) gs e are = elements_of_course w f m d b (indices way n) (opened_goings w f left gs) e (opened_of w f b left gs e are)

-- where an event is left, the first part is one of the plan
pub record OwnsFirst (f : Going) (tail own lower : List Going) : Type 0 where
  pub others : List Going
  pub own_is : own ≡ f ∷ others
  pub tail_is : tail ≡ others ++ lower

pub owns_first : (w : World) (f : Going) (tail own lower : List Going) (e : PartEvent) (es : List PartEvent) → f ∷ tail ≡ own ++ lower → e ∷ es ≡ events_left w own → OwnsFirst f tail own lower
owns_first w f tail [] lower e es is left = absurd (cc)
owns_first w f tail (g ∷ own) lower e es is left = let same : f ≡ g = cc (is) in let rest : tail ≡ own ++ lower = cc (is) in record { others = own; own_is = ap (λ (h : Going). h ∷ own) (sym same); tail_is = rest }

-- a plan that waits has parts of its own
longer : (xs ys : List Going) → length ys < length (xs ++ ys) + 1
longer [] ys = omega arith
longer (x ∷ xs) ys = let more = longer xs ys in omega arith

shorter : (f : Going) (more left gs : List Going) → gs ≡ f ∷ (more ++ left) → length left < length gs
shorter f more left gs e = let same : length gs ≡ length (f ∷ (more ++ left)) = ap length e in let more_long = longer more left in omega arith

pub some_own : (w : World) (at : PlaceNumbers) (g : Heap) (p : Planned) (path : List PathFrame) (lower : List Going) (rest : List Going → List MachineFrame → Type 0) (gs : List Going) (bs : List MachineFrame) → WaitInPlan w at g p path gs bs (Behind lower rest) → length lower < length gs
some_own w at g p path lower rest gs [] wait = absurd wait
some_own w at g p path lower rest gs (b ∷ bs) wait =
    let runs = wait.1.0 in
    let here = shorter runs.first runs.more wait.0 gs runs.is in
    ⊎_elim (λ i. let below = some_own w at g p path lower rest wait.0 bs i.1 in omega arith) (λ o. let same : length wait.0 ≡ length lower = ap length o.1.0 in omega arith) wait.1.1

-- a plan with other events left waits as before

abbrev pub with_events : Planned → List PartEvent → Planned
with_events p events = record { object = p.object; is_building = p.is_building; events = events; target = p.target }

keeps_same : (w : World) (p : Planned) (events : List PartEvent) (c : ClassId) (o : Option TypedBody) (kept : Kept) → KeepsObject w p c o kept → KeepsObject w (with_events p events) c o kept
keeps_same w p events c None kept e = e
keeps_same w p events c (Some body) kept e = e

pub outer_same : (w : World) (g : Heap) (p : Planned) (events : List PartEvent) (first : Going) (path : List PathFrame) (b : MachineFrame) → IsOuter w g p first path b → IsOuter w g (with_events p events) first path b
outer_same w g p events first path b o = record { is_call = o.is_call; again = o.again; class = o.class; made = o.made; part = o.part; keeps = keeps_same w p events o.class (body_below w path) b.kept o.keeps }

pub waits_same : (w : World) (at : PlaceNumbers) (g : Heap) (p : Planned) (events : List PartEvent) (path : List PathFrame) (rest : List Going → List MachineFrame → Type 0) (gs : List Going) (bs : List MachineFrame) → WaitInPlan w at g p path gs bs rest → WaitInPlan w at g (with_events p events) path gs bs rest
waits_same w at g p events path rest gs [] wait = absurd wait
waits_same w at g p events path rest gs (b ∷ bs) wait = (wait.0, (wait.1.0, ⊎_elim (λ i. inl (i.0, waits_same w at g p events path rest wait.0 bs i.1)) (λ o. inr (outer_same w g p events wait.1.0.first path b o.0, o.1)) wait.1.1))
