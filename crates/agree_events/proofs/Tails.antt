-- The end of a block of a plan, behind its own event: the parts that the event opens wait, or the plan of the part is at its end.
use Rattle.std.proofs.Common.{◌≡◌, Bool, true, false, Some, List, [], ◌∷◌, ◌++◌, refl, ap, subst, sym, ◌∙◌}
use Rattle.cxx_hierarchy.specs.declared.records.ClassId.{ClassId}
use Rattle.cxx_subobject.specs.Subobjects.{whole_of}
use Rattle.path_plan.specs.Places.{part}
use Rattle.path_plan.specs.Pieces.{Choice}
use Rattle.path_model.specs.States.{Planned, Frame as PathFrame}
use Rattle.code_blocks.specs.Blocks.{routine_start, next_place, openings_then, plan_return, plan_tail}
use Rattle.code_blocks.specs.Items.{Item, Does, Shares, Inherits, Holds}
use Rattle.code_ops.specs.Setups.{PlanCode}
use Rattle.byte_machine.specs.declared.turn.MachineTurn.{MachineTurn}
use Rattle.byte_machine.specs.declared.turn.MachineTurn.TheVariants.{Went}
use Rattle.byte_machine.specs.Frames.{MachineFrame}
use Rattle.byte_machine.specs.Running.{Running}
use Rattle.byte_machine.specs.Effects.{jumping}
use Rattle.byte_machine.specs.Leads.{OpsLead, HoldsOfAnswer}
use Rattle.byte_machine.proofs.Leads.{leads_end}
use Rattle.byte_machine.proofs.ControlLeads.{leads_jump}
use Rattle.agree_parts.specs.Heaps.{Heap}
use Rattle.agree_parts.specs.Placed.{AreObjectsLaid}
use Rattle.agree_parts.proofs.Made.{whole_owner}
use Rattle.agree_relation.specs.Worlds.{World, IsProgramWorld, world_classes, fixed}
use Rattle.agree_relation.specs.Goings.{Going, at_left, opened_goings, stack_in, AreGoing}
use Rattle.agree_relation.specs.Frames.{PlaceNumbers, awaits_body, IsHandedBy, IsPlanFrame, IsOuter, WaitInPlan}
use Rattle.agree_events.specs.Events.{RunsGoing}
use Rattle.agree_events.specs.Turns.{IsTopFrame}
use Rattle.agree_events.proofs.Left.{AreLeft}
use Rattle.agree_events.proofs.Opened.{Holding}
use Rattle.agree_events.proofs.Steps.{low_itself}
use Rattle.agree_events.proofs.Opens.{next_own, next_place_own, with_opened, leads_openings}
use Rattle.agree_events.proofs.Tops.{wait_of, top_moves}
use Rattle.agree_events.proofs.Returns.{leads_plan_return}

awaits_own : (left : List Item) → awaits_body (next_own left) ≡ awaits_body left
awaits_own [] = refl
awaits_own (Does k ∷ left) = refl
awaits_own (Shares v ∷ left) = awaits_own left
awaits_own (Inherits b ∷ left) = awaits_own left
awaits_own (Holds way m d n ∷ left) = awaits_own left

-- what an event of the frame's part reads of it
pub frame_runs : (w : World) (at : PlaceNumbers) (g : Heap) (f : Going) (left : List Item) (below : List Going) (b : MachineFrame) (holds : Holding w g.classes f below) → IsPlanFrame w at g (at_left f left) below b → RunsGoing w g f below holds.complete b
frame_runs w at g f left below b holds frame = record {
  size = frame.size;
  this = frame.this;
  handed = subst (λ (d : ClassId). IsHandedBy w g f.form f.class d f.part (stack_in below f.part.object f.part.owner) b.handed) same frame.handed;
}
  where
    same : frame.complete ≡ holds.complete
    same =
        let a = whole_owner (world_classes w) g (part f.part.object f.part.owner (whole_of frame.complete)) frame.complete frame.whole refl in
        let b = whole_owner (world_classes w) g (part f.part.object f.part.owner (whole_of holds.complete)) holds.complete holds.whole refl in
        let both : Some frame.complete ≡ Some holds.complete = sym a ∙ b in cc (both)

module _ (w : World) (at : PlaceNumbers) (world : IsProgramWorld w) (g : Heap) (laid : AreObjectsLaid (world_classes w) w.setup.rows g) (p : Planned) (path : List PathFrame) (under : List Going → List MachineFrame → Type 0) where
  some_left : (f : Going) (i : Item) (left : List Item) (stop bases : Bool) → Choice stop (i ∷ left ≡ []) (AreLeft w.setup f.course f.form f.class bases (i ∷ left)) → AreLeft w.setup f.course f.form f.class bases (i ∷ left)
  some_left f i left true bases none = absurd (cc)
  some_left f i left false bases are = are

  pub leads_tail : (Q : Running → MachineTurn → Type 0) (f : Going) (below : List Going) (r : Running) → r.opened ≡ [] → (holds : Holding w g.classes f below) → AreGoing w g.classes below → (left : List Item) (stop bases : Bool) → Choice stop (left ≡ []) (AreLeft w.setup f.course f.form f.class bases left)
      → IsTopFrame w at g p path under (at_left f left) below r.top r.below
      → ((above : List MachineFrame) (b : MachineFrame) (bs : List MachineFrame) → WaitInPlan w at g p path (opened_goings w f left below) (above ++ b ∷ bs) under → Q (record r { opened = above; top = b; below = bs }) Went)
      → (left ≡ [] → IsPlanFrame w at g (at_left f left) below r.top → IsOuter w g p (at_left f left) path r.top → under below r.below → OpsLead (fixed w) (plan_return f.course ∷ []) r (HoldsOfAnswer (fixed w) Q))
      → OpsLead (fixed w) (plan_tail w.setup at f.course f.form f.class left) r (HoldsOfAnswer (fixed w) Q)
  leads_tail Q f below r none holds are [] stop bases behind top go outer =
      leads_plan_return w at world g laid p path under Q (at_left f []) below r none holds.made are top
      (λ b bs wait. subst (λ (o : List MachineFrame). Q (record r { opened = o; top = b; below = bs }) Went) (sym none) (go [] b bs wait))
      (λ o rest. outer refl top.frame o rest)
  leads_tail Q f below r none holds are (i ∷ left) stop bases behind top go outer =
      let block = at (next_place f.course f.form f.class (i ∷ left)) in
      let there = jumping block r in
      let moved = top_moves w at g p path under (at_left f (i ∷ left)) (next_own (i ∷ left)) below r.top r.below r.top.registers block (λ e. sym (awaits_own (i ∷ left)) ∙ e) (low_itself w (PlanCode f.course f.form f.class) r.top.registers) top in
      leads_jump (fixed w) {s = r} block
      (subst (λ (o : List MachineFrame). OpsLead (fixed w) (openings_then w.setup (λ k. at (routine_start w.setup k)) f.course f.form f.class (i ∷ left) []) (with_opened there o) (HoldsOfAnswer (fixed w) Q)) (sym none)
      (leads_openings w at world g laid p path under f below (there.top ∷ r.below) holds there (frame_runs w at g f (i ∷ left) below there.top holds (record { size = top.frame.size; this = top.frame.this; untouched = λ e. top.frame.untouched e; start = top.frame.start; complete = top.frame.complete; whole = top.frame.whole; handed = top.frame.handed })) bases (i ∷ left)
      (some_left f i left stop bases behind) [] (HoldsOfAnswer (fixed w) Q)
      (wait_of w at g p path under (at_left f (next_own (i ∷ left))) below there.top r.below moved (ap at (sym (next_place_own f.course f.form f.class (i ∷ left)))))
      (λ above frames. leads_end (fixed w) (go above there.top r.below frames))))
