-- The end of a part's plan: the next element of its array is next, or the frame below goes on.
use Rattle.std.proofs.Common.{◌≡◌, inl, ⊎_elim, ℕ, zero, suc, ◌-◌, ◌<◌, ◌^◌, Option, Some, None, List, [], ◌∷◌, ◌++◌, length, refl, ap, subst, sym, ◌∙◌, arith}
use Rattle.std.specs.Prelude.{if◌then◌else◌}
use Rattle.path_plan.specs.declared.form.Form.TheVariants.{InFull}
use Rattle.path_model.specs.States.{Planned, Frame as PathFrame}
use Rattle.code_blocks.specs.Blocks.{routine_start, plan_return}
use Rattle.code_ops.specs.Setups.{PlanCode}
use Rattle.code_ops.specs.declared.routines.Course.{Course}
use Rattle.code_ops.specs.declared.routines.Course.TheVariants.{Constructs, Destroys, Deletes}
use Rattle.byte_code.specs.declared.op.Op.TheVariants.{Return as ReturnOp}
use Rattle.byte_machine.specs.declared.turn.MachineTurn.{MachineTurn}
use Rattle.byte_machine.specs.declared.turn.MachineTurn.TheVariants.{Went}
use Rattle.byte_machine.specs.Frames.{MachineFrame, Kept, next_element, register_of}
use Rattle.byte_machine.specs.Running.{Running, Returned, moved}
use Rattle.byte_machine.specs.Calls.{operand, result_moved, left_calls, moved_by_word}
use Rattle.byte_machine.specs.Leads.{OpsLead, HoldsOfAnswer}
use Rattle.byte_machine.proofs.Leads.{leads_end}
use Rattle.byte_machine.proofs.Registers.{length-entered, entered_this, register_inside}
use Rattle.byte_machine.proofs.ReturnLeads.{leads_return, leads_return_next, moved_result, untaken, classless}
use Rattle.agree_parts.specs.Heaps.{Heap}
use Rattle.agree_parts.specs.Placed.{AreObjectsLaid}
use Rattle.agree_parts.proofs.Inside.{part_positive, part_limit}
use Rattle.agree_relation.specs.Worlds.{World, IsProgramWorld, world_classes, fixed}
use Rattle.agree_relation.specs.Goings.{Going, going, IsGoing, AreGoing}
use Rattle.agree_relation.specs.Frames.{PlaceNumbers, IsPlanFrame, IsAtNext, AreElements, IsInner, IsOuter, WaitInPlan}
use Rattle.agree_events.specs.Turns.{IsTopFrame}
use Rattle.agree_events.proofs.Noted.{Made, at_part}
use Rattle.agree_events.proofs.Opens.{first_at, start_untouched}

-- a result to which nothing is added
pub result_stays : (w : World) (r : Running) (this : ℕ) → (this ≡ 0 → ⊥) → this < 2 ^ 41 → r.top.kept.vbase ≡ 0 → r.top.kept.add ≡ 0 → result_moved (fixed w) r (Some this) ≡ Some (Some this)
result_stays w r this some low vbase add =
    moved_result (fixed w) r this this some (ap (moved_by_word w.image r.memory this) vbase)
    ∙ (ap (λ n. Some (Some (moved this n))) add ∙ let none : moved this 0 ≡ this = omega arith in ap (λ n. Some (Some n)) none)

module _ (w : World) (at : PlaceNumbers) (world : IsProgramWorld w) (g : Heap) (laid : AreObjectsLaid (world_classes w) w.setup.rows g) (p : Planned) (path : List PathFrame) (under : List Going → List MachineFrame → Type 0) where
  abbrev element_at : Going → Going → Going
  element_at f next = going w f.course InFull f.class next.part

  -- the next element is run by the same frame, from its start
  next_frame : (f next : Going) (below gs : List Going) (b : MachineFrame) (n : ℕ) → IsPlanFrame w at g f below b → IsGoing w g.classes next gs → next ≡ element_at f next → f.form ≡ InFull → at_part w g next.part ≡ moved (at_part w g f.part) b.stride
      → IsPlanFrame w at g next gs (next_element b (moved (at_part w g f.part) b.stride) n)
  next_frame f next below gs b n frame is same full place =
      let some : 0 < length b.registers = register_inside b.registers 0 (at_part w g f.part) frame.this in
      subst (λ (h : Going). IsPlanFrame w at g h gs (next_element b (moved (at_part w g f.part) b.stride) n)) (sym same) (record {
        size = length-entered (length b.registers) (moved (at_part w g f.part) b.stride) [] some ∙ frame.size;
        this = entered_this (length b.registers) (moved (at_part w g f.part) b.stride) [] ∙ ap (λ k. Some k) (sym place);
        untouched = λ awaits. start_untouched w f.course InFull f.class (length b.registers) (moved (at_part w g f.part) b.stride);
        start = frame.start ∙ ap (λ form. at (routine_start w.setup (PlanCode f.course form f.class))) full;
        complete = is.complete;
        whole = is.whole;
        handed = tt;
      })

  next_at : (f next : Going) (below : List Going) (b : MachineFrame) (n : ℕ) → IsPlanFrame w at g f below b → next ≡ element_at f next → f.form ≡ InFull → IsAtNext w at next (next_element b (moved (at_part w g f.part) b.stride) n)
  next_at f next below b n frame same full = subst (λ (h : Going). IsAtNext w at h (next_element b (moved (at_part w g f.part) b.stride) n)) (sym same)
      (frame.start ∙ (ap (λ form. at (routine_start w.setup (PlanCode f.course form f.class))) full ∙ ap at (sym (first_at w world.hierarchy f.course InFull f.class))))

  next_waits : (f : Going) (below : List Going) (b : MachineFrame) (bs : List MachineFrame) (n : ℕ) → (top : IsTopFrame w at g p path under f below b bs) → b.again ≡ suc n → AreGoing w g.classes below → WaitInPlan w at g p path below (next_element b (moved (at_part w g f.part) b.stride) n ∷ bs) under
  next_waits f below b bs n top again are = by top.more (subst (λ k. AreElements w g f k b.stride top.more) again top.again) top.is
    where
      by : (more : List Going) → AreElements w g f (suc n) b.stride more → below ≡ more ++ top.rest → WaitInPlan w at g p path below (next_element b (moved (at_part w g f.part) b.stride) n ∷ bs) under
      by [] e is = absurd e
      by (next ∷ more) e is =
          let first = (subst (λ (gs : List Going). AreGoing w g.classes gs) is are).0 in (
            top.rest,
            (
              record {
                first = next;
                more = more;
                is = is;
                frame = next_frame f next below (more ++ top.rest) b n top.frame first e.0 e.1 e.2;
                next = next_at f next below b n top.frame e.0 e.1;
                again = record { elements = e.3 };
              },
              ⊎_elim (λ i. inl (record { kept = i.0.kept; is_call = i.0.is_call }, i.1)) (λ o. absurd (let off : 0 ≡ suc n = sym o.0.again ∙ again in cc (off))) top.kind,
            ),
          )

  -- the frame below goes on, where nobody takes a result
  leads_back : (Q : Running → MachineTurn → Type 0) (r : Running) (from word : Option ℕ) (taker : MachineFrame) (bs : List MachineFrame) → r.opened ≡ [] → r.top.again ≡ 0 → operand r from ≡ word → result_moved (fixed w) r word ≡ Some word → r.below ≡ taker ∷ bs → IsInner r.top
      → Q (record r { top = taker; below = bs }) Went → OpsLead (fixed w) (ReturnOp from None ∷ []) r (HoldsOfAnswer (fixed w) Q)
  leads_back Q r from word taker bs opened last operand_is moved_is below_is inner go =
      let same : left_calls r ≡ r.calls = ap (λ b. if b then r.calls - 1 else r.calls) inner.is_call in
      leads_return (fixed w) {s = r} from None word word taker taker bs (record { opened = opened; last = last; operand_is = operand_is }) (classless refl)
      (record { moved_is = moved_is; below_is = below_is; taker_is = untaken word r.top.kept.to taker (ap (λ (k : Kept). k.to) inner.kept) })
      (subst (λ (k : Kept). HoldsOfAnswer (fixed w) Q (record r { top = taker; below = bs; calls = left_calls r }) (Returned k.finish)) (sym inner.kept)
      (leads_end (fixed w) (subst (λ n. Q (record r { top = taker; below = bs; calls = n }) Went) (sym same) go)))

  leads_leave : (Q : Running → MachineTurn → Type 0) (course : Course) (r : Running) (this : ℕ) (taker : MachineFrame) (bs : List MachineFrame) → r.opened ≡ [] → r.top.again ≡ 0 → register_of r.top.registers 0 ≡ Some this → (this ≡ 0 → ⊥) → this < 2 ^ 41 → r.below ≡ taker ∷ bs → IsInner r.top
      → Q (record r { top = taker; below = bs }) Went → OpsLead (fixed w) (plan_return course ∷ []) r (HoldsOfAnswer (fixed w) Q)
  leads_leave Q Constructs r this taker bs opened last this_is some low below_is inner go = leads_back Q r (Some 0) (Some this) taker bs opened last this_is (result_stays w r this some low (ap (λ (k : Kept). k.vbase) inner.kept) (ap (λ (k : Kept). k.add) inner.kept)) below_is inner go
  leads_leave Q Destroys r this taker bs opened last this_is some low below_is inner go = leads_back Q r None None taker bs opened last refl refl below_is inner go
  leads_leave Q Deletes r this taker bs opened last this_is some low below_is inner go = leads_back Q r None None taker bs opened last refl refl below_is inner go

  leads_again : (Q : Running → MachineTurn → Type 0) (course : Course) (r : Running) (this n : ℕ) → r.opened ≡ [] → r.top.again ≡ suc n → register_of r.top.registers 0 ≡ Some this → Q (record r { top = next_element r.top (moved this r.top.stride) n }) Went → OpsLead (fixed w) (plan_return course ∷ []) r (HoldsOfAnswer (fixed w) Q)
  leads_again Q Constructs r this n opened again this_is go = leads_return_next (fixed w) {s = r} (Some 0) None n this opened again this_is (leads_end (fixed w) go)
  leads_again Q Destroys r this n opened again this_is go = leads_return_next (fixed w) {s = r} None None n this opened again this_is (leads_end (fixed w) go)
  leads_again Q Deletes r this n opened again this_is go = leads_return_next (fixed w) {s = r} None None n this opened again this_is (leads_end (fixed w) go)

  -- the return at the end of a plan; that of the heap object itself belongs to what waits for it
  pub leads_plan_return : (Q : Running → MachineTurn → Type 0) (f : Going) (below : List Going) (r : Running) → r.opened ≡ [] → Made w g f.part f.class → AreGoing w g.classes below → IsTopFrame w at g p path under f below r.top r.below
      → ((b : MachineFrame) (bs : List MachineFrame) → WaitInPlan w at g p path below (b ∷ bs) under → Q (record r { top = b; below = bs }) Went)
      → (IsOuter w g p f path r.top → under below r.below → OpsLead (fixed w) (plan_return f.course ∷ []) r (HoldsOfAnswer (fixed w) Q))
      → OpsLead (fixed w) (plan_return f.course ∷ []) r (HoldsOfAnswer (fixed w) Q)
  leads_plan_return Q f below r opened made are top go outer = by_again r.top.again refl
    where
      below_is : r.top.again ≡ 0 → below ≡ top.rest
      below_is last = let none : top.more ≡ [] = subst (λ k. AreElements w g f k r.top.stride top.more) last top.again in top.is ∙ ap (λ (gs : List Going). gs ++ top.rest) none

      by_below : r.top.again ≡ 0 → IsInner r.top → (bs : List MachineFrame) → r.below ≡ bs → WaitInPlan w at g p path top.rest bs under → OpsLead (fixed w) (plan_return f.course ∷ []) r (HoldsOfAnswer (fixed w) Q)
      by_below last inner [] e wait = absurd wait
      by_below last inner (b ∷ bs) e wait =
          let positive = part_positive (world_classes w) w.setup.rows g f.part f.class laid made in
          leads_leave Q f.course r (at_part w g f.part) b bs opened last top.frame.this (λ same. omega arith) (part_limit (world_classes w) w.setup.rows g f.part f.class laid made) e inner
          (go b bs (subst (λ (gs : List Going). WaitInPlan w at g p path gs (b ∷ bs) under) (sym (below_is last)) wait))

      by_again : (n : ℕ) → r.top.again ≡ n → OpsLead (fixed w) (plan_return f.course ∷ []) r (HoldsOfAnswer (fixed w) Q)
      by_again zero last = ⊎_elim (λ i. by_below last i.0 r.below refl i.1) (λ o. outer o.0 (subst (λ (gs : List Going). under gs r.below) (sym (below_is last)) o.1)) top.kind
      by_again (suc n) again = leads_again Q f.course r (at_part w g f.part) n opened again top.frame.this (go (next_element r.top (moved (at_part w g f.part) r.top.stride) n) r.below (next_waits f below r.top r.below n top again are))
