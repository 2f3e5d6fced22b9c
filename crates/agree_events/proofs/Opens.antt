-- The frames that a block opens run the parts that its event opens.
use Rattle.std.proofs.Common.{◌≡◌, inl, ℕ, zero, suc, ◌+◌, ◌<◌, Bool, true, Some, None, List, [], ◌∷◌, ◌++◌, length, map, refl, ap, subst, sym, ◌∙◌, arith}
use Rattle.cxx_hierarchy.specs.declared.records.ClassId.{ClassId}
use Rattle.cxx_hierarchy.specs.declared.records.FieldType.TheVariants.{Object}
use Rattle.cxx_hierarchy.specs.Hierarchies.{IsHierarchy}
use Rattle.cxx_hierarchy.specs.VirtualBases.{HasVirtualBase}
use Rattle.cxx_subobject.specs.declared.Subobject.{Subobject}
use Rattle.cxx_subobject.specs.Locations.{ObjectPart, IsElement}
use Rattle.foundation.proofs.Members.{Has}
use Rattle.path_plan.specs.Places.{part, base_part, shared_part, element}
use Rattle.path_plan.specs.declared.form.Form.{Form}
use Rattle.path_plan.specs.declared.form.Form.TheVariants.{InFull, AsBase}
use Rattle.path_model.specs.States.{Planned, Frame as PathFrame}
use Rattle.code_blocks.specs.Blocks.{AtEvent, items, base_course, routine_start, next_place, whose_of, hand_to, opening_of, openings_then}
use Rattle.code_blocks.specs.Items.{Item, Does, Shares, Inherits, Holds, indices, first_index}
use Rattle.code_blocks.specs.declared.items.Kind.{Kind}
use Rattle.code_blocks.specs.declared.items.Kind.TheVariants.{AtBegin, AtReady, AtInit, AtBody, AtDone, AtEnding, AtBases, AtEnd}
use Rattle.code_blocks.specs.declared.items.Way.{Way}
use Rattle.code_blocks.specs.declared.items.Way.TheVariants.{Forwards, Backwards}
use Rattle.code_ops.specs.Routines.{IsCourse}
use Rattle.code_ops.specs.Setups.{PlanCode}
use Rattle.code_ops.specs.declared.routines.Course.{Course}
use Rattle.abi_vtt.specs.Blocks.{block_distance, shared_distance}
use Rattle.byte_code.specs.declared.op.Op.{Op}
use Rattle.byte_code.specs.declared.op.Op.TheVariants.{Open}
use Rattle.byte_code.specs.declared.op.Opening.{Opening}
use Rattle.byte_machine.specs.declared.frames.Handed.{Handed}
use Rattle.byte_machine.specs.Frames.{MachineFrame, nothing_handed, entry_registers, register_of}
use Rattle.byte_machine.specs.Running.{Running, Stop, moved}
use Rattle.byte_machine.specs.Leads.{OpsLead}
use Rattle.byte_machine.specs.Plans.{handed_to, part_frame, vtt_of}
use Rattle.byte_machine.proofs.PlanLeads.{leads_open_none, leads_open_part, handed_base, handed_member}
use Rattle.byte_machine.proofs.Registers.{length-entered, entered_this, entered_unset}
use Rattle.agree_parts.specs.Heaps.{Heap}
use Rattle.agree_parts.specs.Placed.{AreObjectsLaid}
use Rattle.agree_parts.proofs.Made.{base_made, shared_made, element_is_made}
use Rattle.agree_parts.proofs.Sums.{to_base, to_shared, to_element}
use Rattle.agree_parts.proofs.Inside.{known_class}
use Rattle.agree_relation.specs.Worlds.{World, IsProgramWorld, world_classes, places_in, fixed}
use Rattle.agree_relation.specs.Goings.{Going, going, at_left, element_going, opened_goings, is_first_event, stack_in, StandsOnStack}
use Rattle.agree_relation.specs.Frames.{PlaceNumbers, IsHandedBy, AreUntouched, IsPlanFrame, IsAtNext, AreElements, IsInner, WaitInPlan}
use Rattle.agree_relation.proofs.Moved.{moved_to_part}
use Rattle.agree_events.specs.Events.{RunsGoing}
use Rattle.agree_events.proofs.Left.{AreLeft, plan_of}
use Rattle.agree_events.proofs.Stacks.{stack_opened}
use Rattle.agree_events.proofs.Opened.{Holding, over_itself, base_fits}
use Rattle.agree_events.proofs.Own.{whole_in}
use Rattle.agree_events.proofs.Noted.{Made, at_part}
use Rattle.agree_events.proofs.Handing.{IsSub, base_sub, shared_sub, handed_on, is_handed}
use Rattle.agree_events.proofs.Elements.{more_indices, indices_next, elements_wait}

-- a plan starts at its first event
starts_at : (course : Course) (form : Form) (c : ClassId) (k : Kind) (left : List Item) → is_first_event k ≡ true → next_place course form c (Does k ∷ left) ≡ AtEvent course form c (Does k ∷ left)
starts_at course form c AtBegin left e = refl
starts_at course form c AtReady left e = absurd (cc)
starts_at course form c (AtInit m) left e = absurd (cc)
starts_at course form c AtBody left e = absurd (cc)
starts_at course form c AtDone left e = absurd (cc)
starts_at course form c AtEnding left e = refl
starts_at course form c AtBases left e = absurd (cc)
starts_at course form c AtEnd left e = absurd (cc)

pub first_at : (w : World) → IsHierarchy (world_classes w) → (course : Course) (form : Form) (c : ClassId) → next_place course form c (items w.setup course form c) ≡ routine_start w.setup (PlanCode course form c)
first_at w keeps course form c = let plan = plan_of w.setup keeps course form c in subst (λ (xs : List Item). next_place course form c xs ≡ AtEvent course form c xs) (sym plan.is) (starts_at course form c plan.first plan.left plan.begins)

-- registers of a plan at its start
pub start_untouched : (w : World) (course : Course) (form : Form) (c : ClassId) (size this : ℕ) → AreUntouched w (PlanCode course form c) (entry_registers size this [])
start_untouched w course form c size this = record { unset = λ n inside. let next : suc n ≡ n + 1 = omega arith in subst (λ k. register_of (entry_registers size this []) k ≡ None) next (entered_unset size this [] n (omega arith)) }

pub some_registers : (w : World) → IsProgramWorld w → (course : Course) (form : Form) (c : ClassId) → c.0 < length (world_classes w) → IsCourse course form → 0 < w.code.registers
some_registers w world course form c known fits = let enough = world.lowered.registers.routine (PlanCode course form c) (known, fits) in omega arith

-- a frame of a part at its start
pub part_stands : (w : World) (at : PlaceNumbers) → IsProgramWorld w → (g : Heap) (course : Course) (form : Form) (c d : ClassId) (q : ObjectPart) (gs : List Going) (how : Opening) (this again : ℕ) (handed : Handed) → how.block ≡ at (routine_start w.setup (PlanCode course form c)) → this ≡ at_part w g q
    → c.0 < length (world_classes w) → IsCourse course form → Made w g (whole_in q d) d → IsHandedBy w g form c d q (stack_in gs q.object q.owner) handed → IsPlanFrame w at g (going w course form c q) gs (part_frame (fixed w) how this again handed)
part_stands w at world g course form c d q gs how this again handed block place known fits whole hands = record {
  size = length-entered w.code.registers this [] (some_registers w world course form c known fits);
  this = entered_this w.code.registers this [] ∙ ap (λ n. Some n) place;
  untouched = λ awaits. start_untouched w course form c w.code.registers this;
  start = block;
  complete = d;
  whole = whole;
  handed = hands;
}

pub part_next : (w : World) (at : PlaceNumbers) → IsHierarchy (world_classes w) → (course : Course) (form : Form) (c : ClassId) (q : ObjectPart) (how : Opening) (this again : ℕ) (handed : Handed) → how.block ≡ at (routine_start w.setup (PlanCode course form c)) → IsAtNext w at (going w course form c q) (part_frame (fixed w) how this again handed)
part_next w at keeps course form c q how this again handed block = block ∙ ap at (sym (first_at w keeps course form c))

-- the frame of one part
record IsOpened (w : World) (at : PlaceNumbers) (g : Heap) (how : Opening) (this : ℕ) (by : Handed) (f : Going) (gs : List Going) : Type 0 where
  handed : Handed
  hands : handed_to (fixed w) by this how.hand ≡ Some handed
  frame : IsPlanFrame w at g f gs (part_frame (fixed w) how (moved this how.place) 0 handed)
  next : IsAtNext w at f (part_frame (fixed w) how (moved this how.place) 0 handed)

abbrev base_opening : World → PlaceNumbers → Course → Form → ClassId → ClassId → ℕ → ℕ → Opening
base_opening w at course form c b distance place = record { place = place; block = at (routine_start w.setup (PlanCode (base_course course) AsBase b)); hand = Some (hand_to w.setup form c b distance); count = 1; stride = 0 }

base_opened : (w : World) (at : PlaceNumbers) → IsProgramWorld w → (g : Heap) → AreObjectsLaid (world_classes w) w.setup.rows g → (course : Course) (form : Form) (c d b : ClassId) (p : ObjectPart) (s : Subobject) (stack : List Subobject) (gs : List Going) (by : Handed) (distance place : ℕ)
    → Made w g p c → Made w g (whole_in p d) d → Made w g (part p.object p.owner s) b → StandsOnStack form c d p stack → IsHandedBy w g form c d p stack by → stack_in gs p.object p.owner ≡ p.at ∷ stack → at_part w g (part p.object p.owner s) ≡ at_part w g p + place
    → IsSub w d b s (hand_to w.setup form c b distance).vtt (vtt_of (fixed w) by (whose_of form) c.0)
    → IsOpened w at g (base_opening w at course form c b distance place) (at_part w g p) by (going w (base_course course) AsBase b (part p.object p.owner s)) gs
base_opened w at world g laid course form c d b p s stack gs by distance place made whole there stands is over_it sum sub =
    let how = base_opening w at course form c b distance place in
    let q = part p.object p.owner s in
    let handed = handed_on w form c p g sub.block by in
    record {
      handed = handed;
      hands = handed_base (fixed w) by (at_part w g p) sub.block how.hand (hand_to w.setup form c b distance) refl sub.is;
      frame = part_stands w at world g (base_course course) AsBase b d q gs how (moved (at_part w g p) place) 0 handed refl (moved_to_part (world_classes w) w.setup.rows g (at_part w g p) place q b laid there sum)
          (known_class (world_classes w) w.setup.rows g q b laid there) (base_fits course AsBase) whole
          (subst (λ (xs : List Subobject). IsHandedBy w g AsBase b d q xs handed) (sym over_it) (is_handed w g form c d b p s stack by sub.block made stands is sub.stands));
      next = part_next w at world.hierarchy (base_course course) AsBase b q how (moved (at_part w g p) place) 0 handed refl;
    }

shared_opened : (w : World) (at : PlaceNumbers) → IsProgramWorld w → (g : Heap) → AreObjectsLaid (world_classes w) w.setup.rows g → (course : Course) (form : Form) (c d v : ClassId) (p : ObjectPart) (stack : List Subobject) (gs : List Going) (by : Handed) → form ≡ InFull → HasVirtualBase (world_classes w) c v
    → Made w g p c → Made w g (whole_in p d) d → StandsOnStack form c d p stack → IsHandedBy w g form c d p stack by → stack_in gs p.object p.owner ≡ p.at ∷ stack
    → IsOpened w at g (opening_of w.setup (λ r. at (routine_start w.setup r)) course form c (Shares v)) (at_part w g p) by (going w (base_course course) AsBase v (shared_part p v)) gs
shared_opened w at world g laid course AsBase c d v p stack gs by full has made whole stands is over_it = absurd (cc)
shared_opened w at world g laid course InFull c d v p stack gs by full has made whole stands is over_it =
    base_opened w at world g laid course InFull c d v p (shared_part p v).at stack gs by (shared_distance (world_classes w) (places_in w) c v) ((places_in w).place c (shared_part p v).at) made whole (shared_made (world_classes w) g p c v made has) stands is over_it
    (to_shared (world_classes w) w.setup.rows g p c v made stands.1 has) (shared_sub w world c d v p by (known_class (world_classes w) w.setup.rows g p c laid made) stands.2 has)

-- one more frame, that repeats nothing
one_more : (w : World) (at : PlaceNumbers) (g : Heap) (p : Planned) (path : List PathFrame) (f : Going) (gs : List Going) (b : MachineFrame) (bs : List MachineFrame) (rest : List Going → List MachineFrame → Type 0) → IsPlanFrame w at g f gs b → IsAtNext w at f b → b.again ≡ 0 → IsInner b → WaitInPlan w at g p path gs bs rest
    → WaitInPlan w at g p path (f ∷ gs) (b ∷ bs) rest
one_more w at g p path f gs b bs rest frame next again inner wait =
    (gs, (record { first = f; more = []; is = refl; frame = frame; next = next; again = record { elements = subst (λ n. AreElements w g f n b.stride []) (sym again) refl } }, inl (inner, wait)))

-- the frame of an array
array_waits : (w : World) (at : PlaceNumbers) → IsProgramWorld w → (g : Heap) → AreObjectsLaid (world_classes w) w.setup.rows g → (p : Planned) (path : List PathFrame) (f : Going) (gs : List Going) (bs : List MachineFrame) (rest : List Going → List MachineFrame → Type 0) (way : Way) (m j : ℕ) (d : ClassId) → Made w g f.part f.class
    → ((i : ℕ) → Has (indices way (suc j)) i → IsElement (world_classes w) f.class m i (Object d)) → WaitInPlan w at g p path gs bs rest
    → WaitInPlan w at g p path (map (element_going w f m d) (indices way (suc j)) ++ gs) (part_frame (fixed w) (opening_of w.setup (λ r. at (routine_start w.setup r)) f.course f.form f.class (Holds way m d (suc j))) (moved (at_part w g f.part) (opening_of w.setup (λ r. at (routine_start w.setup r)) f.course f.form f.class (Holds way m d (suc j))).place) j nothing_handed ∷ bs) rest
array_waits w at world g laid p path f gs bs rest way m j d made each wait =
    let how = opening_of w.setup (λ r. at (routine_start w.setup r)) f.course f.form f.class (Holds way m d (suc j)) in
    let i = first_index way (suc j) in
    let here : IsElement (world_classes w) f.class m i (Object d) = each i (subst (λ (xs : List ℕ). Has xs i) (sym (indices_next way j)) (inl refl)) in
    let there = element_is_made (world_classes w) g f.part f.class d m i made here in
    let place = moved_to_part (world_classes w) w.setup.rows g (at_part w g f.part) how.place (element f.part m i d) d laid there (to_element (world_classes w) w.setup.rows g f.part f.class d m i made here) in
    let more = map (element_going w f m d) (more_indices way j) in (
      gs,
      (
        record {
          first = element_going w f m d i;
          more = more;
          is = ap (λ (xs : List ℕ). map (element_going w f m d) xs ++ gs) (indices_next way j);
          frame = part_stands w at world g (base_course f.course) InFull d d (element f.part m i d) (more ++ gs) how (moved (at_part w g f.part) how.place) j nothing_handed refl place (known_class (world_classes w) w.setup.rows g (element f.part m i d) d laid there) (base_fits f.course InFull) there tt;
          next = part_next w at world.hierarchy (base_course f.course) InFull d (element f.part m i d) how (moved (at_part w g f.part) how.place) j nothing_handed refl;
          again = record { elements = elements_wait w g laid f m d made way j each };
        },
        inl (record { kept = refl; is_call = refl }, wait),
      ),
    )

-- what is left from the next own event on
abbrev pub next_own : List Item → List Item
next_own [] = []
next_own (Does k ∷ left) = Does k ∷ left
next_own (Shares v ∷ left) = next_own left
next_own (Inherits b ∷ left) = next_own left
next_own (Holds way m d n ∷ left) = next_own left

pub next_place_own : (course : Course) (form : Form) (c : ClassId) (left : List Item) → next_place course form c (next_own left) ≡ next_place course form c left
next_place_own course form c [] = refl
next_place_own course form c (Does k ∷ left) = refl
next_place_own course form c (Shares v ∷ left) = next_place_own course form c left
next_place_own course form c (Inherits b ∷ left) = next_place_own course form c left
next_place_own course form c (Holds way m d n ∷ left) = next_place_own course form c left

-- ops run on with the frames that are opened
abbrev pub with_opened : Running → List MachineFrame → Running
with_opened r frames = record r { opened = frames }

pub leads_openings : (w : World) (at : PlaceNumbers) → IsProgramWorld w → (g : Heap) → AreObjectsLaid (world_classes w) w.setup.rows g → (p : Planned) (path : List PathFrame) (under : List Going → List MachineFrame → Type 0) (f : Going) (below : List Going) (me : List MachineFrame) → (holds : Holding w g.classes f below)
    → (r : Running) → RunsGoing w g f below holds.complete r.top → (bases : Bool) (left : List Item) → AreLeft w.setup f.course f.form f.class bases left → (rest : List Op) (P : Running → Stop → Type 0) → WaitInPlan w at g p path (at_left f (next_own left) ∷ below) me under
    → ((above : List MachineFrame) → WaitInPlan w at g p path (opened_goings w f left below) (above ++ me) under → OpsLead (fixed w) rest (with_opened r above) P)
    → OpsLead (fixed w) (openings_then w.setup (λ k. at (routine_start w.setup k)) f.course f.form f.class left rest) (with_opened r []) P
leads_openings w at world g laid p path under f below me holds r runs bases [] tail rest P wait go = absurd tail
leads_openings w at world g laid p path under f below me holds r runs bases (Does k ∷ left) tail rest P wait go = go [] wait
leads_openings w at world g laid p path under f below me holds r runs bases (Shares v ∷ left) tail rest P wait go =
    let gs = opened_goings w f left below in
    let how = opening_of w.setup (λ k. at (routine_start w.setup k)) f.course f.form f.class (Shares v) in
    let stack = stack_opened w world.hierarchy f bases left below tail.3 f.part.object f.part.owner ∙ over_itself f.part below in
    let new = shared_opened w at world g laid f.course f.form f.class holds.complete v f.part (stack_in below f.part.object f.part.owner) gs r.top.handed tail.1 tail.2 holds.made holds.whole holds.stands runs.handed stack in
    let b = part_frame (fixed w) how (moved (at_part w g f.part) how.place) 0 new.handed in
    leads_openings w at world g laid p path under f below me holds r runs bases left tail.3 (Open how ∷ rest) P wait
    (λ above frames. leads_open_part (fixed w) {s = with_opened r above} how (at_part w g f.part) 0 new.handed runs.this refl new.hands
    (go (b ∷ above) (one_more w at g p path (going w (base_course f.course) AsBase v (shared_part f.part v)) gs b (above ++ me) under new.frame new.next refl (record { kept = refl; is_call = refl }) frames)))
leads_openings w at world g laid p path under f below me holds r runs bases (Inherits b ∷ left) tail rest P wait go =
    let gs = opened_goings w f left below in
    let how = opening_of w.setup (λ k. at (routine_start w.setup k)) f.course f.form f.class (Inherits b) in
    let stack = stack_opened w world.hierarchy f bases left below tail.3 f.part.object f.part.owner ∙ over_itself f.part below in
    let known = known_class (world_classes w) w.setup.rows g f.part f.class laid holds.made in
    let new = base_opened w at world g laid f.course f.form f.class holds.complete b.class f.part (base_part f.part b).at (stack_in below f.part.object f.part.owner) gs r.top.handed (block_distance (world_classes w) (places_in w) f.class b.class) how.place
    holds.made holds.whole (base_made (world_classes w) g f.part f.class b holds.made tail.1) holds.stands runs.handed stack (to_base (world_classes w) w.setup.rows g f.part f.class b holds.made tail.1 tail.2)
    (base_sub w world g f.form f.class holds.complete f.part (stack_in below f.part.object f.part.owner) r.top.handed known holds.stands runs.handed b tail.1 tail.2) in
    let frame = part_frame (fixed w) how (moved (at_part w g f.part) how.place) 0 new.handed in
    leads_openings w at world g laid p path under f below me holds r runs bases left tail.3 (Open how ∷ rest) P wait
    (λ above frames. leads_open_part (fixed w) {s = with_opened r above} how (at_part w g f.part) 0 new.handed runs.this refl new.hands
    (go (frame ∷ above) (one_more w at g p path (going w (base_course f.course) AsBase b.class (base_part f.part b)) gs frame (above ++ me) under new.frame new.next refl (record { kept = refl; is_call = refl }) frames)))
leads_openings w at world g laid p path under f below me holds r runs bases (Holds way m d zero ∷ left) tail rest P wait go =
    let how = opening_of w.setup (λ k. at (routine_start w.setup k)) f.course f.form f.class (Holds way m d zero) in
    leads_openings w at world g laid p path under f below me holds r runs bases left tail.1 (Open how ∷ rest) P wait
    (λ above frames. leads_open_none (fixed w) {s = with_opened r above} how (at_part w g f.part) runs.this refl
    (go above (subst (λ (xs : List Going). WaitInPlan w at g p path xs (above ++ me) under) (sym (no_elements way)) frames)))
  where
    no_elements : (way : Way) → map (element_going w f m d) (indices way zero) ++ opened_goings w f left below ≡ opened_goings w f left below
    no_elements Forwards = refl
    no_elements Backwards = refl
leads_openings w at world g laid p path under f below me holds r runs bases (Holds way m d (suc j) ∷ left) tail rest P wait go =
    let how = opening_of w.setup (λ k. at (routine_start w.setup k)) f.course f.form f.class (Holds way m d (suc j)) in
    let b = part_frame (fixed w) how (moved (at_part w g f.part) how.place) j nothing_handed in
    leads_openings w at world g laid p path under f below me holds r runs bases left tail.1 (Open how ∷ rest) P wait
    (λ above frames. leads_open_part (fixed w) {s = with_opened r above} how (at_part w g f.part) j nothing_handed runs.this refl (handed_member (fixed w) r.top.handed (at_part w g f.part) None refl)
    (go (b ∷ above) (array_waits w at world g laid p path f (opened_goings w f left below) (above ++ me) under way m j d holds.made tail.0 frames)))
