-- What stands for the frames of a state stands for them in a heap that has grown.
use Rattle.std.proofs.Common.{◌≡◌, ℕ, zero, suc, Bool, true, false, Option, Some, None, List, [], ◌∷◌, ◌++◌, ⊎_elim, inl, inr, refl, ap, sym, ◌∙◌, subst}
use Rattle.std.specs.Prelude.{◌&&◌, if◌then◌else◌}
use Rattle.foundation.proofs.Truth.{split}
use Rattle.cxx_hierarchy.specs.declared.records.ClassId.{ClassId}
use Rattle.cxx_subobject.specs.declared.Subobject.{Subobject}
use Rattle.cxx_subobject.specs.Subobjects.{whole_of}
use Rattle.cxx_subobject.specs.Locations.{Step, ObjectPart}
use Rattle.cxx_program.specs.declared.program.Owner.{Owner}
use Rattle.cxx_program.specs.declared.program.Owner.TheVariants.{Main, Function, Constructor, Destructor}
use Rattle.path_plan.specs.Places.{part, same_complete_object}
use Rattle.path_plan.specs.declared.form.Form.{Form}
use Rattle.path_plan.specs.declared.form.Form.TheVariants.{InFull, AsBase}
use Rattle.path_plan.proofs.Same.{owner_same}
use Rattle.path_model.proofs.TypedViews.{both_right}
use Rattle.path_model.specs.States.{RunningBody as Body, Planned, Frame as PathFrame, InBody, InPlan}
use Rattle.path_model.specs.TypedStates.{IsPartMade}
use Rattle.code_ops.specs.Setups.{Routine, MainCode, FunctionCode, PlanCode}
use Rattle.byte_machine.specs.Frames.{MachineFrame}
use Rattle.byte_machine.specs.Running.{moved}
use Rattle.byte_machine.specs.declared.frames.Handed.{Handed}
use Rattle.agree_parts.specs.Heaps.{Heap}
use Rattle.agree_relation.specs.Worlds.{World, world_classes}
use Rattle.agree_relation.specs.Goings.{Going, at_left, has_begun, stack_in, AreGoing}
use Rattle.agree_relation.specs.Frames.{PlaceNumbers, HasVariables, IsInBody, IsBodyFrame, IsHandedBy, IsPlanFrame, AreElements, RunsFirst, IsOuter, WaitInPlan, RunsBody, Behind, StandInPlan, BodyStandsOver, StandOver}
use Rattle.agree_objects.specs.Grown.{HeapGrows, HoldsTypedValues, AreHeld}

-- the first subobject on a stack is a part
first_made : (w : World) (classes : List ClassId) (fs : List Going) (k : ℕ) (o : List Step) (y : Subobject) (rest : List Subobject) → AreGoing w classes fs → stack_in fs k o ≡ y ∷ rest → (c : ClassId) × IsPartMade (world_classes w) classes (part k o y) c
first_made w classes [] k o y rest are e = absurd (cc)
first_made w classes (f ∷ fs) k o y rest are e = split (has_begun f.left && same_complete_object f.part.object f.part.owner k o)
    (λ b. (has_begun f.left && same_complete_object f.part.object f.part.owner k o) ≡ b → (if b then f.part.at ∷ stack_in fs k o else stack_in fs k o) ≡ y ∷ rest → (c : ClassId) × IsPartMade (world_classes w) classes (part k o y) c)
    (λ begun _ here.
    let at : f.part.at ≡ y = cc (here) in
    let one = owner_same f.part.object f.part.owner k o (both_right (has_begun f.left) (same_complete_object f.part.object f.part.owner k o) begun) in
    let same : f.part ≡ part k o y = λ i. part (one.0 i) (one.1 i) (at i) in
    (f.class, subst (λ (p : ObjectPart). IsPartMade (world_classes w) classes p f.class) same are.0.made))
    (λ _ _ later. first_made w classes fs k o y rest are.1 later) refl e

-- the parts behind some are going too
going_behind : (w : World) (classes : List ClassId) (xs ys : List Going) → AreGoing w classes (xs ++ ys) → AreGoing w classes ys
going_behind w classes [] ys are = are
going_behind w classes (x ∷ xs) ys are = going_behind w classes xs ys are.1

module _ (w : World) (at : PlaceNumbers) (g g' : Heap) (grows : HeapGrows w g g') where
  part_grown : (p : ObjectPart) (c : ClassId) → IsPartMade (world_classes w) g.classes p c → IsPartMade (world_classes w) g'.classes p c
  part_grown p c m = record { class = m.class; made = grows.object p.object m.class m.made; inside = m.inside; of_class = m.of_class }

  -- bodies

  pub variables_grown : (f : Body) (registers : List (Option ℕ)) → HoldsTypedValues (world_classes w) g.classes f → HasVariables w g f registers → HasVariables w g' f registers
  variables_grown f registers held a = record {
    size = a.size;
    this = a.this ∙ sym (grows.word f.this held.this.0 held.this.1);
    local = λ n v there. let typed = held.local n v there in a.local n v there ∙ sym (grows.word v typed.0 typed.1);
    spare = a.spare;
  }

  body_grown : (r : Routine) (f : Body) (b : MachineFrame) → HoldsTypedValues (world_classes w) g.classes f → IsInBody w at g r f b → IsInBody w at g' r f b
  body_grown r f b held a = record { variables = variables_grown f b.registers held a.variables; block = a.block }

  body_frame_grown : (r : Routine) (counts : Bool) (f : Body) (below : List PathFrame) (b : MachineFrame) → HoldsTypedValues (world_classes w) g.classes f → IsBodyFrame w at g r counts f below b → IsBodyFrame w at g' r counts f below b
  body_frame_grown r counts f below b held a = record { body = body_grown r f b held a.body; again = a.again; is_call = a.is_call; keeps = a.keeps }

  -- plans

  handed_grown : (form : Form) (c d : ClassId) (p : ObjectPart) (stack : List Subobject) (handed : Handed) → IsPartMade (world_classes w) g.classes (part p.object p.owner (whole_of d)) d
      → ((y : Subobject) (rest : List Subobject) → stack ≡ y ∷ rest → (e : ClassId) × IsPartMade (world_classes w) g.classes (part p.object p.owner y) e) → IsHandedBy w g form c d p stack handed → IsHandedBy w g' form c d p stack handed
  handed_grown InFull c d p stack handed whole around a = tt
  handed_grown AsBase c d p [] handed whole around a = absurd a
  handed_grown AsBase c d p (y ∷ rest) handed whole around a =
      let outer = around y rest refl in
      record {
        owner = a.owner ∙ sym (grows.same (part p.object p.owner (whole_of d)) d whole);
        owner_class = a.owner_class;
        outer = a.outer ∙ sym (grows.same (part p.object p.owner y) outer.0 outer.1);
        class = a.class;
        of = a.of;
        outer_class = a.outer_class;
        vtt = a.vtt;
      }

  frame_grown : (f : Going) (below : List Going) (b : MachineFrame) → IsPartMade (world_classes w) g.classes f.part f.class → AreGoing w g.classes below → IsPlanFrame w at g f below b → IsPlanFrame w at g' f below b
  frame_grown f below b made are a = record {
    size = a.size;
    this = a.this ∙ ap (λ n. Some n) (sym (grows.same f.part f.class made));
    untouched = a.untouched;
    start = a.start;
    complete = a.complete;
    whole = part_grown (part f.part.object f.part.owner (whole_of a.complete)) a.complete a.whole;
    handed = handed_grown f.form f.class a.complete f.part (stack_in below f.part.object f.part.owner) b.handed a.whole (λ y rest e. first_made w g.classes below f.part.object f.part.owner y rest are e) a.handed;
  }

  elements_grown : (f : Going) (n stride : ℕ) (more rest : List Going) → IsPartMade (world_classes w) g.classes f.part f.class → AreGoing w g.classes (more ++ rest) → AreElements w g f n stride more → AreElements w g' f n stride more
  elements_grown f zero stride more rest made are e = e
  elements_grown f (suc n) stride [] rest made are e = absurd e
  elements_grown f (suc n) stride (next ∷ more) rest made are e = (
    e.0,
    e.1,
    grows.same next.part next.class are.0.made ∙ (e.2 ∙ ap (λ a. moved a stride) (sym (grows.same f.part f.class made))),
    elements_grown next n stride more rest are.0.made are.1 e.3,
  )

  outer_grown : (p : Planned) (first : Going) (below : List PathFrame) (b : MachineFrame) → IsOuter w g p first below b → IsOuter w g' p first below b
  outer_grown p first below b a = record { is_call = a.is_call; again = a.again; class = a.class; made = grows.object p.object a.class a.made; part = a.part; keeps = a.keeps }

  runs_grown : (gs : List Going) (b : MachineFrame) (rest : List Going) → AreGoing w g.classes gs → RunsFirst w at g gs b rest → RunsFirst w at g' gs b rest
  runs_grown gs b rest are a =
      let going = subst (λ (fs : List Going). AreGoing w g.classes fs) a.is are in
      record {
        first = a.first;
        more = a.more;
        is = a.is;
        frame = frame_grown a.first (a.more ++ rest) b going.0.made going.1 a.frame;
        next = a.next;
        again = record { elements = elements_grown a.first b.again b.stride a.more rest going.0.made going.1 a.again.elements };
      }

  body_runs_grown : (f : Body) (gs : List Going) (b : MachineFrame) (rest : List Going) → HoldsTypedValues (world_classes w) g.classes f → AreGoing w g.classes gs → RunsBody w at g f gs b rest → RunsBody w at g' f gs b rest
  body_runs_grown f gs b rest held are a =
      let going = subst (λ (fs : List Going). AreGoing w g.classes fs) a.is are in
      record {
        first = a.first;
        more = a.more;
        is = a.is;
        left = a.left;
        at_body = a.at_body;
        owner = a.owner;
        frame = frame_grown (at_left a.first []) (a.more ++ rest) b going.0.made going.1 a.frame;
        body = body_grown (PlanCode a.first.course a.first.form a.first.class) f b held a.body;
        again = record { elements = elements_grown a.first b.again b.stride a.more rest going.0.made going.1 a.again.elements };
      }

  -- what stands below stands there too
  abbrev Still : (List Going → List MachineFrame → Type 0) → (List Going → List MachineFrame → Type 0) → Type 0
  Still rest rest' = (left : List Going) (frames : List MachineFrame) → AreGoing w g.classes left → rest left frames → rest' left frames

  wait_grown : (p : Planned) (below : List PathFrame) (gs : List Going) (bs : List MachineFrame) (rest rest' : List Going → List MachineFrame → Type 0) → Still rest rest' → AreGoing w g.classes gs → WaitInPlan w at g p below gs bs rest → WaitInPlan w at g' p below gs bs rest'
  unfolding runs_grown
  wait_grown p below gs [] rest rest' still are a = absurd a
  wait_grown p below gs (b ∷ bs) rest rest' still are a =
      let runs = a.1.0 in
      let left = going_behind w g.classes (runs.first ∷ runs.more) a.0 (subst (λ (fs : List Going). AreGoing w g.classes fs) runs.is are) in
      (a.0, (runs_grown gs b a.0 are runs, ⊎_elim (λ i. inl (i.0, wait_grown p below a.0 bs rest rest' still left i.1)) (λ o. inr (outer_grown p runs.first below b o.0, still a.0 bs left o.1)) a.1.1))

  behind_grown : (lower : List Going) (rest rest' : List Going → List MachineFrame → Type 0) → Still rest rest' → Still (Behind lower rest) (Behind lower rest')
  behind_grown lower rest rest' still left frames are a = (a.0, still left frames are a.1)

  plan_grown : (body : Option Body) (p : Planned) (below : List PathFrame) (gs : List Going) (bs : List MachineFrame) (rest rest' : List Going → List MachineFrame → Type 0) → Still rest rest' → ((f : Body) → body ≡ Some f → HoldsTypedValues (world_classes w) g.classes f) → AreGoing w g.classes gs
      → StandInPlan w at g body p below gs bs rest → StandInPlan w at g' body p below gs bs rest'
  unfolding body_runs_grown
  plan_grown None p below gs bs rest rest' still held are a = (a.0, wait_grown p below gs bs (Behind a.0.lower rest) (Behind a.0.lower rest') (behind_grown a.0.lower rest rest' still) are a.1)
  plan_grown (Some f) p below gs [] rest rest' still held are a = absurd a
  plan_grown (Some f) p below gs (b ∷ bs) rest rest' still held are a =
      let parts = a.1.0 in
      let left = a.1.1.0 in
      let runs = a.1.1.1.0 in
      let going = going_behind w g.classes (runs.first ∷ runs.more) left (subst (λ (fs : List Going). AreGoing w g.classes fs) runs.is are) in
      let more = behind_grown parts.lower rest rest' still in (
        a.0,
        (
          parts,
          (
            left,
            (
              body_runs_grown f gs b left (held f refl) are runs,
              ⊎_elim (λ i. inl (i.0, wait_grown p below left bs (Behind parts.lower rest) (Behind parts.lower rest') more going i.1)) (λ o. inr (outer_grown p runs.first below b o.0, more left bs going o.1)) a.1.1.1.1,
            ),
          ),
        ),
      )

  bodies_grown : (f : Body) (owner : Owner) (below : List PathFrame) (rest rest' plan plan' : List Going → List MachineFrame → Type 0) (gs : List Going) (bs : List MachineFrame) → Still rest rest' → Still plan plan' → HoldsTypedValues (world_classes w) g.classes f → AreGoing w g.classes gs
      → BodyStandsOver w at g f owner below rest plan gs bs → BodyStandsOver w at g' f owner below rest' plan' gs bs
  bodies_grown f Main below rest rest' plan plan' gs [] still still_plan held are a = absurd a
  bodies_grown f Main below rest rest' plan plan' gs (b ∷ bs) still still_plan held are a = (body_frame_grown MainCode false f below b held a.0, still gs bs are a.1)
  bodies_grown f (Function n) below rest rest' plan plan' gs [] still still_plan held are a = absurd a
  bodies_grown f (Function n) below rest rest' plan plan' gs (b ∷ bs) still still_plan held are a = (body_frame_grown (FunctionCode n) true f below b held a.0, still gs bs are a.1)
  bodies_grown f (Constructor c) below rest rest' plan plan' gs bs still still_plan held are a = still_plan gs bs are a
  bodies_grown f (Destructor c) below rest rest' plan plan' gs bs still still_plan held are a = still_plan gs bs are a

  -- the frames of a state
  pub stand_grown : (body : Option Body) (frames : List PathFrame) → ((f : Body) → body ≡ Some f → HoldsTypedValues (world_classes w) g.classes f) → AreHeld (world_classes w) g.classes frames → Still (StandOver w at g body frames) (StandOver w at g' body frames)
  stand_grown None [] held all gs bs are a = a
  stand_grown (Some f) [] held all gs bs are a = absurd a
  stand_grown None (InBody f ∷ below) held all gs bs are a =
      bodies_grown f f.owner below (StandOver w at g None below) (StandOver w at g' None below) (StandOver w at g (Some f) below) (StandOver w at g' (Some f) below) gs bs
      (stand_grown None below held all.1) (stand_grown (Some f) below (λ e same. subst (λ (x : Body). HoldsTypedValues (world_classes w) g.classes x) (let there : Some f ≡ Some e = same in cc) all.0) all.1) all.0 are a
  stand_grown (Some e) (InBody f ∷ below) held all gs bs are a = absurd a
  stand_grown None (InPlan p ∷ below) held all gs bs are a = plan_grown None p below gs bs (StandOver w at g None below) (StandOver w at g' None below) (stand_grown None below held all) held are a
  stand_grown (Some f) (InPlan p ∷ below) held all gs bs are a = plan_grown (Some f) p below gs bs (StandOver w at g None below) (StandOver w at g' None below) (stand_grown None below (λ e none. absurd (let off : None ≡ Some e = none in cc)) all) held are a
