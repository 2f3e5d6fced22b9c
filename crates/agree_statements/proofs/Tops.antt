-- The frame on top runs a body: it goes on with other locals, registers and another next statement.
use Rattle.std.proofs.Common.{◌≡◌, ℕ, ◌<◌, length, Bool, true, false, inl, inr, ⊎_elim, Option, Some, None, List, [], ◌∷◌, refl, ap, sym, ◌∙◌, subst}
use Rattle.cxx_program.specs.declared.program.Owner.{Owner}
use Rattle.cxx_program.specs.declared.program.Owner.TheVariants.{Main, Function, Constructor, Destructor}
use Rattle.path_model.specs.Values.{Value}
use Rattle.cxx_hierarchy.specs.declared.records.ClassId.{ClassId}
use Rattle.cxx_subobject.specs.Locations.{ObjectPart}
use Rattle.cxx_program.specs.declared.program.TypedBody.{TypedBody}
use Rattle.path_model.specs.TypedStates.{IsPartMade}
use Rattle.code_ops.specs.Routines.{IsRoutine}
use Rattle.code_ops.specs.Setups.{Routine, MainCode, FunctionCode, PlanCode, routine_owner}
use Rattle.agree_relation.specs.Worlds.{world_classes}
use Rattle.agree_relation.specs.Goings.{AreGoing}
use Rattle.path_model.specs.States.{owned_body, RunningBody as Body, Planned, Frame as PathFrame, InBody, InPlan, is_body}
use Rattle.byte_machine.specs.Frames.{MachineFrame}
use Rattle.agree_parts.specs.Heaps.{Heap}
use Rattle.agree_relation.specs.Worlds.{World}
use Rattle.agree_relation.specs.Goings.{Going}
use Rattle.agree_relation.specs.Frames.{PlaceNumbers, IsInBody, IsBodyFrame, IsInner, IsOuter, RunsBody, StandInPlan, BodyStandsOver, StandOver}
use Rattle.agree_statements.specs.Registers.{body_on, frame_on}

-- the frame of a body on top, over those below, and how it goes on
pub record IsOnTop (w : World) (at : PlaceNumbers) (g : Heap) (f : Body) (below : List PathFrame) (gs : List Going) (stack : List MachineFrame) : Type 0 where
  pub frame : MachineFrame
  pub rest : List MachineFrame
  pub is : stack ≡ frame ∷ rest
  pub routine : Routine
  pub owner : routine_owner routine ≡ f.owner
  pub known : (classes : List ClassId) (body : TypedBody) → ((p : ObjectPart) (c : ClassId) → IsPartMade (world_classes w) classes p c → c.0 < length (world_classes w)) → AreGoing w classes gs → owned_body w.setup.program f.owner ≡ Some body → IsRoutine w.setup routine
  pub body : IsInBody w at g routine f frame
  pub goes_on : (locals : List Value) (next : ℕ) (registers : List (Option ℕ)) (block : ℕ) → IsInBody w at g routine (body_on f locals next) (frame_on frame registers block) → StandOver w at g None (InBody (body_on f locals next) ∷ below) gs (frame_on frame registers block ∷ rest)

module _ (w : World) (at : PlaceNumbers) (g : Heap) where
  body_goes_on : (r : Routine) (counts : Bool) (f : Body) (below : List PathFrame) (b : MachineFrame) → IsBodyFrame w at g r counts f below b → (locals : List Value) (next : ℕ) (registers : List (Option ℕ)) (block : ℕ) → IsInBody w at g r (body_on f locals next) (frame_on b registers block)
      → IsBodyFrame w at g r counts (body_on f locals next) below (frame_on b registers block)
  body_goes_on r counts f below b a locals next registers block inside = record { body = inside; again = a.again; is_call = a.is_call; keeps = a.keeps }

  inner_goes_on : (b : MachineFrame) (registers : List (Option ℕ)) (block : ℕ) → IsInner b → IsInner (frame_on b registers block)
  inner_goes_on b registers block a = record { kept = a.kept; is_call = a.is_call }

  outer_goes_on : (p : Planned) (first : Going) (below : List PathFrame) (b : MachineFrame) (registers : List (Option ℕ)) (block : ℕ) → IsOuter w g p first below b → IsOuter w g p first below (frame_on b registers block)
  outer_goes_on p first below b registers block a = record { is_call = a.is_call; again = a.again; class = a.class; made = a.made; part = a.part; keeps = a.keeps }

  plan_goes_on : (f : Body) (gs : List Going) (b : MachineFrame) (rest : List Going) → (a : RunsBody w at g f gs b rest) → (locals : List Value) (next : ℕ) (registers : List (Option ℕ)) (block : ℕ) → IsInBody w at g (PlanCode a.first.course a.first.form a.first.class) (body_on f locals next) (frame_on b registers block)
      → RunsBody w at g (body_on f locals next) gs (frame_on b registers block) rest
  plan_goes_on f gs b rest a locals next registers block inside = record {
    first = a.first;
    more = a.more;
    is = a.is;
    left = a.left;
    at_body = a.at_body;
    owner = a.owner;
    frame = record {
      size = inside.variables.size;
      this = inside.variables.this ∙ sym a.body.variables.this ∙ a.frame.this;
      untouched = λ awaits. absurd (let f : false ≡ true = awaits in cc);
      start = a.frame.start;
      complete = a.frame.complete;
      whole = a.frame.whole;
      handed = a.frame.handed;
    };
    body = inside;
    again = record { elements = a.again.elements };
  }

  on_top_in_body : (r : Routine) (counts : Bool) (f : Body) (below : List PathFrame) (gs : List Going) (bs : List MachineFrame) (rest : List Going → List MachineFrame → Type 0) → routine_owner r ≡ f.owner
      → ((locals : List Value) (next : ℕ) (b : MachineFrame) (rest_of : List MachineFrame) → IsBodyFrame w at g r counts (body_on f locals next) below b × rest gs rest_of → StandOver w at g None (InBody (body_on f locals next) ∷ below) gs (b ∷ rest_of))
      → ((body : TypedBody) → owned_body w.setup.program f.owner ≡ Some body → IsRoutine w.setup r) → (b : MachineFrame) → IsBodyFrame w at g r counts f below b × rest gs bs → IsOnTop w at g f below gs (b ∷ bs)
  on_top_in_body r counts f below gs bs rest owner back is_routine b a = record {
    frame = b;
    rest = bs;
    is = refl;
    routine = r;
    owner = owner;
    known = λ classes body all going there. is_routine body there;
    body = a.0.body;
    goes_on = λ locals next registers block inside. back locals next (frame_on b registers block) bs (body_goes_on r counts f below b a.0 locals next registers block inside, a.1);
  }

  -- a body of a constructor or destructor
  on_top_in_plan : (f : Body) (p : Planned) (below : List PathFrame) (gs : List Going) (bs : List MachineFrame) (rest : List Going → List MachineFrame → Type 0)
      → ((locals : List Value) (next : ℕ) (stack : List MachineFrame) → StandInPlan w at g (Some (body_on f locals next)) p below gs stack rest → StandOver w at g None (InBody (body_on f locals next) ∷ InPlan p ∷ below) gs stack)
      → StandInPlan w at g (Some f) p below gs bs rest → IsOnTop w at g f (InPlan p ∷ below) gs bs
  unfolding plan_goes_on
  on_top_in_plan f p below gs [] rest back a = absurd a
  on_top_in_plan f p below gs (b ∷ bs) rest back a =
      let runs = a.1.1.1.0 in
      record {
        frame = b;
        rest = bs;
        is = refl;
        routine = PlanCode runs.first.course runs.first.form runs.first.class;
        owner = sym runs.owner;
        known = λ classes body all going there.
            let first = (subst (λ (l : List Going). AreGoing w classes l) runs.is going).0 in
            (all runs.first.part runs.first.class first.made, first.course);
        body = runs.body;
        goes_on = λ locals next registers block inside. back locals next (frame_on b registers block ∷ bs)
            (a.0, (a.1.0, (a.1.1.0, (plan_goes_on f gs b a.1.1.0 runs locals next registers block inside, ⊎_elim (λ i. inl (inner_goes_on b registers block i.0, i.1)) (λ o. inr (outer_goes_on p runs.first below b registers block o.0, o.1)) a.1.1.1.1))));
      }

  on_plan : (f : Body) (below : List PathFrame) (gs : List Going) (bs : List MachineFrame)
      → ((locals : List Value) (next : ℕ) (stack : List MachineFrame) → StandOver w at g (Some (body_on f locals next)) below gs stack → StandOver w at g None (InBody (body_on f locals next) ∷ below) gs stack)
      → StandOver w at g (Some f) below gs bs → IsOnTop w at g f below gs bs
  on_plan f [] gs bs back a = absurd a
  on_plan f (InBody e ∷ below) gs bs back a = absurd a
  on_plan f (InPlan p ∷ below) gs bs back a = on_top_in_plan f p below gs bs (StandOver w at g None below) back a

  by_owner : (o : Owner) (f : Body) (below : List PathFrame) (gs : List Going) (bs : List MachineFrame) → f.owner ≡ o → BodyStandsOver w at g f o below (StandOver w at g None below) (StandOver w at g (Some f) below) gs bs → IsOnTop w at g f below gs bs
  by_owner Main f below gs [] e a = absurd a
  by_owner Main f below gs (b ∷ bs) e a = on_top_in_body MainCode false f below gs bs (StandOver w at g None below) (sym e)
      (λ locals next b' rest_of stands. subst (λ (o : Owner). BodyStandsOver w at g (body_on f locals next) o below (StandOver w at g None below) (StandOver w at g (Some (body_on f locals next)) below) gs (b' ∷ rest_of)) (sym e) stands)
      (λ body there. ap is_body (ap (owned_body w.setup.program) (sym e) ∙ there)) b a
  by_owner (Function n) f below gs [] e a = absurd a
  by_owner (Function n) f below gs (b ∷ bs) e a = on_top_in_body (FunctionCode n) true f below gs bs (StandOver w at g None below) (sym e)
      (λ locals next b' rest_of stands. subst (λ (o : Owner). BodyStandsOver w at g (body_on f locals next) o below (StandOver w at g None below) (StandOver w at g (Some (body_on f locals next)) below) gs (b' ∷ rest_of)) (sym e) stands)
      (λ body there. ap is_body (ap (owned_body w.setup.program) (sym e) ∙ there)) b a
  by_owner (Constructor c) f below gs bs e a = on_plan f below gs bs
      (λ locals next stack stands. subst (λ (o : Owner). BodyStandsOver w at g (body_on f locals next) o below (StandOver w at g None below) (StandOver w at g (Some (body_on f locals next)) below) gs stack) (sym e) stands) a
  by_owner (Destructor c) f below gs bs e a = on_plan f below gs bs
      (λ locals next stack stands. subst (λ (o : Owner). BodyStandsOver w at g (body_on f locals next) o below (StandOver w at g None below) (StandOver w at g (Some (body_on f locals next)) below) gs stack) (sym e) stands) a

  pub body_on_top : (f : Body) (below : List PathFrame) (gs : List Going) (stack : List MachineFrame) → StandOver w at g None (InBody f ∷ below) gs stack → IsOnTop w at g f below gs stack
  body_on_top f below gs stack a = by_owner f.owner f below gs stack refl a
