-- Where the next event of a plan is a body, the frame that waits runs it.
use Rattle.std.proofs.Common.{◌≡◌, ◌⊎◌, ℕ, zero, suc, ◌-◌, ◌<◌, Bool, Some, None, List, [], ◌∷◌, length, refl, ap, subst, sym, ◌∙◌, arith}
use Rattle.std.specs.Prelude.{slice_get, replicate}
use Rattle.cxx_hierarchy.specs.declared.records.ClassId.{ClassId}
use Rattle.cxx_program.specs.declared.operand.Conversion.TheVariants.{Same as ToSame}
use Rattle.cxx_program.specs.declared.program.Owner.{Owner}
use Rattle.cxx_program.specs.declared.program.TypedBody.{TypedBody}
use Rattle.path_plan.specs.Phases.{PartEvent, Body}
use Rattle.path_model.specs.Values.{Value, Unset, Pointer}
use Rattle.path_model.specs.States.{RunningBody as PathRunning, Planned, Frame as PathFrame, InBody, InPlan, entered_body, start_locals}
use Rattle.path_model.specs.Steps.{body_owner}
use Rattle.code_blocks.specs.Blocks.{next_place}
use Rattle.code_blocks.specs.Items.{Item, Does}
use Rattle.code_blocks.specs.declared.items.Kind.TheVariants.{AtBody}
use Rattle.code_ops.specs.Setups.{PlanCode, plan_owner, body_of_routine, locals_in}
use Rattle.code_ops.specs.declared.routines.Course.{Course}
use Rattle.code_ops.specs.declared.routines.Course.TheVariants.{Constructs, Destroys, Deletes}
use Rattle.byte_machine.specs.Frames.{MachineFrame}
use Rattle.agree_parts.specs.Heaps.{Heap}
use Rattle.agree_relation.specs.Worlds.{World}
use Rattle.agree_relation.specs.Words.{register_word}
use Rattle.agree_relation.specs.Goings.{Going, at_left, builds}
use Rattle.agree_relation.specs.Frames.{PlaceNumbers, HasVariables, AreUntouched, awaits_body, IsPlanFrame, IsAtNext, IsInner, IsOuter, RunsBody, WaitInPlan, OwnsParts, Behind, StandOver, BodyStandsOver}
use Rattle.agree_events.proofs.Tops.{top_of}
use Rattle.agree_events.proofs.Owned.{with_events, waits_same}

-- locals of a body at its start

unset_local : (k n : ℕ) (v : Value) → slice_get (replicate k Unset) n ≡ Some v → (v ≡ Unset) × (n < k)
unset_local zero n v e = absurd (cc)
unset_local (suc k) zero v e = (let f : Some Unset ≡ Some v = e in cc (f), omega arith)
unset_local (suc k) (suc n) v e = let more = unset_local k n v e in (more.0, let less = more.1 in omega arith)

replicate_length : (k : ℕ) → length (replicate k Unset) ≡ k
replicate_length zero = refl
replicate_length (suc k) = ap suc (replicate_length k)

-- whose body it is
pub owner_of_plan : (course : Course) (c : ClassId) (b : Bool) → builds course ≡ b → body_owner b c ≡ plan_owner course c
owner_of_plan Constructs c b e = ap (λ t. body_owner t c) (sym e)
owner_of_plan Destroys c b e = ap (λ t. body_owner t c) (sym e)
owner_of_plan Deletes c b e = ap (λ t. body_owner t c) (sym e)

module _ (w : World) (at : PlaceNumbers) (g : Heap) where
  abbrev started : TypedBody → Going → PathRunning
  started body f = entered_body body (Pointer f.part) [] ToSame None

  variables_stand : (f : Going) (left : List Item) (below : List Going) (b : MachineFrame) (body : TypedBody) → f.left ≡ Does AtBody ∷ left → body_of_routine w.setup (PlanCode f.course f.form f.class) ≡ Some body → IsPlanFrame w at g f below b → HasVariables w g (started body f) b.registers
  variables_stand f left below b body at_body there frame =
      let untouched : AreUntouched w (PlanCode f.course f.form f.class) b.registers = frame.untouched (ap awaits_body at_body) in
      let count : locals_in (body_of_routine w.setup (PlanCode f.course f.form f.class)) ≡ length body.locals = ap locals_in there in
      let size : length (start_locals body []) ≡ length body.locals = replicate_length (length body.locals - 0) ∙ let all : length body.locals - 0 ≡ length body.locals = omega arith in all in
      record {
        size = frame.size;
        this = frame.this;
        local = λ n v e. let unset = unset_local (length body.locals - 0) n v e in let less = unset.1 in untouched.unset n (omega arith) ∙ sym (ap (register_word w g) unset.0);
        spare = untouched.unset (length (start_locals body [])) (omega arith);
      }

  -- the frames of a plan whose body is on top
  pub body_waits : (p : Planned) (path : List PathFrame) (under : List Going → List MachineFrame → Type 0) (f : Going) (left : List Item) (below : List Going) (b : MachineFrame) (bs : List MachineFrame) (body : TypedBody) → f.left ≡ Does AtBody ∷ left → body_of_routine w.setup (PlanCode f.course f.form f.class) ≡ Some body → body.owner ≡ plan_owner f.course f.class
      → WaitInPlan w at g p path (f ∷ below) (b ∷ bs) under
      → (rest : List Going) × ((runs : RunsBody w at g (started body f) (f ∷ below) b rest) × ((IsInner b × WaitInPlan w at g p path rest bs under) ⊎ (IsOuter w g p runs.first path b × under rest bs)))
  body_waits p path under f left below b bs body at_body there owner wait =
      let top = top_of w at g p path under f below b bs wait in
      let same : wait.1.0.first ≡ f = cc (wait.1.0.is) in
      let next : IsAtNext w at f b = subst (λ (h : Going). IsAtNext w at h b) same wait.1.0.next in (
        top.rest,
        (
          record {
            first = f;
            more = top.more;
            is = ap (λ (gs : List Going). f ∷ gs) top.is;
            left = left;
            at_body = at_body;
            owner = owner;
            frame = subst (λ (gs : List Going). IsPlanFrame w at g (at_left f []) gs b) top.is (record {
              size = top.frame.size;
              this = top.frame.this;
              untouched = λ e. absurd (cc);
              start = top.frame.start;
              complete = top.frame.complete;
              whole = top.frame.whole;
              handed = top.frame.handed;
            });
            body = record { variables = variables_stand f left below b body at_body there top.frame; block = next ∙ ap (λ (xs : List Item). at (next_place f.course f.form f.class xs)) at_body };
            again = record { elements = top.again };
          },
          top.kind,
        ),
      )

  by_course : (course : Course) (c : ClassId) (fb : PathRunning) (path : List PathFrame) (rest : List Going → List MachineFrame → Type 0) (gs : List Going) (bs : List MachineFrame) → StandOver w at g (Some fb) path gs bs → BodyStandsOver w at g fb (plan_owner course c) path rest (StandOver w at g (Some fb) path) gs bs
  by_course Constructs c fb path rest gs bs x = x
  by_course Destroys c fb path rest gs bs x = x
  by_course Deletes c fb path rest gs bs x = x

  pub body_stands : (p : Planned) (path : List PathFrame) (es : List PartEvent) (f : Going) (left : List Item) (below : List Going) (stack : List MachineFrame) (body : TypedBody) → f.left ≡ Does AtBody ∷ left → body_of_routine w.setup (PlanCode f.course f.form f.class) ≡ Some body → body.owner ≡ plan_owner f.course f.class
      → (parts : OwnsParts w p.is_building (Body f.part ∷ es) (f ∷ below)) → WaitInPlan w at g p path (f ∷ below) stack (Behind parts.lower (StandOver w at g None path))
      → StandOver w at g None (InBody (started body f) ∷ InPlan (with_events p es) ∷ path) (f ∷ below) stack
  body_stands p path es f left below [] body at_body there owner parts wait = absurd wait
  body_stands p path es f left below (b ∷ bs) body at_body there owner parts wait =
      let under = Behind parts.lower (StandOver w at g None path) in
      let r = body_waits (with_events p es) path under f left below b bs body at_body there owner (waits_same w at g p es path under (f ∷ below) (b ∷ bs) wait) in
      subst (λ (o : Owner). BodyStandsOver w at g (started body f) o (InPlan (with_events p es) ∷ path) (StandOver w at g None (InPlan (with_events p es) ∷ path)) (StandOver w at g (Some (started body f)) (InPlan (with_events p es) ∷ path)) (f ∷ below) (b ∷ bs)) (sym owner)
      (by_course f.course f.class (started body f) (InPlan (with_events p es) ∷ path) (StandOver w at g None (InPlan (with_events p es) ∷ path)) (f ∷ below) (b ∷ bs) (f.part, (parts, (r.0, (r.1.0, r.1.1)))))
