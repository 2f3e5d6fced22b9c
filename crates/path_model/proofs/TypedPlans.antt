-- The step of a plan leads from a typed state to a typed one, and is not wrong.
use Rattle.std.proofs.Common.{◌≡◌, ℕ, Bool, true, false, inl, inr, Option, Some, None, List, [], ◌∷◌, refl, ap, subst, sym, ◌∙◌}
use Rattle.std.specs.Prelude.{slice_get}
use Rattle.foundation.proofs.Members.{Has}
use Rattle.cxx_hierarchy.specs.declared.records.ClassId.{ClassId}
use Rattle.cxx_hierarchy.specs.declared.records.ValueType.TheVariants.{Pointer as PointerType}
use Rattle.cxx_hierarchy.specs.Classes.{Classes}
use Rattle.cxx_hierarchy.specs.Hierarchies.{IsHierarchy}
use Rattle.cxx_subobject.specs.Subobjects.{whole}
use Rattle.cxx_subobject.specs.Locations.{ObjectPart, IsPartOf}
use Rattle.cxx_subobject.proofs.PathLemmas.{class_there}
use Rattle.cxx_program.specs.declared.operand.Conversion.TheVariants.{Same as ToSame}
use Rattle.cxx_program.specs.declared.program.Owner.{Owner}
use Rattle.cxx_program.specs.declared.program.TypedBody.{TypedBody}
use Rattle.cxx_program.specs.declared.program.TypedProgram.{TypedProgram}
use Rattle.cxx_program.specs.Typed.{this_of, parameters_of, IsTypedProgram}
use Rattle.path_plan.specs.Places.{IsPartWithin}
use Rattle.path_plan.specs.Phases.{PartEvent, Begin, Ready, Init, Body, Done, Ending, Bases, End, part_of}
use Rattle.path_plan.specs.Whole.{whole_part}
use Rattle.path_plan.proofs.Construction.{in_object}
use Rattle.path_plan.proofs.Valid.{whole_part_has}
use Rattle.path_model.specs.declared.outs.Out.{Out}
use Rattle.path_model.specs.Values.{Pointer}
use Rattle.path_model.specs.States.{Planned, Frame, InPlan, ProgramState, owned_body, is_body, with_objects, with_frames}
use Rattle.path_model.specs.Outs.{class_or_first, object_class}
use Rattle.path_model.specs.Steps.{class_of_part, objects_after, event_outs, body_owner, body_opened, plan_left, resumed, event_step}
use Rattle.path_model.specs.TypedStates.{IsPartMade, AreValues, IsThis, IsOpened}
use Rattle.path_model.proofs.KeptFrames.{IsKeptAt}
use Rattle.path_model.proofs.KeptLaws.{plan_inside, some_event, no_body_first, body_there}
use Rattle.path_model.proofs.TypedFrames.{IsSound, IsSoundNext, given_sound, called_on_top, called_some}
use Rattle.path_model.proofs.TypedBodies.{body_typed, entered_typed}
use Rattle.path_model.proofs.TypedEvents.{leaves_typed, leaves_held, runs_after}

-- a part inside an object that was made
pub inside_made : (h : Classes) (cs : List ClassId) (k : ℕ) (class : ClassId) (p : ObjectPart) → slice_get cs k ≡ Some class → IsPartWithin h p (whole_part k class) → IsPartMade h cs p (class_of_part p)
inside_made h cs k class p made inside =
    let is : IsPartOf h class p = whole_part_has h k class p inside in
    let there = class_there h is.0 p.at is.2 in
    record { class = class; made = ap (slice_get cs) (in_object h p (whole_part k class) inside) ∙ made; inside = is; of_class = there.1 ∙ ap (λ (c : ClassId). Some c) (sym (ap class_or_first there.1)) }

-- the objects after an event
objects_sound : (h : Classes) (program : TypedProgram) → IsHierarchy h → IsTypedProgram h program → (s : ProgramState) (frames : List Frame) (e : PartEvent) (c : ClassId) → IsPartMade h s.objects.classes (part_of e) c
    → IsSound h program (with_frames s frames) → IsSound h program (with_frames (with_objects s (objects_after program s.objects e)) frames)
objects_sound h program keeps a s frames e c made b = record {
  typed = record {
    globals = b.typed.globals;
    leaves = leaves_typed h program s.objects.classes s.objects.leaf keeps a e b.typed.leaves;
    held = leaves_held h program s.objects.classes s.objects.leaf keeps a e b.typed.held;
    frames = b.typed.frames;
    running = b.typed.running;
  };
  runs = runs_after h program s.objects e made.class made.made made.inside b.runs;
}

owner_this : (h : Classes) (cs : List ClassId) (building : Bool) (c : ClassId) (p : ObjectPart) → IsPartMade h cs p c → IsThis h cs (this_of (body_owner building c)) (Pointer p)
owner_this h cs true c p a = (p, refl, a)
owner_this h cs false c p a = (p, refl, a)

no_parameters : (h : Classes) (cs : List ClassId) (building : Bool) (c : ClassId) → AreValues h cs [] (parameters_of h (body_owner building c))
no_parameters h cs true c = tt
no_parameters h cs false c = tt

over_plan : (h : Classes) (program : TypedProgram) (building : Bool) (c : ClassId) (f : Planned) (below : List Frame) → IsOpened h program (body_owner building c) ToSame None (InPlan f ∷ below)
over_plan h program true c f below = tt
over_plan h program false c f below = tt

opened_sound : (h : Classes) (program : TypedProgram) → IsTypedProgram h program → (s : ProgramState) (f : Planned) (below : List Frame) (building : Bool) (p : ObjectPart) (outs : List Out) → IsPartMade h s.objects.classes p (class_of_part p)
    → IsSound h program (with_frames s (InPlan f ∷ below)) → (o : Option TypedBody) → owned_body program (body_owner building (class_of_part p)) ≡ o → is_body o ≡ true → IsSoundNext h program (body_opened s p outs (InPlan f ∷ below) o)
opened_sound h program a s f below building p outs made b None e some = let g : false ≡ true = some in absurd (cc)
opened_sound h program a s f below building p outs made b (Some body) e some =
    let cs = s.objects.classes in
    let o = body_owner building (class_of_part p) in
    let owner = (body_typed h program a o body e).0 in
    record {
      typed = record {
        globals = b.typed.globals;
        leaves = b.typed.leaves;
        held = b.typed.held;
        frames = (
          (body, entered_typed h program cs a o body e (Pointer p) (owner_this h cs building (class_of_part p) p made) [] (no_parameters h cs building (class_of_part p)) ToSame None),
          subst (λ (x : Owner). IsOpened h program x ToSame None (InPlan f ∷ below)) (sym owner) (over_plan h program building (class_of_part p) f below),
          b.typed.frames,
        );
        running = λ g. cc;
      };
      runs = b.runs;
    }

-- the plan with other events left
left_sound : (h : Classes) (program : TypedProgram) (s : ProgramState) (f : Planned) (es : List PartEvent) (below : List Frame) → IsSound h program (with_frames s (InPlan f ∷ below)) → IsSound h program (with_frames s (plan_left f es ∷ below))
left_sound h program s f es below b = record { typed = record { globals = b.typed.globals; leaves = b.typed.leaves; held = b.typed.held; frames = b.typed.frames; running = λ g. cc }; runs = b.runs }

whole_made : (h : Classes) (cs : List ClassId) (k : ℕ) (c : ClassId) → slice_get cs k ≡ Some c → IsPartMade h cs (whole_part k c) c
whole_made h cs k c made = record { class = c; made = made; inside = (c, refl, whole [] tt); of_class = refl }

-- the last event gives the pointer to who waits for it
finished_sound : (h : Classes) (program : TypedProgram) (s : ProgramState) (f : Planned) (below : List Frame) (outs : List Out) → IsSound h program (with_frames s (InPlan f ∷ below)) → IsSoundNext h program (resumed program s f below outs [])
finished_sound h program s f below outs b =
    let cs = s.objects.classes in
    let called = b.typed.frames.0 in
    let top = called_on_top program _ below called in
    let fits = top.2 in
    let class : object_class s.objects f.object ≡ fits.class = ap class_or_first fits.made in
    let value : IsPartMade h cs (whole_part f.object (object_class s.objects f.object)) fits.class = subst (λ (c : ClassId). IsPartMade h cs (whole_part f.object c) fits.class) (sym class) (whole_made h cs f.object fits.class fits.made) in
    let here : IsSound h program (with_frames s below) = record { typed = record { globals = b.typed.globals; leaves = b.typed.leaves; held = b.typed.held; frames = b.typed.frames.1; running = called_some program _ below called }; runs = b.runs } in
    given_sound h program (with_frames s below) top.0 top.1 (PointerType fits.class) f.target fits.fits (Pointer (whole_part f.object (object_class s.objects f.object))) value here

-- the bodies that are still to be opened are there, each with a part that was made
abbrev pub OpensBodies : Classes → TypedProgram → List ClassId → Bool → List PartEvent → Type 0
OpensBodies h program cs building es = (p : ObjectPart) → Has es (Body p) → (is_body (owned_body program (body_owner building (class_of_part p))) ≡ true) × IsPartMade h cs p (class_of_part p)

resumed_sound : (h : Classes) (program : TypedProgram) → IsTypedProgram h program → (s : ProgramState) (f : Planned) (below : List Frame) (outs : List Out) (es : List PartEvent) → OpensBodies h program s.objects.classes f.is_building es
    → IsSound h program (with_frames s (InPlan f ∷ below)) → IsSoundNext h program (resumed program s f below outs es)
resumed_sound h program a s f below outs [] opens b = finished_sound h program s f below outs b
resumed_sound h program a s f below outs (Body p ∷ es) opens b =
    let o = opens p (inl refl) in
    opened_sound h program a s (record { object = f.object; is_building = f.is_building; events = es; target = f.target }) below f.is_building p outs o.1 (left_sound h program s f es below b) (owned_body program (body_owner f.is_building (class_of_part p))) refl o.0
resumed_sound h program a s f below outs (Begin p ∷ es) opens b = left_sound h program s f (Begin p ∷ es) below b
resumed_sound h program a s f below outs (Ready p ∷ es) opens b = left_sound h program s f (Ready p ∷ es) below b
resumed_sound h program a s f below outs (Init p m ∷ es) opens b = left_sound h program s f (Init p m ∷ es) below b
resumed_sound h program a s f below outs (Done p ∷ es) opens b = left_sound h program s f (Done p ∷ es) below b
resumed_sound h program a s f below outs (Ending p ∷ es) opens b = left_sound h program s f (Ending p ∷ es) below b
resumed_sound h program a s f below outs (Bases p ∷ es) opens b = left_sound h program s f (Bases p ∷ es) below b
resumed_sound h program a s f below outs (End p ∷ es) opens b = left_sound h program s f (End p ∷ es) below b

module _ (h : Classes) (keeps : IsHierarchy h) (program : TypedProgram) (a : IsTypedProgram h program) (s : ProgramState) (f : Planned) (below : List Frame) (kept : IsKeptAt h program s.objects (InPlan f ∷ below)) (b : IsSound h program (with_frames s (InPlan f ∷ below))) where
  event_made : (e : PartEvent) → Has f.events e → IsPartMade h s.objects.classes (part_of e) (class_of_part (part_of e))
  event_made e has = let r = plan_inside h keeps program s.objects (InPlan f ∷ below) kept f e (inl refl) has in inside_made h s.objects.classes f.object r.0 (part_of e) r.1 r.2

  opens_bodies : (es : List PartEvent) → ((e : PartEvent) → Has es e → Has f.events e) → OpensBodies h program s.objects.classes f.is_building es
  opens_bodies es within p has = (body_there h program s.objects (InPlan f ∷ below) kept f p (inl refl) (within (Body p) has), event_made (Body p) (within (Body p) has))

  goes_sound : (e : PartEvent) (es : List PartEvent) → f.events ≡ e ∷ es → IsSoundNext h program (resumed program (with_objects s (objects_after program s.objects e)) f below (event_outs s.objects e) es)
  goes_sound e es is = resumed_sound h program a (with_objects s (objects_after program s.objects e)) f below (event_outs s.objects e) es
      (opens_bodies es (λ x has. subst (λ (ys : List PartEvent). Has ys x) (sym is) (inr has)))
      (objects_sound h program keeps a s (InPlan f ∷ below) e (class_of_part (part_of e)) (event_made e (subst (λ (ys : List PartEvent). Has ys e) (sym is) (inl refl))) b)

  by_events : (events : List PartEvent) → f.events ≡ events → IsSoundNext h program (event_step program s f below events)
  by_events [] is = some_event h program s.objects (InPlan f ∷ below) kept f (inl refl) is
  by_events (Body p ∷ es) is = no_body_first h program s.objects (InPlan f ∷ below) kept f p es (inl refl) is
  by_events (Begin p ∷ es) is = goes_sound (Begin p) es is
  by_events (Ready p ∷ es) is = goes_sound (Ready p) es is
  by_events (Init p m ∷ es) is = goes_sound (Init p m) es is
  by_events (Done p ∷ es) is = goes_sound (Done p) es is
  by_events (Ending p ∷ es) is = goes_sound (Ending p) es is
  by_events (Bases p ∷ es) is = goes_sound (Bases p) es is
  by_events (End p ∷ es) is = goes_sound (End p) es is

  pub plan_sound : IsSoundNext h program (event_step program s f below f.events)
  plan_sound = by_events f.events refl
