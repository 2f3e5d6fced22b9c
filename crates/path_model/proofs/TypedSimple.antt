-- Statements that open nothing lead from a typed state to a typed one, and are not wrong.
use Rattle.std.proofs.Common.{◌≡◌, ℕ, ◌≤◌, Option, Some, None, List, ◌∷◌, length, refl, ap, subst, sym, ◌∙◌}
use Rattle.std.specs.Prelude.{slice_get, nat_eq, if◌then◌else◌, option_map, option_and_then}
use Rattle.cxx_subobject.specs.Subobjects.{class_of}
use Rattle.path_plan.specs.Places.{part}
use Rattle.foundation.proofs.Truth.{split}
use Rattle.cxx_hierarchy.specs.declared.records.ClassId.{ClassId}
use Rattle.cxx_hierarchy.specs.declared.records.Scalar.{Scalar}
use Rattle.cxx_hierarchy.specs.declared.records.ValueType.{ValueType}
use Rattle.cxx_hierarchy.specs.declared.records.ValueType.TheVariants.{Number as NumberType, Pointer as PointerType}
use Rattle.cxx_hierarchy.specs.declared.records.FieldType.TheVariants.{Value as ValueField}
use Rattle.cxx_hierarchy.specs.declared.records.ReturnType.{ReturnType}
use Rattle.cxx_hierarchy.specs.declared.records.ReturnType.TheVariants.{Void, Value as ValueReturn}
use Rattle.cxx_hierarchy.specs.Classes.{Classes}
use Rattle.cxx_subobject.specs.Locations.{ObjectPart}
use Rattle.cxx_subobject.proofs.PathLemmas.{class_there}
use Rattle.cxx_program.specs.declared.operand.Conversion.{Conversion}
use Rattle.cxx_program.specs.declared.program.Owner.{Owner}
use Rattle.cxx_program.specs.declared.program.Owner.TheVariants.{Main, Function, Constructor, Destructor}
use Rattle.cxx_program.specs.declared.statement.TypedPlace.{TypedPlace}
use Rattle.cxx_program.specs.declared.program.TypedBody.{TypedBody}
use Rattle.cxx_program.specs.declared.program.TypedProgram.{TypedProgram}
use Rattle.cxx_program.specs.Typed.{Scope, IsPlace, place_width, returns_of}
use Rattle.path_model.specs.declared.outs.Out.{Out}
use Rattle.path_model.specs.Values.{Value, Unset, Number, Null, Pointer, Objects, converted_to}
use Rattle.path_model.specs.Places.{leaf_at}
use Rattle.path_model.specs.States.{Target, RunningBody, Frame, InBody, ProgramState, owned_body, with_objects, with_frames, at_statement}
use Rattle.path_model.specs.Effects.{leaf_set, written, object_ended, deleted, going_on_at, branched, block_at, is_number_zero, result_given, left_by, returned, value_out, part_out, view_part, view_out, typeid_class, class_out, type_out, object_out, dump_out, telling}
use Rattle.path_model.specs.TypedStates.{IsPartMade, IsValue, IsInBitField, width_of_leaf, FitsResult, FitsMadeObject, IsCalledFrom, IsOpened}
use Rattle.path_model.proofs.TypedValues.{converted_value}
use Rattle.path_model.proofs.TypedPlaces.{leaf_made, width_at, one_type}
use Rattle.path_model.proofs.TypedViews.{AreRunningParts, view_valid}
use Rattle.path_model.proofs.TypedFrames.{IsSound, IsSoundNext, IsOnTop, given_sound, called_on_top, on_top_called, called_some}
use Rattle.path_model.proofs.TypedEvents.{leaf_set_keeps}
use Rattle.path_model.proofs.TypedUses.{NamesPart, HasView}

-- a leaf takes a value
pub written_sound : (h : Classes) (program : TypedProgram) (s : ProgramState) (e : Scope) (place : TypedPlace) (t : ValueType ClassId) → IsPlace h e place (ValueField t) → (w v : Value) → IsValue h s.objects.classes w t → IsInBitField (place_width h place) w t
    → NamesPart h s.objects v place.class → IsSound h program s → IsSoundNext h program (written s place w v)
written_sound h program s e place t is w v fits held a b =
    let cs = s.objects.classes in
    let p = a.part in
    let made = leaf_made h cs e place t p a.made is in
    let r : IsSound h program (with_objects s (leaf_set s.objects (leaf_at p place) w)) = record {
      typed = record {
        globals = b.typed.globals;
        leaves = leaf_set_keeps h cs (λ l x u. IsValue h cs x u) s.objects.leaf (leaf_at p place) w (λ u other. subst (λ (z : ValueType ClassId). IsValue h cs w z) (one_type h cs cs (leaf_at p place) t u made other) fits) b.typed.leaves;
        held = leaf_set_keeps h cs (λ l x u. IsInBitField (width_of_leaf h l) x u) s.objects.leaf (leaf_at p place) w
            (λ u other. subst (λ (z : ValueType ClassId). IsInBitField (width_of_leaf h (leaf_at p place)) w z) (one_type h cs cs (leaf_at p place) t u made other) (subst (λ o. IsInBitField o w t) (width_at h cs e place t p a.made is) held)) b.typed.held;
        frames = b.typed.frames;
        running = b.typed.running;
      };
      runs = b.runs;
    } in
    subst (λ (x : Value). IsSoundNext h program (written s place w x)) (sym a.is) r

-- an object ends
ended_sound : (h : Classes) (program : TypedProgram) (s : ProgramState) (body : TypedBody) → IsOnTop program body s.frames → (k : ℕ) (c : ClassId) (o : Option ClassId) → slice_get s.objects.classes k ≡ o → o ≡ Some c → IsSound h program s → IsSoundNext h program (object_ended h program s k o)
ended_sound h program s body top k c None e is b = let f : None ≡ Some c = is in absurd (cc)
ended_sound h program s body top k c (Some d) e is b = record {
  typed = record {
    globals = b.typed.globals;
    leaves = b.typed.leaves;
    held = b.typed.held;
    frames = (on_top_called program (FitsMadeObject h program.globals s.objects.classes k None) body s.frames top (record { class = d; made = e; fits = tt }), b.typed.frames);
    running = λ g. cc;
  };
  runs = b.runs;
}

pub deleted_sound : (h : Classes) (program : TypedProgram) (s : ProgramState) (body : TypedBody) → IsOnTop program body s.frames → (v : Value) (c : ClassId) → IsValue h s.objects.classes v (PointerType c) → (v ≡ Unset → ⊥) → IsSound h program s → IsSoundNext h program (deleted h program s v)
deleted_sound h program s body top Unset c a set b = set refl
deleted_sound h program s body top (Number z) c a set b = a
deleted_sound h program s body top Null c a set b = b
deleted_sound h program s body top (Pointer p) c a set b = ended_sound h program s body top p.object a.class (slice_get s.objects.classes p.object) refl a.made b

-- control goes on

pub at_sound : (h : Classes) (program : TypedProgram) (s : ProgramState) (f : RunningBody) (below : List Frame) (body : TypedBody) (m : ℕ) → owned_body program f.owner ≡ Some body → m ≤ length body.statements
    → IsSound h program (with_frames s (InBody f ∷ below)) → IsSound h program (with_frames s (InBody (at_statement f m) ∷ below))
at_sound h program s f below body m there le b =
    let top = b.typed.frames.0 in
    let same : body ≡ top.0 = let g : Some body ≡ Some top.0 = sym there ∙ top.1.there in cc in
    record {
      typed = record {
        globals = b.typed.globals;
        leaves = b.typed.leaves;
        held = b.typed.held;
        frames = ((top.0, record { there = top.1.there; this = top.1.this; locals = top.1.locals; next = subst (λ (y : TypedBody). m ≤ length y.statements) same le }), b.typed.frames.1, b.typed.frames.2);
        running = λ g. cc;
      };
      runs = b.runs;
    }

pub branched_sound : (h : Classes) (program : TypedProgram) (x : Objects) (globals : List Value) (f : RunningBody) (below : List Frame) (body : TypedBody) → owned_body program f.owner ≡ Some body
    → (v : Value) (t : Scalar) → IsValue h x.classes v (NumberType t) → (v ≡ Unset → ⊥) → (yes_at no_at : ℕ) → yes_at ≤ length body.statements → no_at ≤ length body.statements
    → IsSound h program (record { objects = x; globals = globals; frames = InBody f ∷ below }) → IsSoundNext h program (branched (record { objects = x; globals = globals; frames = InBody f ∷ below }) v yes_at no_at)
branched_sound h program x globals f below body there Unset t a set yes_at no_at le le' b = set refl
branched_sound h program x globals f below body there (Number z) t a set yes_at no_at le le' b =
    let s : ProgramState = record { objects = x; globals = globals; frames = InBody f ∷ below } in
    split (is_number_zero z) (λ q. IsSound h program (going_on_at s (if q then no_at else yes_at))) (λ _. at_sound h program s f below body no_at there le' b) (λ _. at_sound h program s f below body yes_at there le b)
branched_sound h program x globals f below body there Null t a set yes_at no_at le le' b = a
branched_sound h program x globals f below body there (Pointer p) t a set yes_at no_at le le' b = a

pub block_within : (n end behind size : ℕ) → n ≤ size → behind ≤ size → block_at n end behind ≤ size
block_within n end behind size a b = split (nat_eq n end) (λ q. (if q then behind else n) ≤ size) (λ _. b) (λ _. a)

-- a body is left

-- a `return` gives a value of the type, or none
abbrev pub ReturnsValue : Classes → List ClassId → ReturnType ClassId → Option Value → Type 0
ReturnsValue h cs r None = Unit {0}
ReturnsValue h cs Void (Some v) = ⊥
ReturnsValue h cs (ValueReturn t) (Some v) = IsValue h cs v t

result_sound : (h : Classes) (program : TypedProgram) (s : ProgramState) (body : TypedBody) → IsOnTop program body s.frames → (o : Owner) (found : Conversion) (target : Option Target) → FitsResult h program.globals o found target body
    → (v : Option Value) (r : ReturnType ClassId) → returns_of h o ≡ Some r → ReturnsValue h s.objects.classes r v → IsSound h program s → IsSound h program (result_given s found target v)
result_sound h program s body top o found target fits None r is a b = b
result_sound h program s body top o found target fits (Some v) Void is a b = absurd a
result_sound h program s body top o found target fits (Some v) (ValueReturn t) is a b =
    let k = fits.result t is in
    given_sound h program s body top k.0 target k.2 (converted_to v found) (converted_value h s.objects.classes t k.0 found k.1 v a) b

pub returned_sound : (h : Classes) (program : TypedProgram) (s : ProgramState) (f : RunningBody) (below : List Frame) (v : Option Value) (r : ReturnType ClassId) → returns_of h f.owner ≡ Some r → ReturnsValue h s.objects.classes r v
    → IsSound h program (with_frames s (InBody f ∷ below)) → IsSoundNext h program (returned s f below v)
returned_sound h program s f below v r is a b = by_owner f.owner refl
  where
    by_owner : (o : Owner) → f.owner ≡ o → IsSoundNext h program (left_by o (result_given (with_frames s below) f.found f.target v))
    by_owner Main e = tt
    by_owner (Constructor c) e = let g : None ≡ Some r = sym (ap (returns_of h) e) ∙ is in absurd (cc)
    by_owner (Destructor c) e = let g : None ≡ Some r = sym (ap (returns_of h) e) ∙ is in absurd (cc)
    by_owner (Function g) e =
        let opened : IsCalledFrom program (FitsResult h program.globals (Function g) f.found f.target) below = subst (λ (o : Owner). IsOpened h program o f.found f.target below) e b.typed.frames.1 in
        let top = called_on_top program (FitsResult h program.globals (Function g) f.found f.target) below opened in
        let here : IsSound h program (with_frames s below) = record { typed = record { globals = b.typed.globals; leaves = b.typed.leaves; held = b.typed.held; frames = b.typed.frames.2; running = called_some program (FitsResult h program.globals (Function g) f.found f.target) below opened }; runs = b.runs } in
        result_sound h program (with_frames s below) top.0 top.1 (Function g) f.found f.target top.2 v r (sym (ap (returns_of h) e) ∙ is) a here

-- what is told

pub told_sound : (h : Classes) (program : TypedProgram) (s : ProgramState) (o : Option Out) → (o ≡ None → ⊥) → IsSound h program s → IsSoundNext h program (telling s o)
told_sound h program s None some b = some refl
told_sound h program s (Some out) some b = b

pub value_told : (x : Objects) (v : Value) → (v ≡ Unset → ⊥) → value_out x v ≡ None → ⊥
value_told x Unset set e = set refl
value_told x (Number z) set e = cc
value_told x Null set e = cc
value_told x (Pointer p) set e = cc

pub part_told : (h : Classes) (x : Objects) (p : ObjectPart) → HasView h x p → part_out x (view_part h x p) ≡ None → ⊥
part_told h x p a e = let f : part_out x (option_map (part p.object p.owner) (Some a.view)) ≡ None = ap (λ o. part_out x (option_map (part p.object p.owner) o)) (sym a.is) ∙ e in cc

pub view_told : (h : Classes) (x : Objects) (v : Value) (c : ClassId) → IsValue h x.classes v (PointerType c) → (v ≡ Unset → ⊥) → ((p : ObjectPart) → v ≡ Pointer p → HasView h x p) → view_out h x v ≡ None → ⊥
view_told h x Unset c a set view e = set refl
view_told h x (Number z) c a set view e = a
view_told h x Null c a set view e = cc
view_told h x (Pointer p) c a set view e = part_told h x p (view p refl) e

class_told : (h : Classes) (x : Objects) (runs : AreRunningParts h x) (p : ObjectPart) (c : ClassId) → IsPartMade h x.classes p c → HasView h x p → class_out (typeid_class h x p) ≡ None → ⊥
class_told h x runs p c a v e =
    let there = class_there h a.inside.0 v.view (view_valid h x runs p c a v.view v.is) in
    let f : class_out (Some there.0) ≡ None = ap class_out (sym (ap (option_and_then class_of) v.is ∙ there.1)) ∙ e in cc

pub type_told : (h : Classes) (x : Objects) (runs : AreRunningParts h x) (v : Value) (c : ClassId) → (a : NamesPart h x v c) → HasView h x a.part → type_out h x v ≡ None → ⊥
type_told h x runs v c a view e = class_told h x runs a.part c a.made view (sym (ap (type_out h x) a.is) ∙ e)

pub dump_told : (h : Classes) (x : Objects) (v : Value) (c : ClassId) → (a : NamesPart h x v c) → dump_out h x v ≡ None → ⊥
dump_told h x v c a e =
    let f : object_out h x a.part.object (Some a.made.class) ≡ None = ap (object_out h x a.part.object) (sym a.made.made) ∙ (sym (ap (dump_out h x) a.is) ∙ e) in cc
