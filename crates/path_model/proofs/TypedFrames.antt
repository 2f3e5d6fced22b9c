-- Frames stay typed: under more objects, when a variable takes a value, and when control goes on.
use Rattle.std.proofs.Common.{◌≡◌, ℕ, Option, Some, None, List, [], ◌∷◌, ◌++◌, refl, ap, subst, sym, ◌∙◌}
use Rattle.std.specs.Prelude.{slice_get}
use Rattle.foundation.proofs.Places.{get_front}
use Rattle.cxx_hierarchy.specs.declared.records.ClassId.{ClassId}
use Rattle.cxx_hierarchy.specs.declared.records.ValueType.{ValueType}
use Rattle.cxx_hierarchy.specs.Classes.{Classes}
use Rattle.cxx_program.specs.declared.operand.Variable.{Variable}
use Rattle.cxx_program.specs.declared.operand.Variable.TheVariants.{Global, Local}
use Rattle.cxx_program.specs.declared.program.Owner.{Owner}
use Rattle.cxx_program.specs.declared.program.TypedBody.{TypedBody}
use Rattle.cxx_program.specs.declared.program.TypedProgram.{TypedProgram}
use Rattle.cxx_program.specs.Typed.{scope_of, this_of, variable_type}
use Rattle.path_model.specs.Values.{Value, converted_to}
use Rattle.path_model.specs.States.{Target, RunningBody, Frame, InBody, InPlan, ProgramState, owned_body, with_local, with_local_in, assigned, sight}
use Rattle.path_model.specs.Effects.{Next, Goes, Refuses, Ends, Wrong, given_to_target}
use Rattle.path_model.specs.TypedStates.{IsValue, AreValues, IsThis, FitsTarget, IsCalledFrom, FitsMadeObject, AreTypedFrames, IsTypedState}
use Rattle.path_model.proofs.TypedValues.{IsTypedSight, values_set, values_grown, this_grown, converted_value}
use Rattle.path_model.proofs.TypedViews.{AreRunningParts}

-- a state that is typed, and what runs in its objects are parts of them
pub record IsSound (h : Classes) (program : TypedProgram) (s : ProgramState) : Type 0 where
  pub typed : IsTypedState h program s
  pub runs : AreRunningParts h s.objects

-- a step that goes leads to such a state, and is not wrong
abbrev pub IsSoundNext : Classes → TypedProgram → Next → Type 0
IsSoundNext h program (Goes s outs) = IsSound h program s
IsSoundNext h program (Refuses rule line) = Unit {0}
IsSoundNext h program Ends = Unit {0}
IsSoundNext h program Wrong = ⊥

-- a body of the program is on top
abbrev pub IsOnTop : TypedProgram → TypedBody → List Frame → Type 0
IsOnTop program body [] = ⊥
IsOnTop program body (InBody f ∷ below) = owned_body program f.owner ≡ Some body
IsOnTop program body (InPlan f ∷ below) = ⊥

-- more objects

called_grown : (h : Classes) (program : TypedProgram) (cs more : List ClassId) (k : ℕ) (target : Option Target) (below : List Frame)
    → IsCalledFrom program (FitsMadeObject h program.globals cs k target) below → IsCalledFrom program (FitsMadeObject h program.globals (cs ++ more) k target) below
called_grown h program cs more k target [] a = absurd a
called_grown h program cs more k target (InBody g ∷ below) (body, there, fits) = (body, there, record { class = fits.class; made = get_front cs more k fits.class fits.made; fits = fits.fits })
called_grown h program cs more k target (InPlan g ∷ below) a = absurd a

pub frames_grown : (h : Classes) (program : TypedProgram) (cs more : List ClassId) (frames : List Frame) → AreTypedFrames h program cs frames → AreTypedFrames h program (cs ++ more) frames
frames_grown h program cs more [] a = tt
frames_grown h program cs more (InBody f ∷ below) ((body, r), opened, rest) =
    ((body, record { there = r.there; this = this_grown h cs more (this_of f.owner) f.this r.this; locals = values_grown h cs more f.locals body.locals r.locals; next = r.next }), opened, frames_grown h program cs more below rest)
frames_grown h program cs more (InPlan f ∷ below) (called, rest) = (called_grown h program cs more f.object f.target below called, frames_grown h program cs more below rest)

-- a body that runs is the one that is found
same_body : (program : TypedProgram) (o : Owner) (a b : TypedBody) → owned_body program o ≡ Some a → owned_body program o ≡ Some b → a ≡ b
same_body program o a b e f = let g : Some a ≡ Some b = sym e ∙ f in cc

-- a local takes a value
local_typed : (h : Classes) (program : TypedProgram) (cs : List ClassId) (body : TypedBody) (n : ℕ) (t : ValueType ClassId) (v : Value) → slice_get body.locals n ≡ Some t → IsValue h cs v t
    → (frames : List Frame) → IsOnTop program body frames → AreTypedFrames h program cs frames → AreTypedFrames h program cs (with_local_in frames n v)
local_typed h program cs body n t v is fits [] top a = absurd top
local_typed h program cs body n t v is fits (InBody f ∷ below) top ((b, r), opened, rest) =
    let same : b ≡ body = same_body program f.owner b body r.there top in
    let there : slice_get b.locals n ≡ Some t = ap (λ (x : TypedBody). slice_get x.locals n) same ∙ is in
    ((b, record { there = r.there; this = r.this; locals = values_set h cs f.locals b.locals n t v r.locals there fits; next = r.next }), opened, rest)
local_typed h program cs body n t v is fits (InPlan f ∷ below) top a = absurd top

local_some : (frames : List Frame) (n : ℕ) (v : Value) → (frames ≡ [] → ⊥) → with_local_in frames n v ≡ [] → ⊥
local_some [] n v some e = some refl
local_some (InBody f ∷ below) n v some e = let g : InBody (with_local f n v) ∷ below ≡ [] = e in cc
local_some (InPlan f ∷ below) n v some e = let g : InPlan f ∷ below ≡ [] = e in cc

-- a variable of the body on top takes a value
pub assigned_sound : (h : Classes) (program : TypedProgram) (s : ProgramState) (body : TypedBody) → IsOnTop program body s.frames → (x : Variable) (t : ValueType ClassId) → variable_type (scope_of h program.globals body) x ≡ Some t
    → (v : Value) → IsValue h s.objects.classes v t → IsSound h program s → IsSound h program (assigned s x v)
assigned_sound h program s body top (Global n) t is v fits a = record {
  typed = record { globals = values_set h s.objects.classes s.globals program.globals n t v a.typed.globals is fits; leaves = a.typed.leaves; held = a.typed.held; frames = a.typed.frames; running = a.typed.running };
  runs = a.runs;
}
assigned_sound h program s body top (Local n) t is v fits a = record {
  typed = record { globals = a.typed.globals; leaves = a.typed.leaves; held = a.typed.held; frames = local_typed h program s.objects.classes body n t v is fits s.frames top a.typed.frames; running = local_some s.frames n v a.typed.running };
  runs = a.runs;
}

-- who waits for a value takes it
pub given_sound : (h : Classes) (program : TypedProgram) (s : ProgramState) (body : TypedBody) → IsOnTop program body s.frames → (t : ValueType ClassId) (target : Option Target) → FitsTarget h program.globals body t target
    → (v : Value) → IsValue h s.objects.classes v t → IsSound h program s → IsSound h program (given_to_target s v target)
given_sound h program s body top t None fits v is a = a
given_sound h program s body top t (Some target) (u, there, converts) v is a =
    assigned_sound h program s body top target.variable u there (converted_to v target.conversion) (converted_value h s.objects.classes t u target.conversion converts v is) a

-- the body that called
pub called_on_top : (program : TypedProgram) (P : TypedBody → Type 0) (below : List Frame) → IsCalledFrom program P below → (body : TypedBody) × IsOnTop program body below × P body
called_on_top program P [] a = absurd a
called_on_top program P (InBody f ∷ below) a = a
called_on_top program P (InPlan f ∷ below) a = absurd a

pub on_top_called : (program : TypedProgram) (P : TypedBody → Type 0) (body : TypedBody) (below : List Frame) → IsOnTop program body below → P body → IsCalledFrom program P below
on_top_called program P body [] a p = absurd a
on_top_called program P body (InBody f ∷ below) a p = (body, a, p)
on_top_called program P body (InPlan f ∷ below) a p = absurd a

pub called_some : (program : TypedProgram) (P : TypedBody → Type 0) (below : List Frame) → IsCalledFrom program P below → below ≡ [] → ⊥
called_some program P [] a e = a
called_some program P (f ∷ below) a e = let g : f ∷ below ≡ [] = e in cc

-- what the body on top sees
pub sight_typed : (h : Classes) (program : TypedProgram) (s : ProgramState) (f : RunningBody) (below : List Frame) (body : TypedBody) → s.frames ≡ InBody f ∷ below → owned_body program f.owner ≡ Some body → body.owner ≡ f.owner → IsTypedState h program s
    → IsTypedSight h (scope_of h program.globals body) (sight s f)
sight_typed h program s f below body frames there owner a =
    let top = subst (λ (fs : List Frame). AreTypedFrames h program s.objects.classes fs) frames a.frames in
    let same : top.0.0 ≡ body = same_body program f.owner top.0.0 body top.0.1.there there in
    record {
      globals = a.globals;
      locals = subst (λ (b : TypedBody). AreValues h s.objects.classes f.locals b.locals) same top.0.1.locals;
      this = subst (λ (o : Owner). IsThis h s.objects.classes (this_of o) f.this) (sym owner) top.0.1.this;
      leaves = a.leaves;
    }
