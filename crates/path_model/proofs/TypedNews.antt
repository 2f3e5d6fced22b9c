-- A `new` leads from a typed state to a typed one.
use Rattle.std.proofs.Common.{◌≡◌, ℕ, false, ⊎_elim, Option, Some, List, [], ◌∷◌, ◌++◌, length, refl}
use Rattle.std.specs.Prelude.{slice_get, nat_eq, if◌then◌else◌}
use Rattle.std.proofs.lemmas.Bool.{eq-eqb}
use Rattle.foundation.proofs.Truth.{split, not_both}
use Rattle.foundation.proofs.Places.{get_pushed, get_last}
use Rattle.foundation.proofs.Members.{Has}
use Rattle.cxx_hierarchy.specs.declared.records.ClassId.{ClassId}
use Rattle.cxx_hierarchy.specs.declared.records.ValueType.{ValueType}
use Rattle.cxx_hierarchy.specs.declared.records.ValueType.TheVariants.{Pointer as PointerType}
use Rattle.cxx_hierarchy.specs.Classes.{Classes}
use Rattle.cxx_subobject.specs.Locations.{IsPartOf}
use Rattle.cxx_program.specs.declared.program.TypedBody.{TypedBody}
use Rattle.cxx_program.specs.declared.program.TypedProgram.{TypedProgram}
use Rattle.path_plan.specs.Places.{part}
use Rattle.path_model.specs.Values.{Unset, Leaf, Objects}
use Rattle.path_model.specs.States.{Target, ProgramState}
use Rattle.path_model.specs.Effects.{with_new_object, new_made}
use Rattle.path_model.specs.TypedStates.{IsValue, IsInBitField, IsLeafMade, FitsTarget, FitsMadeObject, width_of_leaf}
use Rattle.path_model.proofs.TypedValues.{value_grown, values_grown}
use Rattle.path_model.proofs.TypedBits.{unset_held}
use Rattle.path_model.proofs.TypedViews.{AreRunningParts}
use Rattle.path_model.proofs.TypedFrames.{IsSound, IsSoundNext, IsOnTop, frames_grown, on_top_called}

-- an object that is not the new one was made before
old_object : (cs : List ClassId) (c : ClassId) (k : ℕ) (d : ClassId) → slice_get (cs ++ c ∷ []) k ≡ Some d → nat_eq k (length cs) ≡ false → slice_get cs k ≡ Some d
old_object cs c k d e differ = ⊎_elim (λ old. old) (λ new. absurd (not_both (eq-eqb k (length cs) new.0) differ)) (get_pushed cs c k d e)

-- so was a leaf of such an object
made_before : (h : Classes) (s : Objects) (c : ClassId) (l : Leaf) (t : ValueType ClassId) → IsLeafMade h (with_new_object s c).classes l t → nat_eq l.part.object (length s.classes) ≡ false → IsLeafMade h s.classes l t
made_before h s c l t is differ =
    let p = is.part in
    record { class = is.class; part = record { class = p.class; made = old_object s.classes c l.part.object p.class p.made differ; inside = p.inside; of_class = p.of_class }; element = is.element }

new_leaves : (h : Classes) (s : Objects) (c : ClassId) → ((l : Leaf) (t : ValueType ClassId) → IsLeafMade h s.classes l t → IsValue h s.classes (s.leaf l) t)
    → (l : Leaf) (t : ValueType ClassId) → IsLeafMade h (with_new_object s c).classes l t → IsValue h (with_new_object s c).classes ((with_new_object s c).leaf l) t
new_leaves h s c old l t is = split (nat_eq l.part.object (length s.classes)) (λ b. nat_eq l.part.object (length s.classes) ≡ b → IsValue h (s.classes ++ c ∷ []) (if b then Unset else s.leaf l) t)
    (λ _ _. tt)
    (λ differ _. value_grown h s.classes (c ∷ []) (s.leaf l) t (old l t (made_before h s c l t is differ))) refl

new_held : (h : Classes) (s : Objects) (c : ClassId) → ((l : Leaf) (t : ValueType ClassId) → IsLeafMade h s.classes l t → IsInBitField (width_of_leaf h l) (s.leaf l) t)
    → (l : Leaf) (t : ValueType ClassId) → IsLeafMade h (with_new_object s c).classes l t → IsInBitField (width_of_leaf h l) ((with_new_object s c).leaf l) t
new_held h s c old l t is = split (nat_eq l.part.object (length s.classes)) (λ b. nat_eq l.part.object (length s.classes) ≡ b → IsInBitField (width_of_leaf h l) (if b then Unset else s.leaf l) t)
    (λ _ _. unset_held (width_of_leaf h l) t) (λ differ _. old l t (made_before h s c l t is differ)) refl

new_runs : (h : Classes) (s : Objects) (c : ClassId) → AreRunningParts h s → AreRunningParts h (with_new_object s c)
new_runs h s c old k d o x is has = split (nat_eq k (length s.classes)) (λ b. nat_eq k (length s.classes) ≡ b → Has (if b then [] else s.phases.running k o) x → IsPartOf h d (part k o x))
    (λ _ _ none. absurd none) (λ differ _ more. old k d o x (old_object s.classes c k d is differ) more) refl has

pub new_sound : (h : Classes) (program : TypedProgram) (s : ProgramState) (body : TypedBody) → IsOnTop program body s.frames → (c : ClassId) (target : Option Target) → FitsTarget h program.globals body (PointerType c) target → IsSound h program s
    → IsSoundNext h program (new_made h program s c target)
new_sound h program s body top c target fits b =
    let cs = s.objects.classes in
    record {
      typed = record {
        globals = values_grown h cs (c ∷ []) s.globals program.globals b.typed.globals;
        leaves = new_leaves h s.objects c b.typed.leaves;
        held = new_held h s.objects c b.typed.held;
        frames = (
          on_top_called program (FitsMadeObject h program.globals (cs ++ c ∷ []) (length cs) target) body s.frames top (record { class = c; made = get_last cs c; fits = fits }),
          frames_grown h program cs (c ∷ []) s.frames b.typed.frames,
        );
        running = λ g. cc;
      };
      runs = new_runs h s.objects c b.runs;
    }
