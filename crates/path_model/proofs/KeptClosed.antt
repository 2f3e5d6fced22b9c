-- An object is closed exactly where its whole has ended: events and new objects keep that.
use Rattle.std.proofs.Common.{◌≡◌, ℕ, ⊎_elim, Bool, true, false, Some, length, refl, ap, subst, sym, ◌∙◌}
use Rattle.std.specs.Prelude.{slice_get, nat_eq, if◌then◌else◌}
use Rattle.std.proofs.lemmas.Bool.{eq-eqb}
use Rattle.cxx_hierarchy.specs.declared.records.ClassId.{ClassId}
use Rattle.cxx_hierarchy.specs.Classes.{Classes}
use Rattle.cxx_program.specs.declared.program.TypedProgram.{TypedProgram}
use Rattle.foundation.proofs.Places.{get_pushed}
use Rattle.foundation.proofs.Truth.{split}
use Rattle.path_plan.specs.Places.{ObjectPart, same_part}
use Rattle.path_plan.specs.Phases.{Phase, Raw, InBases, ReadyBuilding, Complete, ReadyEnding, EndingBases, Ended, PartEvent, Begin, Ready, Init, Body, Done, Ending, Bases, End, put}
use Rattle.path_plan.specs.Views.{Fits}
use Rattle.path_plan.specs.Whole.{whole_part}
use Rattle.path_plan.proofs.Same.{put_same, put_other, part_cases}
use Rattle.path_model.specs.Values.{Objects}
use Rattle.path_model.specs.Outs.{class_or_first, object_class}
use Rattle.path_model.specs.Effects.{with_new_object}
use Rattle.path_model.specs.Steps.{objects_after}

abbrev pub is_ended : Phase → Bool
is_ended Raw = false
is_ended InBases = false
is_ended ReadyBuilding = false
is_ended Complete = false
is_ended ReadyEnding = false
is_ended EndingBases = false
is_ended Ended = true

-- the closed objects are those whose whole has ended
abbrev pub AreClosed : Objects → Type 0
AreClosed x = (k : ℕ) (c : ClassId) → slice_get x.classes k ≡ Some c → x.is_closed k ≡ is_ended (x.phases.phase (whole_part k c))

-- a part goes from one phase to another, neither of which is the last
put_closed : (x : Objects) → AreClosed x → (p : ObjectPart) (y z : Phase) → x.phases.phase p ≡ y → is_ended y ≡ false → is_ended z ≡ false → (k : ℕ) (c : ClassId) → slice_get x.classes k ≡ Some c
    → x.is_closed k ≡ is_ended (put x.phases.phase p z (whole_part k c))
put_closed x are p y z found live still k c got = are k c got ∙ ⊎_elim
    (λ (same : p ≡ whole_part k c). ap is_ended (ap x.phases.phase (sym same) ∙ found) ∙ (live ∙ (sym still ∙ ap is_ended (sym (put_same x.phases.phase p z) ∙ ap (put x.phases.phase p z) same))))
    (λ differ. ap is_ended (sym (put_other x.phases.phase p z (whole_part k c) differ)))
    (part_cases p (whole_part k c))

end_closed : (x : Objects) → AreClosed x → (p : ObjectPart) (k : ℕ) (c : ClassId) → slice_get x.classes k ≡ Some c
    → (if same_part p (whole_part k (object_class x k)) then true else x.is_closed k) ≡ is_ended (put x.phases.phase p Ended (whole_part k c))
end_closed x are p k c got = subst (λ (d : ClassId). (if same_part p (whole_part k d) then true else x.is_closed k) ≡ is_ended (put x.phases.phase p Ended (whole_part k c))) (sym (ap class_or_first got))
    (split (same_part p (whole_part k c)) (λ b. (if b then true else x.is_closed k) ≡ is_ended (if b then Ended else x.phases.phase (whole_part k c))) (λ e. refl) (λ e. are k c got))

pub event_closed : (h : Classes) (program : TypedProgram) (x : Objects) (e : PartEvent) → Fits h x.phases e → AreClosed x → AreClosed (objects_after program x e)
event_closed h program x (Begin p) fits are = put_closed x are p Raw InBases fits refl refl
event_closed h program x (Ready p) fits are = put_closed x are p InBases ReadyBuilding fits.0 refl refl
event_closed h program x (Init p m) fits are = are
event_closed h program x (Body p) fits are = are
event_closed h program x (Done p) fits are = put_closed x are p ReadyBuilding Complete fits.0 refl refl
event_closed h program x (Ending p) fits are = put_closed x are p Complete ReadyEnding fits refl refl
event_closed h program x (Bases p) fits are = put_closed x are p ReadyEnding EndingBases fits.0 refl refl
event_closed h program x (End p) fits are = end_closed x are p

pub made_closed : (x : Objects) (c : ClassId) → AreClosed x → AreClosed (with_new_object x c)
made_closed x c are k d got = split (nat_eq k (length x.classes))
    (λ b. nat_eq k (length x.classes) ≡ b → (if b then false else x.is_closed k) ≡ is_ended (if b then Raw else x.phases.phase (whole_part k d)))
    (λ e _. refl)
    (λ e _. are k d (⊎_elim (λ old. old) (λ new. let f = eq-eqb k (length x.classes) new.0 in absurd (cc)) (get_pushed x.classes c k d got))) refl
