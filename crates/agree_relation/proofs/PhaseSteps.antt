-- What events that fit do to the phase of a part, and when a part stands on the stack of its complete object.
use Rattle.std.proofs.Common.{◌≡◌, ℕ, ⊎_elim, inl, inr, true, false, Some, List, [], ◌∷◌, refl, ap, sym, subst, ◌∙◌}
use Rattle.std.specs.Prelude.{◌⊎◌, if◌then◌else◌}
use Rattle.foundation.proofs.Truth.{split}
use Rattle.foundation.proofs.Members.{Has}
use Rattle.cxx_hierarchy.specs.declared.records.ClassId.{ClassId}
use Rattle.cxx_hierarchy.specs.Classes.{Classes}
use Rattle.cxx_subobject.specs.declared.Subobject.{Subobject}
use Rattle.cxx_subobject.specs.Subobjects.{whole_of}
use Rattle.cxx_subobject.specs.Locations.{Step, ObjectPart}
use Rattle.path_plan.specs.Places.{part, same_complete_object}
use Rattle.path_plan.specs.Phases.{Phase, Raw, InBases, ReadyBuilding, Complete, ReadyEnding, EndingBases, Ended, is_complete, Phases, PartEvent, Begin, Ready, Init, Body, Done, Ending, Bases, End, put, rest_of, top_subobject, with_pushed_part, popped, phases_after, phases_after_all, is_running}
use Rattle.path_plan.specs.Views.{view, Fits, Coherent}
use Rattle.path_plan.proofs.Same.{owner_same, put_same, put_other, part_cases, pushed_same}

-- the event takes the part out of the phase
abbrev pub Leaves : PartEvent → ObjectPart → Phase → Type 0
Leaves (Begin p) q y = (p ≡ q) × (Raw ≡ y)
Leaves (Ready p) q y = (p ≡ q) × (InBases ≡ y)
Leaves (Init p m) q y = ⊥
Leaves (Body p) q y = ⊥
Leaves (Done p) q y = (p ≡ q) × (ReadyBuilding ≡ y)
Leaves (Ending p) q y = (p ≡ q) × (Complete ≡ y)
Leaves (Bases p) q y = (p ≡ q) × (ReadyEnding ≡ y)
Leaves (End p) q y = (p ≡ q) × (EndingBases ≡ y)

put_step : (phase : ObjectPart → Phase) (p q : ObjectPart) (x y z : Phase) → phase p ≡ x → phase q ≡ y → ((p ≡ q) × (x ≡ y)) ⊎ (put phase p z q ≡ y)
put_step phase p q x y z here there = ⊎_elim (λ same. inl (same, sym here ∙ (ap phase same ∙ there))) (λ differ. inr (put_other phase p z q differ ∙ there)) (part_cases p q)

pub fits_step : (h : Classes) (s : Phases) (e : PartEvent) (q : ObjectPart) (y : Phase) → Fits h s e → s.phase q ≡ y → Leaves e q y ⊎ ((phases_after s e).phase q ≡ y)
fits_step h s (Begin p) q y fits there = put_step s.phase p q Raw y InBases fits there
fits_step h s (Ready p) q y fits there = put_step s.phase p q InBases y ReadyBuilding fits.0 there
fits_step h s (Init p m) q y fits there = inr there
fits_step h s (Body p) q y fits there = inr there
fits_step h s (Done p) q y fits there = put_step s.phase p q ReadyBuilding y Complete fits.0 there
fits_step h s (Ending p) q y fits there = put_step s.phase p q Complete y ReadyEnding fits there
fits_step h s (Bases p) q y fits there = put_step s.phase p q ReadyEnding y EndingBases fits.0 there
fits_step h s (End p) q y fits there = put_step s.phase p q EndingBases y Ended fits.0 there

from_raw : (e : PartEvent) (q : ObjectPart) → Leaves e q Raw → e ≡ Begin q
from_raw (Begin p) q l = ap Begin l.0
from_raw (Ready p) q l = absurd (let f = l.1 in cc)
from_raw (Init p m) q l = absurd l
from_raw (Body p) q l = absurd l
from_raw (Done p) q l = absurd (let f = l.1 in cc)
from_raw (Ending p) q l = absurd (let f = l.1 in cc)
from_raw (Bases p) q l = absurd (let f = l.1 in cc)
from_raw (End p) q l = absurd (let f = l.1 in cc)

from_complete : (e : PartEvent) (q : ObjectPart) → Leaves e q Complete → e ≡ Ending q
from_complete (Begin p) q l = absurd (let f = l.1 in cc)
from_complete (Ready p) q l = absurd (let f = l.1 in cc)
from_complete (Init p m) q l = absurd l
from_complete (Body p) q l = absurd l
from_complete (Done p) q l = absurd (let f = l.1 in cc)
from_complete (Ending p) q l = ap Ending l.0
from_complete (Bases p) q l = absurd (let f = l.1 in cc)
from_complete (End p) q l = absurd (let f = l.1 in cc)

from_ended : (e : PartEvent) (q : ObjectPart) → Leaves e q Ended → ⊥
from_ended (Begin p) q l = let f = l.1 in cc
from_ended (Ready p) q l = let f = l.1 in cc
from_ended (Init p m) q l = l
from_ended (Body p) q l = l
from_ended (Done p) q l = let f = l.1 in cc
from_ended (Ending p) q l = let f = l.1 in cc
from_ended (Bases p) q l = let f = l.1 in cc
from_ended (End p) q l = let f = l.1 in cc

-- what is raw and later is not begins in between
pub begins_in : (h : Classes) (s : Phases) (es : List PartEvent) (q : ObjectPart) → Coherent h s es → s.phase q ≡ Raw → ((phases_after_all s es).phase q ≡ Raw → ⊥) → Has es (Begin q)
begins_in h s [] q fits raw later = absurd (later raw)
begins_in h s (e ∷ es) q fits raw later = ⊎_elim (λ leaves. inl (from_raw e q leaves)) (λ stays. inr (begins_in h (phases_after s e) es q fits.1 stays later)) (fits_step h s e q Raw fits.0 raw)

-- what is complete and later is not begins to end in between
pub ends_in : (h : Classes) (s : Phases) (es : List PartEvent) (q : ObjectPart) → Coherent h s es → s.phase q ≡ Complete → ((phases_after_all s es).phase q ≡ Complete → ⊥) → Has es (Ending q)
ends_in h s [] q fits full later = absurd (later full)
ends_in h s (e ∷ es) q fits full later = ⊎_elim (λ leaves. inl (from_complete e q leaves)) (λ stays. inr (ends_in h (phases_after s e) es q fits.1 stays later)) (fits_step h s e q Complete fits.0 full)

-- what has ended does not end again
end_differs : (h : Classes) (s : Phases) (e : PartEvent) (q : ObjectPart) → Fits h s e → s.phase q ≡ Ended → e ≡ End q → ⊥
end_differs h s e q fits ended same = let f : Fits h s (End q) = subst (λ (x : PartEvent). Fits h s x) same fits in let g : EndingBases ≡ Ended = sym f.0 ∙ ended in cc

pub ends_once : (h : Classes) (s : Phases) (es : List PartEvent) (q : ObjectPart) → Coherent h s es → s.phase q ≡ Ended → Has es (End q) → ⊥
ends_once h s [] q fits ended has = has
ends_once h s (e ∷ es) q fits ended has = ⊎_elim (λ leaves. from_ended e q leaves)
    (λ stays. ⊎_elim (λ same. end_differs h s e q fits.0 ended same) (λ more. ends_once h (phases_after s e) es q fits.1 stays more) has)
    (fits_step h s e q Ended fits.0 ended)

-- without events that fit

put_not : (phase : ObjectPart → Phase) (p q : ObjectPart) (x y : Phase) → (x ≡ y → ⊥) → put phase p x q ≡ y → phase q ≡ y
put_not phase p q x y differs e = ⊎_elim
    (λ same. absurd (differs (sym (ap (put phase p x) (sym same) ∙ put_same phase p x) ∙ e)))
    (λ differ. sym (put_other phase p x q differ) ∙ e) (part_cases p q)

put_to : (phase : ObjectPart → Phase) (p q : ObjectPart) (x y : Phase) → put phase p x q ≡ y → (phase q ≡ y) ⊎ (p ≡ q)
put_to phase p q x y e = ⊎_elim (λ same. inr same) (λ differ. inl (sym (put_other phase p x q differ) ∙ e)) (part_cases p q)

done_step : (s : Phases) (e : PartEvent) (q : ObjectPart) → (phases_after s e).phase q ≡ Complete → (s.phase q ≡ Complete) ⊎ (e ≡ Done q)
done_step s (Begin p) q now = inl (put_not s.phase p q InBases Complete (λ e. cc) now)
done_step s (Ready p) q now = inl (put_not s.phase p q ReadyBuilding Complete (λ e. cc) now)
done_step s (Init p m) q now = inl now
done_step s (Body p) q now = inl now
done_step s (Done p) q now = ⊎_elim (λ before. inl before) (λ same. inr (ap Done same)) (put_to s.phase p q Complete Complete now)
done_step s (Ending p) q now = inl (put_not s.phase p q ReadyEnding Complete (λ e. cc) now)
done_step s (Bases p) q now = inl (put_not s.phase p q EndingBases Complete (λ e. cc) now)
done_step s (End p) q now = inl (put_not s.phase p q Ended Complete (λ e. cc) now)

-- what is complete was, or was done in between
pub done_in : (s : Phases) (es : List PartEvent) (q : ObjectPart) → (phases_after_all s es).phase q ≡ Complete → (s.phase q ≡ Complete) ⊎ Has es (Done q)
done_in s [] q now = inl now
done_in s (e ∷ es) q now = ⊎_elim (λ then_. ⊎_elim (λ before. inl before) (λ same. inr (inl same)) (done_step s e q then_)) (λ more. inr (inr more)) (done_in (phases_after s e) es q now)

end_step : (s : Phases) (e : PartEvent) (q : ObjectPart) → (phases_after s e).phase q ≡ Ended → (s.phase q ≡ Ended) ⊎ (e ≡ End q)
end_step s (Begin p) q now = inl (put_not s.phase p q InBases Ended (λ e. cc) now)
end_step s (Ready p) q now = inl (put_not s.phase p q ReadyBuilding Ended (λ e. cc) now)
end_step s (Init p m) q now = inl now
end_step s (Body p) q now = inl now
end_step s (Done p) q now = inl (put_not s.phase p q Complete Ended (λ e. cc) now)
end_step s (Ending p) q now = inl (put_not s.phase p q ReadyEnding Ended (λ e. cc) now)
end_step s (Bases p) q now = inl (put_not s.phase p q EndingBases Ended (λ e. cc) now)
end_step s (End p) q now = ⊎_elim (λ before. inl before) (λ same. inr (ap End same)) (put_to s.phase p q Ended Ended now)

pub ended_in : (s : Phases) (es : List PartEvent) (q : ObjectPart) → (phases_after_all s es).phase q ≡ Ended → (s.phase q ≡ Ended) ⊎ Has es (End q)
ended_in s [] q now = inl now
ended_in s (e ∷ es) q now = ⊎_elim (λ then_. ⊎_elim (λ before. inl before) (λ same. inr (inl same)) (end_step s e q then_)) (λ more. inr (inr more)) (ended_in (phases_after s e) es q now)

raw_step : (s : Phases) (e : PartEvent) (q : ObjectPart) → (phases_after s e).phase q ≡ Raw → s.phase q ≡ Raw
raw_step s (Begin p) q now = put_not s.phase p q InBases Raw (λ e. cc) now
raw_step s (Ready p) q now = put_not s.phase p q ReadyBuilding Raw (λ e. cc) now
raw_step s (Init p m) q now = now
raw_step s (Body p) q now = now
raw_step s (Done p) q now = put_not s.phase p q Complete Raw (λ e. cc) now
raw_step s (Ending p) q now = put_not s.phase p q ReadyEnding Raw (λ e. cc) now
raw_step s (Bases p) q now = put_not s.phase p q EndingBases Raw (λ e. cc) now
raw_step s (End p) q now = put_not s.phase p q Ended Raw (λ e. cc) now

-- what is raw was raw, and did not begin in between
pub raw_before : (s : Phases) (es : List PartEvent) (q : ObjectPart) → (phases_after_all s es).phase q ≡ Raw → s.phase q ≡ Raw
raw_before s [] q now = now
raw_before s (e ∷ es) q now = raw_step s e q (raw_before (phases_after s e) es q now)

pub raw_lacks : (s : Phases) (es : List PartEvent) (q : ObjectPart) → (phases_after_all s es).phase q ≡ Raw → Has es (Begin q) → ⊥
raw_lacks s [] q now has = has
raw_lacks s (e ∷ es) q now has = ⊎_elim
    (λ same. let begun : (phases_after s e).phase q ≡ InBases = ap (λ (x : PartEvent). (phases_after s x).phase q) same ∙ put_same s.phase q InBases in let f : InBases ≡ Raw = sym begun ∙ raw_before (phases_after s e) es q now in cc)
    (λ more. raw_lacks (phases_after s e) es q now more) has

-- stacks

-- a part that runs stands on the stack of its complete object
abbrev pub IsOnStack : Phases → ObjectPart → Type 0
IsOnStack s q = is_running (s.phase q) ≡ true → Has (s.running q.object q.owner) q.at

pushed_keeps : (running : ℕ → List Step → List Subobject) (p : ObjectPart) (k : ℕ) (o : List Step) (x : Subobject) → Has (running k o) x → Has (with_pushed_part running p k o) x
pushed_keeps running p k o x has = split (same_complete_object p.object p.owner k o) (λ b. Has (if b then p.at ∷ running k o else running k o) x) (λ _. inr has) (λ _. has)

pushed_has : (running : ℕ → List Step → List Subobject) (p : ObjectPart) → Has (with_pushed_part running p p.object p.owner) p.at
pushed_has running p = subst (λ (xs : List Subobject). Has xs p.at) (sym (pushed_same running p)) (inl refl)

below_top : (xs : List Subobject) (top x : Subobject) → top_subobject xs ≡ Some top → (top ≡ x → ⊥) → Has xs x → Has (rest_of xs) x
below_top [] top x first differ has = absurd has
below_top (y ∷ xs) top x first differ has = ⊎_elim (λ same. absurd (differ (let f : Some y ≡ Some top = first in let g : y ≡ top = cc in sym g ∙ same))) (λ more. more) has

popped_keeps : (running : ℕ → List Step → List Subobject) (p q : ObjectPart) → top_subobject (running p.object p.owner) ≡ Some p.at → (p ≡ q → ⊥) → Has (running q.object q.owner) q.at → Has (popped running p q.object q.owner) q.at
popped_keeps running p q top differ has = split (same_complete_object p.object p.owner q.object q.owner) (λ b. Has (if b then rest_of (running q.object q.owner) else running q.object q.owner) q.at)
    (λ e.
    let one = owner_same p.object p.owner q.object q.owner e in
    let here : top_subobject (running q.object q.owner) ≡ Some p.at = sym (λ i. top_subobject (running (one.0 i) (one.1 i))) ∙ top in
    below_top (running q.object q.owner) p.at q.at here (λ same. differ (λ i. part (one.0 i) (one.1 i) (same i))) has)
    (λ _. has)

begun_stack : (s : Phases) (p q : ObjectPart) (x : Phase) → IsOnStack s q → is_running (put s.phase p x q) ≡ true → Has (with_pushed_part s.running p q.object q.owner) q.at
begun_stack s p q x old runs = ⊎_elim
    (λ same. subst (λ (z : ObjectPart). Has (with_pushed_part s.running p z.object z.owner) z.at) same (pushed_has s.running p))
    (λ differ. pushed_keeps s.running p q.object q.owner q.at (old (sym (ap is_running (put_other s.phase p x q differ)) ∙ runs)))
    (part_cases p q)

moved_stack : (s : Phases) (p q : ObjectPart) (x y : Phase) → s.phase p ≡ y → is_running y ≡ true → IsOnStack s q → is_running (put s.phase p x q) ≡ true → Has (s.running q.object q.owner) q.at
moved_stack s p q x y now was old runs = ⊎_elim
    (λ same. old (ap is_running (sym (ap s.phase same) ∙ now) ∙ was))
    (λ differ. old (sym (ap is_running (put_other s.phase p x q differ)) ∙ runs))
    (part_cases p q)

left_stack : (s : Phases) (p q : ObjectPart) (x : Phase) → is_running x ≡ false → top_subobject (s.running p.object p.owner) ≡ Some p.at → IsOnStack s q → is_running (put s.phase p x q) ≡ true → Has (popped s.running p q.object q.owner) q.at
left_stack s p q x stops top old runs = ⊎_elim
    (λ same. absurd (let f : true ≡ false = sym runs ∙ (ap is_running (ap (put s.phase p x) (sym same) ∙ put_same s.phase p x) ∙ stops) in cc))
    (λ differ. popped_keeps s.running p q top differ (old (sym (ap is_running (put_other s.phase p x q differ)) ∙ runs)))
    (part_cases p q)

stack_step : (h : Classes) (s : Phases) (e : PartEvent) (q : ObjectPart) → Fits h s e → IsOnStack s q → IsOnStack (phases_after s e) q
stack_step h s (Begin p) q fits old = begun_stack s p q InBases old
stack_step h s (Ready p) q fits old = moved_stack s p q ReadyBuilding InBases fits.0 refl old
stack_step h s (Init p m) q fits old = old
stack_step h s (Body p) q fits old = old
stack_step h s (Done p) q fits old = left_stack s p q Complete refl fits.1 old
stack_step h s (Ending p) q fits old = begun_stack s p q ReadyEnding old
stack_step h s (Bases p) q fits old = moved_stack s p q EndingBases ReadyEnding fits.0 refl old
stack_step h s (End p) q fits old = left_stack s p q Ended refl fits.1 old

pub stack_after : (h : Classes) (s : Phases) (es : List PartEvent) (q : ObjectPart) → Coherent h s es → IsOnStack s q → IsOnStack (phases_after_all s es) q
stack_after h s [] q fits old = old
stack_after h s (e ∷ es) q fits old = stack_after h (phases_after s e) es q fits.1 (stack_step h s e q fits.0 old)

-- a complete object whose whole has begun and not ended has a view

goes_on : (x : Phase) → (x ≡ Raw → ⊥) → (x ≡ Ended → ⊥) → (is_complete x ≡ true) ⊎ (is_running x ≡ true)
goes_on Raw begun unended = absurd (begun refl)
goes_on InBases begun unended = inr refl
goes_on ReadyBuilding begun unended = inr refl
goes_on Complete begun unended = inl refl
goes_on ReadyEnding begun unended = inr refl
goes_on EndingBases begun unended = inr refl
goes_on Ended begun unended = absurd (unended refl)

top_there : (xs : List Subobject) (x : Subobject) → Has xs x → (y : Subobject) × (top_subobject xs ≡ Some y)
top_there [] x has = absurd has
top_there (y ∷ xs) x has = (y, refl)

pub view_there : (s : Phases) (k : ℕ) (o : List Step) (d : ClassId) → IsOnStack s (part k o (whole_of d)) → (s.phase (part k o (whole_of d)) ≡ Raw → ⊥) → (s.phase (part k o (whole_of d)) ≡ Ended → ⊥) → (y : Subobject) × (view s k o d ≡ Some y)
view_there s k o d stack begun unended = split (is_complete (s.phase (part k o (whole_of d))))
    (λ b. is_complete (s.phase (part k o (whole_of d))) ≡ b → (y : Subobject) × ((if b then Some (whole_of d) else top_subobject (s.running k o)) ≡ Some y))
    (λ full _. (whole_of d, refl))
    (λ less _. ⊎_elim (λ full. absurd (let f : true ≡ false = sym full ∙ less in cc)) (λ runs. top_there (s.running k o) (whole_of d) (stack runs)) (goes_on (s.phase (part k o (whole_of d))) begun unended)) refl
