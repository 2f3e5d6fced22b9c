-- The last event of a plan is that of its own part: until then the part has not ended.
use Rattle.std.proofs.Common.{◌≡◌, ℕ, suc, ◌+◌, ◌⊎◌, inl, inr, ⊎_elim, List, [], ◌∷◌, ◌++◌, length, refl, ap, subst, sym, ◌∙◌, arith}
use Rattle.std.specs.Prelude.{slice_get}
use Rattle.std.specs.List.{flat_map}
use Rattle.cxx_hierarchy.specs.declared.records.ClassId.{ClassId}
use Rattle.cxx_hierarchy.specs.Classes.{Classes, bases_of, members_of}
use Rattle.path_plan.specs.Places.{ObjectPart}
use Rattle.path_plan.specs.Phases.{Phase, Raw, InBases, ReadyBuilding, Complete, ReadyEnding, EndingBases, Ended, Phases, PartEvent, Begin, Ready, Init, Body, Done, Ending, Bases, End, put, phases_after}
use Rattle.path_plan.specs.declared.form.Form.{Form}
use Rattle.path_plan.specs.declared.form.Form.TheVariants.{InFull}
use Rattle.path_plan.specs.Plans.{Bodies, backwards, upto, virtual_order, shared_events, base_events, member_events, body_events, build, member_ending, unbuild}
use Rattle.path_plan.specs.Views.{Fits, Coherent}
use Rattle.path_plan.specs.Whole.{whole_part, construction, destruction}
use Rattle.path_plan.proofs.Same.{put_other, part_cases}

-- the last event of the list is the last one of p
abbrev pub Ends : ObjectPart → List PartEvent → Type 0
Ends p [] = ⊥
Ends p (e ∷ []) = (e ≡ Done p) ⊎ (e ≡ End p)
Ends p (e ∷ (f ∷ es)) = Ends p (f ∷ es)

-- the same where an event is left
abbrev pub EndsLast : ObjectPart → List PartEvent → Type 0
EndsLast p [] = Unit {0}
EndsLast p (e ∷ es) = Ends p (e ∷ es)

pub last_rest : (p : ObjectPart) (e : PartEvent) (es : List PartEvent) → EndsLast p (e ∷ es) → EndsLast p es
last_rest p e [] a = tt
last_rest p e (f ∷ es) a = a

pub last_from : (p : ObjectPart) (es : List PartEvent) → Ends p es → EndsLast p es
last_from p [] a = absurd a
last_from p (e ∷ es) a = a

ends_more : (p : ObjectPart) (e : PartEvent) (es : List PartEvent) → Ends p es → Ends p (e ∷ es)
ends_more p e [] a = absurd a
ends_more p e (f ∷ es) a = a

ends_append : (p : ObjectPart) (es fs : List PartEvent) → Ends p fs → Ends p (es ++ fs)
ends_append p [] fs a = a
ends_append p (e ∷ es) fs a = ends_more p e (es ++ fs) (ends_append p es fs a)

-- seven points
points_end : (p : ObjectPart) (a b c d : List PartEvent) (begin middle end : PartEvent) → Ends p (end ∷ []) → Ends p (begin ∷ (a ++ (b ++ (middle ∷ (c ++ (d ++ end ∷ []))))))
points_end p a b c d begin middle end last =
    let tail : Ends p (c ++ (d ++ end ∷ [])) = ends_append p c (d ++ end ∷ []) (ends_append p d (end ∷ []) last) in
    let half : Ends p (b ++ (middle ∷ (c ++ (d ++ end ∷ [])))) = ends_append p b (middle ∷ (c ++ (d ++ end ∷ []))) (ends_more p middle (c ++ (d ++ end ∷ [])) tail) in
    ends_more p begin (a ++ (b ++ (middle ∷ (c ++ (d ++ end ∷ []))))) (ends_append p a (b ++ (middle ∷ (c ++ (d ++ end ∷ [])))) half)

build_ends : (h : Classes) (bodies : Bodies) (n m : ℕ) (form : Form) (c : ClassId) (p : ObjectPart) → n ≡ suc m → Ends p (build h bodies n form c p)
unfolding build
build_ends h bodies n m form c p is = subst (λ k. Ends p (build h bodies k form c p)) (sym is)
    (points_end p (shared_events (build h bodies m) form p (virtual_order h c)) (flat_map (base_events (build h bodies m) p) (bases_of h c))
    (flat_map (λ i. member_events (build h bodies m) bodies c p i (slice_get (members_of h c) i)) (upto (length (members_of h c)))) (body_events (bodies.constructor c) p) (Begin p) (Ready p) (Done p) (inl refl))

pub construction_ends : (h : Classes) (bodies : Bodies) (k : ℕ) (c : ClassId) → EndsLast (whole_part k c) (construction h bodies k c)
construction_ends h bodies k c = last_from (whole_part k c) (construction h bodies k c) (build_ends h bodies (c.0 + 1) c.0 InFull c (whole_part k c) (omega arith))

unbuild_ends : (h : Classes) (bodies : Bodies) (n m : ℕ) (form : Form) (c : ClassId) (p : ObjectPart) → n ≡ suc m → Ends p (unbuild h bodies n form c p)
unfolding unbuild
unbuild_ends h bodies n m form c p is = subst (λ k. Ends p (unbuild h bodies k form c p)) (sym is)
    (points_end p (body_events (bodies.destructor c) p) (flat_map (λ i. member_ending (unbuild h bodies m) p i (slice_get (members_of h c) i)) (backwards (upto (length (members_of h c)))))
    (flat_map (base_events (unbuild h bodies m) p) (backwards (bases_of h c))) (shared_events (unbuild h bodies m) form p (backwards (virtual_order h c))) (Ending p) (Bases p) (End p) (inr refl))

pub destruction_ends : (h : Classes) (bodies : Bodies) (k : ℕ) (c : ClassId) → EndsLast (whole_part k c) (destruction h bodies k c)
destruction_ends h bodies k c = last_from (whole_part k c) (destruction h bodies k c) (unbuild_ends h bodies (c.0 + 1) c.0 InFull c (whole_part k c) (omega arith))

-- no event finds its part ended, so what has ended stays so

put_ended : (phase : ObjectPart → Phase) (p q : ObjectPart) (x y : Phase) → phase p ≡ x → (x ≡ Ended → ⊥) → phase q ≡ Ended → put phase p y q ≡ Ended
put_ended phase p q x y found live ended = ⊎_elim
    (λ (same : p ≡ q). absurd (live (sym found ∙ (ap phase same ∙ ended))))
    (λ differ. put_other phase p y q differ ∙ ended)
    (part_cases p q)

stays_ended : (h : Classes) (s : Phases) (e : PartEvent) (q : ObjectPart) → Fits h s e → s.phase q ≡ Ended → (phases_after s e).phase q ≡ Ended
stays_ended h s (Begin p) q fits ended = put_ended s.phase p q Raw InBases fits (λ e. cc) ended
stays_ended h s (Ready p) q fits ended = put_ended s.phase p q InBases ReadyBuilding fits.0 (λ e. cc) ended
stays_ended h s (Init p m) q fits ended = ended
stays_ended h s (Body p) q fits ended = ended
stays_ended h s (Done p) q fits ended = put_ended s.phase p q ReadyBuilding Complete fits.0 (λ e. cc) ended
stays_ended h s (Ending p) q fits ended = put_ended s.phase p q Complete ReadyEnding fits (λ e. cc) ended
stays_ended h s (Bases p) q fits ended = put_ended s.phase p q ReadyEnding EndingBases fits.0 (λ e. cc) ended
stays_ended h s (End p) q fits ended = put_ended s.phase p q EndingBases Ended fits.0 (λ e. cc) ended

last_fits : (h : Classes) (s : Phases) (e : PartEvent) (p : ObjectPart) → Fits h s e → (e ≡ Done p) ⊎ (e ≡ End p) → s.phase p ≡ Ended → ⊥
last_fits h s e p fits last ended = ⊎_elim
    (λ (is : e ≡ Done p). let f : Fits h s (Done p) = subst (λ (x : PartEvent). Fits h s x) is fits in let g : ReadyBuilding ≡ Ended = sym f.0 ∙ ended in cc)
    (λ (is : e ≡ End p). let f : Fits h s (End p) = subst (λ (x : PartEvent). Fits h s x) is fits in let g : EndingBases ≡ Ended = sym f.0 ∙ ended in cc)
    last

-- a part whose last event is to come has not ended
pub not_ended : (h : Classes) (p : ObjectPart) (es : List PartEvent) (s : Phases) → Coherent h s es → Ends p es → s.phase p ≡ Ended → ⊥
not_ended h p [] s fits last ended = absurd last
not_ended h p (e ∷ []) s fits last ended = last_fits h s e p fits.0 last ended
not_ended h p (e ∷ (f ∷ es)) s fits last ended = not_ended h p (f ∷ es) (phases_after s e) fits.1 last (stays_ended h s e p fits.0 ended)
