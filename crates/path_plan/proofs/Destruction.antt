-- The destruction of a heap object is coherent and settled, and ends it.
use Rattle.std.proofs.Common.{◌≡◌, ℕ, ◌+◌, ◌⊎◌, inl, inr, ⊎_elim, List, [], ◌∷◌, refl, ap, subst, sym, ◌∙◌}
use Rattle.std.specs.Prelude.{nat_eq, if◌then◌else◌}
use Rattle.std.proofs.lemmas.Bool.{eqb-true, eq-eqb}
use Rattle.cxx_hierarchy.specs.declared.records.ClassId.{ClassId}
use Rattle.cxx_hierarchy.specs.Classes.{Classes}
use Rattle.cxx_hierarchy.specs.Hierarchies.{IsHierarchy}
use Rattle.foundation.proofs.Truth.{split}
use Rattle.foundation.proofs.Deciding.{decide_number}
use Rattle.path_plan.specs.Places.{ObjectPart, IsPartWithin}
use Rattle.path_plan.specs.Phases.{Raw, Complete, is_ready, Phases, PartEvent, Begin, Ready, Init, Body, Done, Ending, Bases, End, part_of, phases_after_all}
use Rattle.path_plan.specs.declared.form.Form.TheVariants.{InFull}
use Rattle.path_plan.specs.Plans.{Bodies}
use Rattle.path_plan.specs.Whole.{whole_part, construction, destruction, IsNew, StandsWhole, IsUnbuilt}
use Rattle.path_plan.proofs.Growth.{Plays, EventsIn, events_append}
use Rattle.path_plan.specs.Mirrors.{mirrored_event, mirrored, exchanged}
use Rattle.path_plan.proofs.Mirror.{mirror_law}
use Rattle.path_plan.proofs.Back.{mirror, mirror_all, mirror_mirror, all_back, Alike, alike_plays}
use Rattle.path_plan.proofs.Construction.{construction_builds, construction_changes, construction_inside, in_object}

-- a state from which a construction leads to the mirror of s
abbrev earlier : ℕ → Phases → Phases
earlier k s = record { phase = λ q. if nat_eq q.object k then Raw else mirror (s.phase q); running = s.running }

earlier_raw : (k : ℕ) (s : Phases) (q : ObjectPart) → q.object ≡ k → (earlier k s).phase q ≡ Raw
earlier_raw k s q ob = rw (eq-eqb q.object k ob) refl

earlier_other : (k : ℕ) (s : Phases) (q : ObjectPart) → (q.object ≡ k → ⊥) → (earlier k s).phase q ≡ mirror (s.phase q)
earlier_other k s q off = split (nat_eq q.object k) (λ t. (if t then Raw else mirror (s.phase q)) ≡ mirror (s.phase q)) (λ e. absurd (off (eqb-true q.object k e))) (λ e. refl)

earlier_new : (h : Classes) (k : ℕ) (c : ClassId) (s : Phases) → StandsWhole h k c s → IsNew k (earlier k s)
earlier_new h k c s a = record { raw = earlier_raw k s; idle = a.idle }

abbrev Counts : Classes → ℕ → ClassId → ObjectPart → Type 0
Counts h k c q = IsPartWithin h q (whole_part k c) ⊎ (q.object ≡ k → ⊥)

mirror_alike : (h : Classes) → IsHierarchy h → (bodies : Bodies) (k : ℕ) (c : ClassId) (s : Phases) → StandsWhole h k c s
    → Alike (Counts h k c) (mirror_all (phases_after_all (earlier k s) (construction h (exchanged bodies) k c))) s
mirror_alike h keeps bodies k c s a =
    let new = earlier_new h k c s a in
    let built = construction_builds h keeps (exchanged bodies) k c (earlier k s) new in
    let counts : (q : ObjectPart) → Counts h k c q → mirror ((phases_after_all (earlier k s) (construction h (exchanged bodies) k c)).phase q) ≡ s.phase q =
    λ q v. ⊎_elim
    (λ inside. ap mirror (built.standing.complete q inside) ∙ sym (a.complete q inside))
    (λ off. ap mirror (built.others.phase q off ∙ earlier_other k s q off) ∙ mirror_mirror (s.phase q)) v in
    record {
      same = counts;
      all = λ q. ⊎_elim
          (λ ob. ⊎_elim
          (λ e. let raw = e ∙ earlier_raw k s q ob in
          inr (ap mirror raw, a.none q ob (λ inside. let f : Raw ≡ Complete = sym raw ∙ built.standing.complete q inside in absurd (cc))))
          (λ made. inl (counts q (inl made.1)))
          (construction_changes h keeps (exchanged bodies) k c (earlier k s) new q))
          (λ off. inl (counts q (inr off)))
          (decide_number q.object k);
      running = λ j o. ⊎_elim
          (λ (e : j ≡ k). subst (λ i. (phases_after_all (earlier k s) (construction h (exchanged bodies) k c)).running i o ≡ s.running i o) (sym e) (built.standing.idle o ∙ sym (a.idle o)))
          (λ off. built.others.running j o off)
          (decide_number j k);
    }

pub destruction_unbuilds : (h : Classes) → IsHierarchy h → (bodies : Bodies) (k : ℕ) (c : ClassId) (s : Phases) → StandsWhole h k c s → IsUnbuilt h bodies k c s
destruction_unbuilds h keeps bodies k c s a =
    let new = earlier_new h k c s a in
    let built = construction_builds h keeps (exchanged bodies) k c (earlier k s) new in
    let es = construction h (exchanged bodies) k c in
    let back = all_back h (earlier k s) es built.coherent in
    let law : mirrored es ≡ destruction h bodies k c = mirror_law h bodies (c.0 + 1) InFull c (whole_part k c) in
    let plays = subst (λ (xs : List PartEvent). Plays h (mirror_all (phases_after_all (earlier k s) es)) xs (mirror_all (earlier k s))) law back in
    let r = alike_plays h (Counts h k c) (destruction h bodies k c) (mirror_all (phases_after_all (earlier k s) es)) s (mirror_all (earlier k s)) (mirror_alike h keeps bodies k c s a) plays in
    record {
      coherent = r.coherent;
      gone = record {
        ended = λ q inside. sym (r.alike.same q (inl inside)) ∙ ap mirror (earlier_raw k s q (in_object h q (whole_part k c) inside));
        none = λ q ob. ⊎_elim (λ e. ap is_ready (sym e ∙ ap mirror (earlier_raw k s q ob))) (λ d. d.1) (r.alike.all q);
        idle = λ o. sym (r.alike.running k o) ∙ a.idle o;
      };
      others = record {
        phase = λ q off. sym (r.alike.same q (inr off)) ∙ (ap mirror (earlier_other k s q off) ∙ mirror_mirror (s.phase q));
        running = λ j o off. sym (r.alike.running j o);
      };
    }

mirrored_part : (e : PartEvent) → part_of (mirrored_event e) ≡ part_of e
mirrored_part (Begin p) = refl
mirrored_part (Ready p) = refl
mirrored_part (Init p m) = refl
mirrored_part (Body p) = refl
mirrored_part (Done p) = refl
mirrored_part (Ending p) = refl
mirrored_part (Bases p) = refl
mirrored_part (End p) = refl

mirrored_inside : (h : Classes) (p : ObjectPart) (es : List PartEvent) → EventsIn h p es → EventsIn h p (mirrored es)
mirrored_inside h p [] a = tt
mirrored_inside h p (e ∷ es) a = events_append h p (mirrored es) (mirrored_event e ∷ []) (mirrored_inside h p es a.1) (subst (λ (q : ObjectPart). IsPartWithin h q p) (sym (mirrored_part e)) a.0, tt)

pub destruction_inside : (h : Classes) → IsHierarchy h → (bodies : Bodies) (k : ℕ) (c : ClassId) (s : Phases) → StandsWhole h k c s → EventsIn h (whole_part k c) (destruction h bodies k c)
destruction_inside h keeps bodies k c s a =
    subst (λ (xs : List PartEvent). EventsIn h (whole_part k c) xs) (mirror_law h bodies (c.0 + 1) InFull c (whole_part k c))
    (mirrored_inside h (whole_part k c) (construction h (exchanged bodies) k c) (construction_inside h keeps (exchanged bodies) k c (earlier k s) (earlier_new h k c s a)))
