-- The construction of a heap object is coherent and settled, and completes it.
use Rattle.std.proofs.Common.{◌≡◌, ℕ, ◌+◌, ◌⊎◌, inl, inr, ⊎_elim, true, false, Some, None, List, [], ◌∷◌, ◌++◌, refl, ap, subst, sym, ◌∙◌, arith}
use Rattle.cxx_hierarchy.specs.declared.records.ClassId.{ClassId}
use Rattle.cxx_hierarchy.specs.Classes.{Classes}
use Rattle.cxx_hierarchy.specs.Hierarchies.{IsHierarchy}
use Rattle.path_plan.specs.Places.{Step, ObjectPart, IsPartWithin, here, deeper}
use Rattle.path_plan.specs.Phases.{Raw, Complete, is_half, is_ready, Phases, top_subobject, phases_after_all}
use Rattle.path_plan.specs.declared.form.Form.TheVariants.{InFull}
use Rattle.path_plan.specs.Plans.{Bodies}
use Rattle.path_plan.specs.Whole.{whole_part, construction, IsNew, StandsWhole, IsSameBut, IsBuilt}
use Rattle.path_plan.proofs.Names.{Token, Of, Member, Index, owner_name, sub_name, name, Begins}
use Rattle.path_plan.proofs.Growth.{Inv, Made, EventsIn, plays_coherent, plays_after}
use Rattle.path_plan.proofs.Around.{Stage, kid_object, all_in}
use Rattle.path_plan.proofs.Segment.{build_good}

pub in_object : (h : Classes) (q p : ObjectPart) → IsPartWithin h q p → q.object ≡ p.object
in_object h q _ (here p e) = ap (λ (x : ObjectPart). x.object) (sym e)
in_object h q _ (deeper p r kid more) = in_object h q r more ∙ kid_object h p r kid

owner_first : (k : ℕ) (o : List Step) → (rest : List Token) × (owner_name k o ≡ Of k ∷ rest)
owner_first k [] = ([], refl)
owner_first k (step ∷ o) =
    let r = owner_first k o in
    (((r.0 ++ sub_name step.base) ++ Member step.member ∷ []) ++ Index step.index ∷ [], rw r.1 refl)

named_object : (k : ℕ) (q : ObjectPart) → Begins (Of k ∷ []) (name q) → q.object ≡ k
named_object k q b =
    let r = owner_first q.object q.owner in
    let e : Of q.object ∷ (r.0 ++ sub_name q.at) ≡ Of k ∷ b.rest = sym (ap (λ x. x ++ sub_name q.at) r.1) ∙ b.is in
    cc

new_inv : (h : Classes) (k : ℕ) (s : Phases) → IsNew k s → Inv h k s
new_inv h k s new = record {
  half_top = λ q ob half. absurd (let e : false ≡ true = sym (ap is_half (new.raw q ob)) ∙ half in cc);
  kids = λ p q ob e kid. absurd (let f : Raw ≡ Complete = sym (new.raw p ob) ∙ e in cc);
  bases = λ p q ob half kid. absurd (let e : false ≡ true = sym (ap is_half (new.raw p ob)) ∙ half in cc);
}

new_stage : (h : Classes) (k : ℕ) (c : ClassId) (s : Phases) → IsNew k s → Stage h InFull c (whole_part k c) s
new_stage h k c s new = record {
  inv = new_inv h k s new;
  raw = λ q b. new.raw q (named_object k q b);
  quiet = λ q ob own. ap is_half (new.raw q ob);
  views = λ o x differ e. absurd (let f : None ≡ Some x = sym (ap top_subobject (new.idle o)) ∙ e in cc);
  takes = refl;
  has_shared = tt;
}

-- each part of the number is as it was, or a part of the object that is complete now
pub construction_changes : (h : Classes) → IsHierarchy h → (bodies : Bodies) (k : ℕ) (c : ClassId) (s : Phases) → IsNew k s
    → (q : ObjectPart) → ((phases_after_all s (construction h bodies k c)).phase q ≡ s.phase q) ⊎ (((phases_after_all s (construction h bodies k c)).phase q ≡ Complete) × IsPartWithin h q (whole_part k c))
construction_changes h keeps bodies k c s new q =
    let run = (build_good h keeps bodies (c.0 + 1)).at InFull c (whole_part k c) s (omega arith) (new_stage h k c s new) in
    let is = plays_after h s run.end (construction h bodies k c) run.plays in
    subst (λ (x : Phases). (x.phase q ≡ s.phase q) ⊎ ((x.phase q ≡ Complete) × IsPartWithin h q (whole_part k c))) (sym is)
    (⊎_elim (λ e. inl e) (λ (m : Made h (owner_name k []) (whole_part k c) run.end q). inr (m.complete, m.inside)) (run.went.changed q))

pub construction_builds : (h : Classes) → IsHierarchy h → (bodies : Bodies) (k : ℕ) (c : ClassId) (s : Phases) → IsNew k s → IsBuilt h bodies k c s
construction_builds h keeps bodies k c s new =
    let p = whole_part k c in
    let run = (build_good h keeps bodies (c.0 + 1)).at InFull c p s (omega arith) (new_stage h k c s new) in
    let is = plays_after h s run.end (construction h bodies k c) run.plays in
    let standing : StandsWhole h k c run.end = record {
      complete = λ q inside. all_in h k run.end run.went.inv q p refl inside run.did;
      none = λ q ob out. ⊎_elim (λ e. ap is_ready (e ∙ new.raw q ob)) (λ (m : Made h (owner_name k []) p run.end q). absurd (out m.inside)) (run.went.changed q);
      idle = λ o. run.went.running k o ∙ new.idle o;
    } in
    let others : IsSameBut k s run.end = record {
      phase = λ q off. ⊎_elim (λ e. e) (λ (m : Made h (owner_name k []) p run.end q). absurd (off (in_object h q p m.inside))) (run.went.changed q);
      running = λ j o off. run.went.running j o;
    } in
    record {
      coherent = plays_coherent h s run.end (construction h bodies k c) run.plays;
      standing = subst (λ (x : Phases). StandsWhole h k c x) (sym is) standing;
      others = subst (λ (x : Phases). IsSameBut k s x) (sym is) others;
    }

pub construction_inside : (h : Classes) → IsHierarchy h → (bodies : Bodies) (k : ℕ) (c : ClassId) (s : Phases) → IsNew k s → EventsIn h (whole_part k c) (construction h bodies k c)
construction_inside h keeps bodies k c s new = ((build_good h keeps bodies (c.0 + 1)).at InFull c (whole_part k c) s (omega arith) (new_stage h k c s new)).inside
