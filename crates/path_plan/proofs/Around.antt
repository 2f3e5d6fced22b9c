-- What holds while a part is in its bases, in its members, and when it is done.
use Rattle.std.proofs.Common.{◌≡◌, ℕ, ⊎_elim, true, false, Some, List, refl, ap, subst, sym, ◌∙◌}
use Rattle.std.specs.Prelude.{if◌then◌else◌}
use Rattle.cxx_hierarchy.specs.declared.records.ClassId.{ClassId}
use Rattle.cxx_hierarchy.specs.Classes.{Classes}
use Rattle.cxx_hierarchy.specs.VirtualBases.{HasVirtualBase}
use Rattle.cxx_subobject.specs.declared.Subobject.{Subobject}
use Rattle.cxx_subobject.specs.Subobjects.{whole_of, class_of}
use Rattle.foundation.proofs.Truth.{split}
use Rattle.path_plan.specs.Places.{Step, ObjectPart, part, shared_part, IsKid, IsBaseKid, base_kid, member_kid, IsPartWithin, here, deeper}
use Rattle.path_plan.specs.Phases.{Phase, Raw, InBases, ReadyBuilding, Complete, ReadyEnding, EndingBases, Ended, is_half, is_complete, is_ready, Phases, Begin, Ready, Done, put, top_subobject, phases_after}
use Rattle.path_plan.specs.declared.form.Form.{Form}
use Rattle.path_plan.specs.declared.form.Form.TheVariants.{InFull, AsBase}
use Rattle.path_plan.specs.Views.{IsOnTop, Settled}
use Rattle.path_plan.proofs.Names.{Token, name, Begins, region, region_name, IsRaw}
use Rattle.path_plan.proofs.Same.{put_same, put_other, part_cases, Owns, owner_cases, pushed_same, pushed_other, popped_other}
use Rattle.path_plan.proofs.Growth.{Inv, Went, ready_stays, not_half, outside}

-- what a part of a form has to be
abbrev pub Takes : Form → ClassId → ObjectPart → Type 0
Takes InFull c p = p.at ≡ whole_of c
Takes AsBase c p = class_of p.at ≡ Some c

pub takes_class : (form : Form) (c : ClassId) (p : ObjectPart) → Takes form c p → class_of p.at ≡ Some c
takes_class InFull c p e = ap class_of e
takes_class AsBase c p e = e

abbrev pub HasShared : Classes → Form → ClassId → ObjectPart → Phases → Type 0
HasShared h InFull c p s = Unit {0}
HasShared h AsBase c p s = (v : ClassId) → HasVirtualBase h c v → s.phase (shared_part p v) ≡ Complete

-- what stands at the beginning of a part's plan
pub record Stage (h : Classes) (form : Form) (c : ClassId) (p : ObjectPart) (s : Phases) : Type 0 where
  pub inv : Inv h p.object s
  pub raw : IsRaw (region form p) s
  -- nothing in its complete object is half ready, and the views of the other complete objects are ready
  pub quiet : (q : ObjectPart) → q.object ≡ p.object → q.owner ≡ p.owner → is_half (s.phase q) ≡ false
  pub views : (o : List Step) (x : Subobject) → (p.owner ≡ o → ⊥) → top_subobject (s.running p.object o) ≡ Some x → is_ready (s.phase (part p.object o x)) ≡ true
  pub takes : Takes form c p
  pub has_shared : HasShared h form c p s

pub record InItsBases (h : Classes) (p : ObjectPart) (s : Phases) : Type 0 where
  pub inv : Inv h p.object s
  pub now : s.phase p ≡ InBases
  pub top : IsOnTop s p
  pub quiet : (q : ObjectPart) → q.object ≡ p.object → q.owner ≡ p.owner → is_half (s.phase q) ≡ false
  pub views : (o : List Step) (x : Subobject) → (p.owner ≡ o → ⊥) → top_subobject (s.running p.object o) ≡ Some x → is_ready (s.phase (part p.object o x)) ≡ true

pub record InItsMembers (h : Classes) (p : ObjectPart) (s : Phases) : Type 0 where
  pub inv : Inv h p.object s
  pub now : s.phase p ≡ ReadyBuilding
  pub top : IsOnTop s p
  pub views : (o : List Step) (x : Subobject) → top_subobject (s.running p.object o) ≡ Some x → is_ready (s.phase (part p.object o x)) ≡ true

pub in_bases_stays : (h : Classes) (t : List Token) (p : ObjectPart) (s s' : Phases) → (Begins t (name p) → ⊥) → Went h t p s s' → InItsBases h p s → InItsBases h p s'
in_bases_stays h t p s s' off a b = record {
  inv = a.inv;
  now = outside h t p s s' p a off ∙ b.now;
  top = ap top_subobject (a.running p.object p.owner) ∙ b.top;
  quiet = λ q e f. not_half h t p s s' q a (b.quiet q e f);
  views = λ o x differ e. ready_stays h t p s s' (part p.object o x) a (b.views o x differ (sym (ap top_subobject (a.running p.object o)) ∙ e));
}

pub in_members_stays : (h : Classes) (t : List Token) (p : ObjectPart) (s s' : Phases) → (Begins t (name p) → ⊥) → Went h t p s s' → InItsMembers h p s → InItsMembers h p s'
in_members_stays h t p s s' off a b = record {
  inv = a.inv;
  now = outside h t p s s' p a off ∙ b.now;
  top = ap top_subobject (a.running p.object p.owner) ∙ b.top;
  views = λ o x e. ready_stays h t p s s' (part p.object o x) a (b.views o x (sym (ap top_subobject (a.running p.object o)) ∙ e));
}

-- a part that is not complete goes to a phase that is not complete
kids_put : (h : Classes) (k : ℕ) (s : Phases) (p : ObjectPart) (x : Phase) → Inv h k s → (x ≡ Complete → ⊥) → (s.phase p ≡ Complete → ⊥)
    → (a b : ObjectPart) → a.object ≡ k → put s.phase p x a ≡ Complete → IsKid h a b → put s.phase p x b ≡ Complete
kids_put h k s p x inv new old a b ob e kid = ⊎_elim
    (λ same. absurd (new (sym (put_same s.phase p x) ∙ subst (λ (y : ObjectPart). put s.phase p x y ≡ Complete) (sym same) e)))
    (λ differ.
    let done : s.phase b ≡ Complete = inv.kids a b ob (sym (put_other s.phase p x a differ) ∙ e) kid in
    put_other s.phase p x b (λ same. old (subst (λ (y : ObjectPart). s.phase y ≡ Complete) (sym same) done)) ∙ done)
    (part_cases p a)

-- the same for the bases of a part that is ready and not complete
bases_put : (h : Classes) (k : ℕ) (s : Phases) (p : ObjectPart) (x : Phase) → Inv h k s → (s.phase p ≡ Complete → ⊥) → (is_half x ≡ true → (b : ObjectPart) → IsBaseKid h p b → s.phase b ≡ Complete)
    → (a b : ObjectPart) → a.object ≡ k → is_half (put s.phase p x a) ≡ true → IsBaseKid h a b → put s.phase p x b ≡ Complete
bases_put h k s p x inv old new a b ob half kid = ⊎_elim
    (λ same. fixed (new (sym (ap is_half (put_same s.phase p x)) ∙ subst (λ (y : ObjectPart). is_half (put s.phase p x y) ≡ true) (sym same) half) b (subst (λ (y : ObjectPart). IsBaseKid h y b) (sym same) kid)))
    (λ differ. fixed (inv.bases a b ob (sym (ap is_half (put_other s.phase p x a differ)) ∙ half) kid))
    (part_cases p a)
  where
    fixed : s.phase b ≡ Complete → put s.phase p x b ≡ Complete
    fixed done = put_other s.phase p x b (λ same. old (subst (λ (y : ObjectPart). s.phase y ≡ Complete) (sym same) done)) ∙ done

other_owner : (p : ObjectPart) (o : List Step) (x : Subobject) → (p.owner ≡ o → ⊥) → p ≡ part p.object o x → ⊥
other_owner p o x differ e = differ (ap (λ (q : ObjectPart). q.owner) e)

pub begun : (h : Classes) (form : Form) (c : ClassId) (p : ObjectPart) (s : Phases) → Stage h form c p s → InItsBases h p (phases_after s (Begin p))
begun h form c p s a =
    let raw : s.phase p ≡ Raw = a.raw p (region_name form p) in
    record {
      inv = record {
        half_top = λ q ob half. ⊎_elim
            (λ same. let e : is_half (put s.phase p InBases p) ≡ true = subst (λ (y : ObjectPart). is_half (put s.phase p InBases y) ≡ true) (sym same) half in
            absurd (let f : false ≡ true = sym (ap is_half (put_same s.phase p InBases)) ∙ e in cc))
            (λ differ. let old : is_half (s.phase q) ≡ true = sym (ap is_half (put_other s.phase p InBases q differ)) ∙ half in
            ⊎_elim
            (λ (owned : Owns p q.object q.owner). absurd (let f : false ≡ true = sym (a.quiet q (sym owned.object) (sym owned.owner)) ∙ old in cc))
            (λ apart. ap top_subobject (pushed_other s.running p q.object q.owner apart) ∙ a.inv.half_top q ob old)
            (owner_cases p q.object q.owner))
            (part_cases p q);
        kids = kids_put h p.object s p InBases a.inv (λ e. cc) (λ e. let f : Raw ≡ Complete = sym raw ∙ e in cc);
        bases = bases_put h p.object s p InBases a.inv (λ e. let f : Raw ≡ Complete = sym raw ∙ e in cc) (λ e. absurd (cc));
      };
      now = put_same s.phase p InBases;
      top = ap top_subobject (pushed_same s.running p);
      quiet = λ q e f. ⊎_elim (λ same. subst (λ (y : ObjectPart). is_half (put s.phase p InBases y) ≡ false) same (ap is_half (put_same s.phase p InBases))) (λ differ. ap is_half (put_other s.phase p InBases q differ) ∙ a.quiet q e f) (part_cases p q);
      views = λ o x differ e. ap is_ready (put_other s.phase p InBases (part p.object o x) (other_owner p o x differ))
          ∙ a.views o x differ (sym (ap top_subobject (pushed_other s.running p p.object o (λ (owned : Owns p p.object o). differ owned.owner))) ∙ e);
    }

pub readied : (h : Classes) (p : ObjectPart) (s : Phases) → InItsBases h p s → ((q : ObjectPart) → IsBaseKid h p q → s.phase q ≡ Complete) → InItsMembers h p (phases_after s (Ready p))
readied h p s a all = record {
  inv = record {
    half_top = λ q ob half. ⊎_elim
        (λ same. subst (λ (y : ObjectPart). IsOnTop s y) same a.top)
        (λ differ. a.inv.half_top q ob (sym (ap is_half (put_other s.phase p ReadyBuilding q differ)) ∙ half))
        (part_cases p q);
    kids = kids_put h p.object s p ReadyBuilding a.inv (λ e. cc) (λ e. let f : InBases ≡ Complete = sym a.now ∙ e in cc);
    bases = bases_put h p.object s p ReadyBuilding a.inv (λ e. let f : InBases ≡ Complete = sym a.now ∙ e in cc) (λ e. all);
  };
  now = put_same s.phase p ReadyBuilding;
  top = a.top;
  views = λ o x e. ⊎_elim
      (λ (owned : Owns p p.object o).
      let f : top_subobject (s.running p.object o) ≡ Some p.at = subst (λ (y : List Step). top_subobject (s.running p.object y) ≡ Some p.at) owned.owner a.top in
      let g : p.at ≡ x = cc in
      let make : List Step → Subobject → ObjectPart = λ o x. part p.object o x in
      let same : make p.owner p.at ≡ make o x = cc (owned.owner, g) in
      subst (λ (y : ObjectPart). is_ready (put s.phase p ReadyBuilding y) ≡ true) same (ap is_ready (put_same s.phase p ReadyBuilding)))
      (λ apart. let differ : p.owner ≡ o → ⊥ = λ f. apart (record { object = refl; owner = f }) in
      ap is_ready (put_other s.phase p ReadyBuilding (part p.object o x) (other_owner p o x differ)) ∙ a.views o x differ e)
      (owner_cases p p.object o);
}

pub finished : (h : Classes) (p : ObjectPart) (s : Phases) → InItsMembers h p s → ((q : ObjectPart) → IsKid h p q → s.phase q ≡ Complete) → Inv h p.object (phases_after s (Done p))
finished h p s a all = record {
  half_top = λ q ob half. ⊎_elim
      (λ same. let e : is_half (put s.phase p Complete p) ≡ true = subst (λ (y : ObjectPart). is_half (put s.phase p Complete y) ≡ true) (sym same) half in
      absurd (let f : false ≡ true = sym (ap is_half (put_same s.phase p Complete)) ∙ e in cc))
      (λ differ. let top : IsOnTop s q = a.inv.half_top q ob (sym (ap is_half (put_other s.phase p Complete q differ)) ∙ half) in
      ⊎_elim
      (λ (owned : Owns p q.object q.owner). absurd (differ (one q owned top)))
      (λ apart. ap top_subobject (popped_other s.running p q.object q.owner apart) ∙ top)
      (owner_cases p q.object q.owner))
      (part_cases p q);
  kids = λ x y ob e kid. ⊎_elim
      (λ same. fixed y (all y (subst (λ (z : ObjectPart). IsKid h z y) (sym same) kid)))
      (λ differ. fixed y (a.inv.kids x y ob (sym (put_other s.phase p Complete x differ) ∙ e) kid))
      (part_cases p x);
  bases = bases_put h p.object s p Complete a.inv (λ e. let f : ReadyBuilding ≡ Complete = sym a.now ∙ e in cc) (λ e. absurd (cc));
}
  where
    fixed : (y : ObjectPart) → s.phase y ≡ Complete → put s.phase p Complete y ≡ Complete
    fixed y e = ⊎_elim (λ same. subst (λ (z : ObjectPart). put s.phase p Complete z ≡ Complete) same (put_same s.phase p Complete)) (λ differ. put_other s.phase p Complete y differ ∙ e) (part_cases p y)

    one : (q : ObjectPart) → Owns p q.object q.owner → IsOnTop s q → p ≡ q
    one q owned top =
        let f : top_subobject (s.running p.object p.owner) ≡ Some p.at = a.top in
        let same : Some p.at ≡ Some q.at = cc (owned.object, owned.owner) in
        let g : p.at ≡ q.at = cc in
        let e : part p.object p.owner p.at ≡ part q.object q.owner q.at = cc (owned.object, owned.owner, g) in e

pub is_completed : (x : Phase) → is_complete x ≡ true → x ≡ Complete
is_completed Raw e = absurd (cc)
is_completed InBases e = absurd (cc)
is_completed ReadyBuilding e = absurd (cc)
is_completed Complete e = refl
is_completed ReadyEnding e = absurd (cc)
is_completed EndingBases e = absurd (cc)
is_completed Ended e = absurd (cc)

pub kid_object : (h : Classes) (p q : ObjectPart) → IsKid h p q → q.object ≡ p.object
kid_object h p q (base_kid c b class listed e) = ap (λ (x : ObjectPart). x.object) e
kid_object h p q (member_kid c d m i member class at ty lt e) = ap (λ (x : ObjectPart). x.object) e

pub all_in : (h : Classes) (k : ℕ) (s : Phases) → Inv h k s → (q p : ObjectPart) → p.object ≡ k → IsPartWithin h q p → s.phase p ≡ Complete → s.phase q ≡ Complete
all_in h k s inv q _ ob (here p same) e = subst (λ (y : ObjectPart). s.phase y ≡ Complete) same e
all_in h k s inv q _ ob (deeper p r kid more) e = all_in h k s inv q r (kid_object h p r kid ∙ ob) more (inv.kids p r ob e kid)

pub settled : (h : Classes) (p : ObjectPart) (s : Phases) → InItsMembers h p s → Settled h p.object s
settled h p s a = record {
  ready_view = λ o d x. split (is_complete (s.phase (part p.object o (whole_of d))))
      (λ b. (if b then Some (whole_of d) else top_subobject (s.running p.object o)) ≡ Some x → is_ready (s.phase (part p.object o x)) ≡ true)
      (λ full e. let same : whole_of d ≡ x = cc in subst (λ (y : Subobject). is_ready (s.phase (part p.object o y)) ≡ true) same (ap is_ready (is_completed (s.phase (part p.object o (whole_of d))) full)))
      (λ not e. a.views o x e);
  half_view = λ o d x inside half. split (is_complete (s.phase (part p.object o (whole_of d))))
      (λ b. (if b then Some (whole_of d) else top_subobject (s.running p.object o)) ≡ Some x)
      (λ full. let e = all_in h p.object s a.inv (part p.object o x) (part p.object o (whole_of d)) refl inside (is_completed (s.phase (part p.object o (whole_of d))) full) in
      absurd (let f : true ≡ false = sym half ∙ ap is_half e in cc))
      (λ not. a.inv.half_top (part p.object o x) refl half);
  complete_in = λ x y ob inside full. ap is_complete (all_in h p.object s a.inv y x ob inside (is_completed (s.phase x) full));
  bases_done = λ x y ob kid half. ap is_complete (a.inv.bases x y ob half kid);
}
