-- In a construction a complete object begins before its parts are done, and a part before its bases begin; in a destruction it ends behind its parts.
use Rattle.std.proofs.Common.{◌≡◌, ℕ, zero, suc, ⊎_elim, inl, inr, Some, List, [], ◌∷◌, refl, ap, sym, subst, Bool, false, ◌++◌, length, ◌∙◌}
use Rattle.std.specs.Prelude.{slice_get, if◌then◌else◌}
use Rattle.cxx_hierarchy.specs.declared.records.ClassId.{ClassId}
use Rattle.cxx_hierarchy.specs.declared.records.Member.{Member}
use Rattle.cxx_hierarchy.specs.declared.records.FieldType.TheVariants.{Object}
use Rattle.cxx_hierarchy.specs.Classes.{Classes, members_of, bases_of}
use Rattle.cxx_subobject.specs.declared.Root.TheVariants.{Shared}
use Rattle.cxx_subobject.specs.declared.Subobject.{Subobject}
use Rattle.cxx_subobject.specs.Subobjects.{class_of, whole_of, shared_base, base_subobject, subobject}
use Rattle.cxx_subobject.specs.Locations.{Step, ObjectPart}
use Rattle.cxx_subobject.proofs.TestLemmas.{base_class}
use Rattle.path_plan.specs.Places.{part, base_part, shared_part, element}
use Rattle.path_plan.specs.Phases.{Begin, Done, PartEvent, Ending, Bases, End}
use Rattle.path_plan.specs.declared.form.Form.{Form}
use Rattle.path_plan.specs.declared.form.Form.TheVariants.{InFull, AsBase}
use Rattle.path_plan.specs.Plans.{Bodies, build, unbuild, backwards, shared_events, base_events, body_events, member_ending, virtual_order, upto}
use Rattle.path_plan.proofs.Same.{Owns, owner_cases, part_cases}
use Rattle.foundation.proofs.Members.{Has, contains_from_has}
use Rattle.cxx_hierarchy.specs.declared.records.Base.{Base}
use Rattle.std.specs.List.{flat_map}
use Rattle.std.proofs.lemmas.List.{same_from_push}
use Rattle.path_plan.proofs.Members.{has_backwards}
use Rattle.agree_relation.proofs.EventOrder.{Before, before_closed, built_has, Behind, Lacks, behind_closed, lacks_closed, ended_has}

-- the last step leads to objects of this class
abbrev pub IsMemberClass : Classes → List Step → ClassId → Type 0
IsMemberClass h [] d = Unit {0}
IsMemberClass h (step ∷ rest) d = (c e : ClassId) (member : Member ClassId) → class_of step.base ≡ Some c → slice_get (members_of h c) step.member ≡ Some member → member.ty ≡ Object e → e ≡ d

-- there is a b at the end, and one behind each a
record EndsBehind (a b : PartEvent) (es : List PartEvent) : Type 0 where
  has : Has es b
  order : Behind a b es

before_end : (a b : PartEvent) (xs es : List PartEvent) → EndsBehind a b es → EndsBehind a b (xs ++ es)
before_end a b [] es r = r
before_end a b (x ∷ xs) es r = let rest = before_end a b xs es r in record { has = inr rest.has; order = (λ _. rest.has, rest.order) }

module _ (h : Classes) (bodies : Bodies) (k : ℕ) (o : List Step) (d : ClassId) (x : Subobject) (of : IsMemberClass h o d) where
  element_is : (p : ObjectPart) (c e : ClassId) (m i : ℕ) (member : Member ClassId) → class_of p.at ≡ Some c → slice_get (members_of h c) m ≡ Some member → member.ty ≡ Object e → Owns (element p m i e) k o → element p m i e ≡ part k o (whole_of d)
  element_is p c e m i member class there is owns =
      let same : e ≡ d = subst (λ (os : List Step). IsMemberClass h os d) (sym owns.owner) of c e member class there is in
      λ j. part (owns.object j) (owns.owner j) (whole_of (same j))

  as_owner : (p : ObjectPart) → (Owns p k o → ⊥) → (s : Subobject) → Owns (part p.object p.owner s) k o → ⊥
  as_owner p off s owns = off (record { object = owns.object; owner = owns.owner })

  -- the whole begins before a part of it is done
  pub whole_first : (n : ℕ) (form : Form) (c : ClassId) (p : ObjectPart) → class_of p.at ≡ Some c → (Owns p k o → p ≡ part k o (whole_of d)) → Before (Begin (part k o (whole_of d))) (Done (part k o x)) (build h bodies n form c p)
  unfolding build
  whole_first zero form c p class own = tt
  whole_first (suc n) form c p class own = ⊎_elim
      (λ owns. ((λ e. cc), inl (ap Begin (own owns))))
      (λ off. built_has (Before (Begin (part k o (whole_of d))) (Done (part k o x))) (before_closed (Begin (part k o (whole_of d))) (Done (part k o x))) h (build h bodies n) c p
      (λ b listed plain. whole_first n AsBase b.class (base_part p b) (base_class p.at c b class) (λ owns. absurd (as_owner p off (base_subobject p.at b) owns)))
      (λ v. whole_first n AsBase v (shared_part p v) refl (λ owns. absurd (as_owner p off (shared_base v) owns)))
      (λ m i e member there is. whole_first n InFull e (element p m i e) refl (element_is p c e m i member class there is))
      bodies form
      ((λ e. cc), inr tt) ((λ e. cc), inr tt) (λ m. ((λ e. cc), inr tt)) ((λ e. cc), inr tt)
      ((λ e. let same : p ≡ part k o x = cc in off (record { object = ap (λ (q : ObjectPart). q.object) same; owner = ap (λ (q : ObjectPart). q.owner) same })), inr tt))
      (owner_cases p k o)

  -- the whole ends behind a part's destruction
  pub whole_last : (n : ℕ) (form : Form) (c : ClassId) (p : ObjectPart) → class_of p.at ≡ Some c → (Owns p k o → p ≡ part k o (whole_of d)) → Behind (Ending (part k o x)) (End (part k o (whole_of d))) (unbuild h bodies n form c p)
  unfolding unbuild
  whole_last zero form c p class own = tt
  whole_last (suc n) form c p class own = ⊎_elim
      (λ owns.
      let a = Ending (part k o x) in
      let b = End (part k o (whole_of d)) in
      let inner = unbuild h bodies n in
      let last : EndsBehind a b (End p ∷ []) = record { has = inl (ap End (own owns)); order = ((λ e. cc), tt) } in
      let shares = before_end a b (shared_events inner form p (backwards (virtual_order h c))) (End p ∷ []) last in
      let bases = before_end a b (flat_map (base_events inner p) (backwards (bases_of h c))) _ shares in
      let goes = before_end a b (Bases p ∷ []) _ bases in
      let members = before_end a b (flat_map (λ m. member_ending inner p m (slice_get (members_of h c) m)) (backwards (upto (length (members_of h c))))) _ goes in
      let body = before_end a b (body_events (bodies.destructor c) p) _ members in
      (before_end a b (Ending p ∷ []) _ body).order)
      (λ off. ended_has (Behind (Ending (part k o x)) (End (part k o (whole_of d)))) (behind_closed (Ending (part k o x)) (End (part k o (whole_of d)))) h (unbuild h bodies n) c p
      (λ b listed plain. whole_last n AsBase b.class (base_part p b) (base_class p.at c b class) (λ owns. absurd (as_owner p off (base_subobject p.at b) owns)))
      (λ v. whole_last n AsBase v (shared_part p v) refl (λ owns. absurd (as_owner p off (shared_base v) owns)))
      (λ m i e member there is. whole_last n InFull e (element p m i e) refl (element_is p c e m i member class there is))
      bodies form (λ b has. contains_from_has (bases_of h c) b (has_backwards (bases_of h c) b has))
      ((λ e. let same : p ≡ part k o x = cc in absurd (off (record { object = ap (λ (q : ObjectPart). q.object) same; owner = ap (λ (q : ObjectPart). q.owner) same }))), tt)
      ((λ e. absurd (cc)), tt) ((λ e. absurd (cc)), tt) ((λ e. absurd (cc)), tt))
      (owner_cases p k o)

-- a construction ends nothing
pub built_ends_none : (h : Classes) (bodies : Bodies) (q : ObjectPart) (n : ℕ) (form : Form) (c : ClassId) (p : ObjectPart) → Lacks (End q) (build h bodies n form c p)
unfolding build
built_ends_none h bodies q zero form c p = tt
built_ends_none h bodies q (suc n) form c p = built_has (Lacks (End q)) (lacks_closed (End q)) h (build h bodies n) c p
    (λ b listed plain. built_ends_none h bodies q n AsBase b.class (base_part p b))
    (λ v. built_ends_none h bodies q n AsBase v (shared_part p v))
    (λ m i e member there is. built_ends_none h bodies q n InFull e (element p m i e))
    bodies form ((λ e. cc), tt) ((λ e. cc), tt) (λ m. ((λ e. cc), tt)) ((λ e. cc), tt) ((λ e. cc), tt)

-- lists with one more item behind
none_before : (path : List ClassId) (v d : ClassId) → v ∷ [] ≡ path ++ d ∷ [] → path ≡ []
none_before [] v d e = refl
none_before (x ∷ []) v d e = absurd (cc)
none_before (x ∷ y ∷ path) v d e = absurd (cc)

-- a part begins before its base that is not virtual
module _ (h : Classes) (bodies : Bodies) (t : ObjectPart) (b : Base ClassId) (some : t.at.path ≡ [] → ⊥) where
  abbrev lower : ObjectPart
  lower = part t.object t.owner (subobject t.at.root (t.at.path ++ b.class ∷ []))

  -- a path of one class is not longer than one
  pub not_single : (q : ObjectPart) (v : ClassId) → q.at.path ≡ v ∷ [] → q ≡ lower → ⊥
  not_single q v single same =
      let paths : v ∷ [] ≡ t.at.path ++ b.class ∷ [] = sym single ∙ ap (λ (z : ObjectPart). z.at.path) same in
      some (none_before t.at.path v b.class paths)

  one_around : (p : ObjectPart) (base : Base ClassId) → base.is_virtual ≡ false → base_part p base ≡ lower → p ≡ t
  one_around p base way e =
      let low : base_part p base ≡ part p.object p.owner (subobject p.at.root (p.at.path ++ base.class ∷ [])) =
      ap (λ (w : Bool). part p.object p.owner (if w then subobject (Shared base.class) (base.class ∷ []) else subobject p.at.root (p.at.path ++ base.class ∷ []))) way in
      let same = sym low ∙ e in
      let object : p.object ≡ t.object = ap (λ (q : ObjectPart). q.object) same in
      let owner : p.owner ≡ t.owner = ap (λ (q : ObjectPart). q.owner) same in
      let root : p.at.root ≡ t.at.root = ap (λ (q : ObjectPart). q.at.root) same in
      let path = (same_from_push p.at.path t.at.path base.class b.class (ap (λ (q : ObjectPart). q.at.path) same)).0 in
      λ i. part (object i) (owner i) (subobject (root i) (path i))

  pub around_first : (n : ℕ) (form : Form) (c : ClassId) (p : ObjectPart) → (p ≡ lower → ⊥) → Before (Begin t) (Begin lower) (build h bodies n form c p)
  unfolding build
  around_first zero form c p other = tt
  around_first (suc n) form c p other = ⊎_elim
      (λ same. ((λ e. other (let f : p ≡ lower = cc in f)), inl (ap Begin same)))
      (λ differ. built_has (Before (Begin t) (Begin lower)) (before_closed (Begin t) (Begin lower)) h (build h bodies n) c p
      (λ base listed way. around_first n AsBase base.class (base_part p base) (λ e. differ (one_around p base way e)))
      (λ v. around_first n AsBase v (shared_part p v) (not_single (shared_part p v) v refl))
      (λ m i e member there is. around_first n InFull e (element p m i e) (not_single (element p m i e) e refl))
      bodies form
      ((λ e. other (let f : p ≡ lower = cc in f)), inr tt) ((λ e. cc), inr tt) (λ m. ((λ e. cc), inr tt)) ((λ e. cc), inr tt) ((λ e. cc), inr tt))
      (part_cases p t)
