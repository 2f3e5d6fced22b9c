-- What is asked of a copy is enough: the class members in proper bases of what is ready are complete.
use Rattle.std.proofs.Common.{arith, ◌≡◌, ℕ, zero, suc, ◌<◌, ◌≤◌, inl, inr, ⊎_elim, true, false, Option, Some, None, List, [], ◌∷◌, ◌++◌, length, refl, ap, subst, sym, ◌∙◌, append-nil}
use Rattle.cxx_hierarchy.specs.declared.records.ClassId.{ClassId}
use Rattle.cxx_hierarchy.specs.declared.records.Member.{Member}
use Rattle.cxx_hierarchy.specs.declared.records.FieldType.{FieldType}
use Rattle.cxx_hierarchy.specs.declared.records.FieldType.TheVariants.{Value as ValueField, Object}
use Rattle.cxx_hierarchy.specs.Classes.{Classes, members_of}
use Rattle.cxx_hierarchy.specs.Hierarchies.{IsHierarchy}
use Rattle.cxx_subobject.specs.declared.Subobject.{Subobject}
use Rattle.cxx_subobject.specs.Subobjects.{IsSubobject, whole, class_of, whole_of, subobject, same_subobject}
use Rattle.cxx_subobject.specs.Preorder.{preorder}
use Rattle.cxx_subobject.specs.Parts.{elements_of}
use Rattle.foundation.proofs.Truth.{split}
use Rattle.foundation.proofs.Members.{Has}
use Rattle.cxx_subobject.proofs.TreeLemmas.{subobject_same, same_itself, preorder_has, has_preorder}
use Rattle.cxx_subobject.proofs.InsideLemmas.{join_class}
use Rattle.cxx_subobject.proofs.PathLemmas.{class_there}
use Rattle.path_plan.specs.Places.{ObjectPart, part, element, member_kid, IsPartWithin, here, deeper}
use Rattle.path_plan.specs.Phases.{is_complete, is_ready}
use Rattle.path_plan.specs.Plans.{upto}
use Rattle.path_plan.specs.Views.{Settled}
use Rattle.path_plan.proofs.Members.{has_count}
use Rattle.std.specs.Prelude.{min, slice_get}
use Rattle.std.specs.List.{flat_map}
use Rattle.path_model.specs.Values.{Objects, inner_part}
use Rattle.path_model.specs.Uses.{StatementUse, Passes, element_uses, member_uses, own_members, covers}
use Rattle.path_model.specs.Rules.{is_unready}
use Rattle.path_model.specs.Order.{asked_covers}
use Rattle.path_model.proofs.Ranks.{rank, rank_append, rank_full}
use Rattle.path_model.proofs.Single.{none_rank, pass_rank, pass_late}
use Rattle.path_model.proofs.Facts.{base_done, inner_in, not_unready, ready_of}

-- a relation of ranks that the least of two keeps
pub record IsKept (R : ℕ → ℕ → Type 0) : Type 0 where
  pub none : R 12 12
  pub least : (a b c d : ℕ) → R a b → R c d → R (min a c) (min b d)

pub same_kept : IsKept (λ a b. a ≡ b)
same_kept = record { none = refl; least = λ a b c d e f. cc }

pub at_least : (n : ℕ) → n ≤ 12 → IsKept (λ a b. n ≤ a)
at_least n l = record { none = l; least = λ a b c d e f. omega (arith, e, f) }

flat_kept : {X : Type 0} (R : ℕ → ℕ → Type 0) → IsKept R → (h : Classes) (s : Objects) (f g : X → List StatementUse) (xs : List X) → ((x : X) → Has xs x → R (rank h s (f x)) (rank h s (g x))) → R (rank h s (flat_map f xs)) (rank h s (flat_map g xs))
flat_kept R kept h s f g [] each = subst (λ n. R n n) (sym (none_rank h s)) kept.none
flat_kept R kept h s f g (x ∷ xs) each =
    subst (λ n. R n (rank h s (g x ++ flat_map g xs))) (sym (rank_append h s (f x) (flat_map f xs)))
    (subst (λ n. R (min (rank h s (f x)) (rank h s (flat_map f xs))) n) (sym (rank_append h s (g x) (flat_map g xs)))
    (kept.least (rank h s (f x)) (rank h s (g x)) (rank h s (flat_map f xs)) (rank h s (flat_map g xs)) (each x (inl refl)) (flat_kept R kept h s f g xs (λ y has. each y (inr has)))))

flat_has : {X : Type 0} (h : Classes) (s : Objects) (f : X → List StatementUse) (xs : List X) (x : X) → Has xs x → rank h s (flat_map f xs) ≤ rank h s (f x)
flat_has h s f [] x has = absurd has
flat_has h s f (y ∷ xs) x has =
    let r = rank_append h s (f y) (flat_map f xs) in
    ⊎_elim (λ e. let g : rank h s (f y) ≡ rank h s (f x) = ap (λ z. rank h s (f z)) e in omega (arith, r, g)) (λ more. let l = flat_has h s f xs x more in omega (arith, r, l)) has

-- e is an element of a member of p, which is of class b
pub record IsMember (h : Classes) (b : ClassId) (p : ObjectPart) (d : ClassId) (e : ObjectPart) : Type 0 where
  pub m : ℕ
  pub i : ℕ
  pub member : Member ClassId
  pub listed : slice_get (members_of h b) m ≡ Some member
  pub object : member.ty ≡ Object d
  pub within : i < elements_of member.count
  pub is : e ≡ element p m i d

own_kept : (R : ℕ → ℕ → Type 0) → IsKept R → (h : Classes) (s : Objects) (f g : ClassId → ObjectPart → List StatementUse) (b : ClassId) (p : ObjectPart)
    → ((d : ClassId) (e : ObjectPart) → IsMember h b p d e → R (rank h s (Passes e ∷ f d e)) (rank h s (Passes e ∷ g d e))) → R (rank h s (own_members h f (Some b) p)) (rank h s (own_members h g (Some b) p))
own_kept R kept h s f g b p each = flat_kept R kept h s (λ m. member_uses f p m (slice_get (members_of h b) m)) (λ m. member_uses g p m (slice_get (members_of h b) m)) (upto (length (members_of h b)))
    (λ m _. of_member m (slice_get (members_of h b) m) refl)
  where
    of_type : (m : ℕ) (member : Member ClassId) → slice_get (members_of h b) m ≡ Some member → (ty : FieldType ClassId) → member.ty ≡ ty → R (rank h s (element_uses f p m (upto (elements_of member.count)) ty)) (rank h s (element_uses g p m (upto (elements_of member.count)) ty))
    of_type m member at (ValueField type) e = subst (λ n. R n n) (sym (none_rank h s)) kept.none
    of_type m member at (Object d) e = flat_kept R kept h s (λ i. Passes (element p m i d) ∷ f d (element p m i d)) (λ i. Passes (element p m i d) ∷ g d (element p m i d)) (upto (elements_of member.count))
        (λ i has. each d (element p m i d) (record { m = m; i = i; member = member; listed = at; object = e; within = let l = (has_count 0 (elements_of member.count) i has).1 in omega (arith, l); is = refl }))

    of_member : (m : ℕ) (o : Option (Member ClassId)) → slice_get (members_of h b) m ≡ o → R (rank h s (member_uses f p m o)) (rank h s (member_uses g p m o))
    of_member m None e = subst (λ n. R n n) (sym (none_rank h s)) kept.none
    of_member m (Some member) e = of_type m member e member.ty refl

passes_at_least : (h : Classes) (s : Objects) (n : ℕ) (e : ObjectPart) (us : List StatementUse) → n ≤ rank h s (Passes e ∷ []) → n ≤ rank h s us → n ≤ rank h s (Passes e ∷ us)
passes_at_least h s n e us a b = let r = rank_append h s (Passes e ∷ []) us in omega (arith, r, a, b)

late_own : (h : Classes) (s : Objects) (f : ClassId → ObjectPart → List StatementUse) (b : Option ClassId) (q : ObjectPart) → ((d : ClassId) (e : ObjectPart) → 2 ≤ rank h s (f d e)) → 2 ≤ rank h s (own_members h f b q)
late_own h s f None q inside = let r = none_rank h s in omega (arith, r)
late_own h s f (Some b) q inside = own_kept (λ a b. 2 ≤ a) (at_least 2 (omega arith)) h s f f b q (λ d e _. passes_at_least h s 2 e (f d e) (pass_late h s e) (inside d e))

pub covers_late : (h : Classes) (s : Objects) (n : ℕ) (c : ClassId) (p : ObjectPart) → 2 ≤ rank h s (covers h n c p)
covers_late h s zero c p = let r = none_rank h s in omega (arith, r)
covers_late h s (suc n) c p = flat_kept (λ a b. 2 ≤ a) (at_least 2 (omega arith)) h s (λ i. own_members h (covers h n) (class_of i) (inner_part p i)) (λ i. []) (preorder h c)
    (λ i _. late_own h s (covers h n) (class_of i) (inner_part p i) (λ d e. covers_late h s n d e))

pub asked_covers_late : (h : Classes) (s : Objects) (n : ℕ) (c : ClassId) (p : ObjectPart) → 2 ≤ rank h s (asked_covers h n c p)
asked_covers_late h s zero c p = let r = none_rank h s in omega (arith, r)
asked_covers_late h s (suc n) c p = late_own h s (asked_covers h n) (Some c) p (λ d e. asked_covers_late h s n d e)

-- in what is complete nothing breaks
full_kept : IsKept (λ a b. 12 ≤ a)
full_kept = at_least 12 (omega arith)

complete_own : (h : Classes) (s : Objects) (f : ClassId → ObjectPart → List StatementUse) (b : ClassId) (q : ObjectPart) → class_of q.at ≡ Some b → Settled h q.object s.phases → is_complete (s.phases.phase q) ≡ true
    → ((d : ClassId) (e : ObjectPart) → class_of e.at ≡ Some d → Settled h e.object s.phases → is_complete (s.phases.phase e) ≡ true → 12 ≤ rank h s (f d e)) → 12 ≤ rank h s (own_members h f (Some b) q)
complete_own h s f b q class settled full inside = own_kept (λ a b. 12 ≤ a) full_kept h s f f b q (λ d e a.
    let in_q : IsPartWithin h e q = deeper q e (member_kid b d a.m a.i a.member class a.listed a.object a.within a.is) (here e refl) in
    let done : is_complete (s.phases.phase e) ≡ true = settled.complete_in q e refl in_q full in
    let v = pass_rank h s e false (not_unready s e done) in
    passes_at_least h s 12 e (f d e) (omega (arith, v))
    (inside d e (ap (λ (x : ObjectPart). class_of x.at) a.is) (subst (λ k. Settled h k s.phases) (sym (ap (λ (x : ObjectPart). x.object) a.is)) settled) done))

pub complete_covers : (h : Classes) (s : Objects) (n : ℕ) (c : ClassId) (p : ObjectPart) → class_of p.at ≡ Some c → Settled h p.object s.phases → is_complete (s.phases.phase p) ≡ true → 12 ≤ rank h s (covers h n c p)
complete_covers h s zero c p class settled full = let r = none_rank h s in omega (arith, r)
complete_covers h s (suc n) c p class settled full = flat_kept (λ a b. 12 ≤ a) full_kept h s (λ i. own_members h (covers h n) (class_of i) (inner_part p i)) (λ i. []) (preorder h c)
    (λ i has.
    let valid = has_preorder h c i has in
    let k = class_there h c i valid in
    subst (λ (b : Option ClassId). 12 ≤ rank h s (own_members h (covers h n) b (inner_part p i))) (sym k.1)
    (complete_own h s (covers h n) k.0 (inner_part p i) (join_class h c p.at i class valid ∙ k.1) settled (settled.complete_in p (inner_part p i) refl (inner_in h c p i class valid) full) (λ d e. complete_covers h s n d e)))

pub join_whole : (p : ObjectPart) (c : ClassId) → inner_part p (whole_of c) ≡ p
join_whole p c = ap (λ (x : List ClassId). part p.object p.owner (subobject p.at.root x)) (append-nil p.at.path)

-- the members of one class, where those that are ready are asked alike inside
own_rank : (h : Classes) (s : Objects) (n : ℕ) (c : ClassId) (p : ObjectPart) → Settled h p.object s.phases
    → ((d : ClassId) (e : ObjectPart) → class_of e.at ≡ Some d → Settled h e.object s.phases → is_ready (s.phases.phase e) ≡ true → rank h s (covers h n d e) ≡ rank h s (asked_covers h n d e))
    → rank h s (own_members h (covers h n) (Some c) p) ≡ rank h s (own_members h (asked_covers h n) (Some c) p)
own_rank h s n c p settled inside = own_kept (λ a b. a ≡ b) same_kept h s (covers h n) (asked_covers h n) c p (λ d e a.
    let r = rank_append h s (Passes e ∷ []) (covers h n d e) in
    let t = rank_append h s (Passes e ∷ []) (asked_covers h n d e) in
    split (is_unready s e) (λ b. is_unready s e ≡ b → rank h s (Passes e ∷ covers h n d e) ≡ rank h s (Passes e ∷ asked_covers h n d e))
    (λ g _. let v = pass_rank h s e true g in let k = covers_late h s n d e in let l = asked_covers_late h s n d e in omega (arith, r, t, v, k, l))
    (λ g _. let m = inside d e (ap (λ (x : ObjectPart). class_of x.at) a.is) (subst (λ k. Settled h k s.phases) (sym (ap (λ (x : ObjectPart). x.object) a.is)) settled) (ready_of s e g) in omega (arith, r, t, m)) refl)

-- the subobjects of a part that is ready break as its own members
first_rank : (h : Classes) → IsHierarchy h → (s : Objects) (n : ℕ) (c : ClassId) (p : ObjectPart) → class_of p.at ≡ Some c → Settled h p.object s.phases → is_ready (s.phases.phase p) ≡ true → rank h s (covers h (suc n) c p) ≡ rank h s (own_members h (covers h n) (Some c) p)
first_rank h keeps s n c p class settled ready = let a = above in let b = below in omega (arith, a, b)
  where
    f : Subobject → List StatementUse
    f i = own_members h (covers h n) (class_of i) (inner_part p i)

    at_whole : rank h s (f (whole_of c)) ≡ rank h s (own_members h (covers h n) (Some c) p)
    at_whole = ap (λ (x : ObjectPart). rank h s (own_members h (covers h n) (Some c) x)) (join_whole p c)

    below : rank h s (covers h (suc n) c p) ≤ rank h s (own_members h (covers h n) (Some c) p)
    below = subst (λ m. rank h s (flat_map f (preorder h c)) ≤ m) at_whole (flat_has h s f (preorder h c) (whole_of c) (preorder_has h c keeps (whole_of c) (whole [] tt)))

    proper : (i : Subobject) → IsSubobject h c i → (i ≡ whole_of c → ⊥) → 12 ≤ rank h s (f i)
    proper i valid off =
        let k = class_there h c i valid in
        subst (λ (b : Option ClassId). 12 ≤ rank h s (own_members h (covers h n) b (inner_part p i))) (sym k.1)
        (complete_own h s (covers h n) k.0 (inner_part p i) (join_class h c p.at i class valid ∙ k.1) settled (base_done h s p c i class settled valid off ready) (λ d e. complete_covers h s n d e))

    above : rank h s (own_members h (covers h n) (Some c) p) ≤ rank h s (covers h (suc n) c p)
    above = flat_kept (λ a b. rank h s (own_members h (covers h n) (Some c) p) ≤ a) (at_least (rank h s (own_members h (covers h n) (Some c) p)) (rank_full h s (own_members h (covers h n) (Some c) p))) h s f (λ i. []) (preorder h c)
        (λ i has. split (same_subobject i (whole_of c)) (λ b. rank h s (own_members h (covers h n) (Some c) p) ≤ rank h s (f i))
        (λ e. let g : rank h s (f i) ≡ rank h s (f (whole_of c)) = ap (λ (x : Subobject). rank h s (f x)) (subobject_same i (whole_of c) e) in let k = at_whole in omega (arith, g, k))
        (λ e. let l = proper i (has_preorder h c i has) (λ same. let g : true ≡ false = sym (same_itself (whole_of c)) ∙ (ap (λ (x : Subobject). same_subobject x (whole_of c)) (sym same) ∙ e) in absurd (cc)) in
        let m = rank_full h s (own_members h (covers h n) (Some c) p) in omega (arith, l, m)))

-- THE COPY: what is asked of a part that is ready breaks as what is covered
pub cover_rank : (h : Classes) → IsHierarchy h → (s : Objects) (n : ℕ) (c : ClassId) (p : ObjectPart) → class_of p.at ≡ Some c → Settled h p.object s.phases → is_ready (s.phases.phase p) ≡ true → rank h s (covers h n c p) ≡ rank h s (asked_covers h n c p)
cover_rank h keeps s zero c p class settled ready = refl
cover_rank h keeps s (suc n) c p class settled ready =
    first_rank h keeps s n c p class settled ready ∙ own_rank h s n c p settled (λ d e k l r. cover_rank h keeps s n d e k l r)
