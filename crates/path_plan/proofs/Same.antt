-- The tests on parts and owners, and what changing one part does.
use Rattle.std.proofs.Common.{◌≡◌, ℕ, ◌⊎◌, inl, inr, true, ◌&&◌, List, [], ◌∷◌, refl, subst, ap}
use Rattle.std.specs.Prelude.{nat_eq, if◌then◌else◌}
use Rattle.std.proofs.lemmas.Bool.{eqb-true, eq-eqb, and_parts}
use Rattle.cxx_subobject.specs.declared.Subobject.{Subobject}
use Rattle.cxx_subobject.specs.Subobjects.{same_subobject}
use Rattle.foundation.proofs.Truth.{split}
use Rattle.cxx_subobject.proofs.TreeLemmas.{subobject_same, same_itself}
use Rattle.path_plan.specs.Places.{Step, ObjectPart, part, same_step, same_steps, same_complete_object, same_part}
use Rattle.path_plan.specs.Phases.{Phase, put, with_pushed_part, popped, rest_of}

step_same : (a b : Step) → same_step a b ≡ true → a ≡ b
step_same a b e =
    let r = and_parts (same_subobject a.base b.base) (nat_eq a.member b.member && nat_eq a.index b.index) e in
    let n = and_parts (nat_eq a.member b.member) (nat_eq a.index b.index) r.1 in
    let make : Subobject → ℕ → ℕ → Step = λ s m i. record { base = s; member = m; index = i } in
    let f : make a.base a.member a.index ≡ make b.base b.member b.index = cc (subobject_same a.base b.base r.0, eqb-true a.member b.member n.0, eqb-true a.index b.index n.1) in f

steps_same : (a b : List Step) → same_steps a b ≡ true → a ≡ b
steps_same [] [] e = refl
steps_same [] (y ∷ b) e = absurd (cc)
steps_same (x ∷ a) [] e = absurd (cc)
steps_same (x ∷ a) (y ∷ b) e = let r = and_parts (same_step x y) (same_steps a b) e in cc (step_same x y r.0, steps_same a b r.1)

steps_itself : (a : List Step) → same_steps a a ≡ true
steps_itself [] = refl
steps_itself (x ∷ a) = rw (same_itself x.base, eq-eqb x.member x.member refl, eq-eqb x.index x.index refl, steps_itself a) refl

pub owner_same : (k : ℕ) (o : List Step) (k' : ℕ) (o' : List Step) → same_complete_object k o k' o' ≡ true → (k ≡ k') × (o ≡ o')
owner_same k o k' o' e = let r = and_parts (nat_eq k k') (same_steps o o') e in (eqb-true k k' r.0, steps_same o o' r.1)

pub owner_itself : (k : ℕ) (o : List Step) → same_complete_object k o k o ≡ true
owner_itself k o = rw (eq-eqb k k refl, steps_itself o) refl

pub part_same : (p q : ObjectPart) → same_part p q ≡ true → p ≡ q
part_same p q e =
    let r = and_parts (same_complete_object p.object p.owner q.object q.owner) (same_subobject p.at q.at) e in
    let s = owner_same p.object p.owner q.object q.owner r.0 in
    let f : part p.object p.owner p.at ≡ part q.object q.owner q.at = cc (s.0, s.1, subobject_same p.at q.at r.1) in f

pub part_itself : (p : ObjectPart) → same_part p p ≡ true
part_itself p = rw (owner_itself p.object p.owner, same_itself p.at) refl

-- one part is changed, and the others are not
pub put_same : (phase : ObjectPart → Phase) (p : ObjectPart) (x : Phase) → put phase p x p ≡ x
put_same phase p x = rw (part_itself p) refl

pub put_other : (phase : ObjectPart → Phase) (p : ObjectPart) (x : Phase) (q : ObjectPart) → (p ≡ q → ⊥) → put phase p x q ≡ phase q
put_other phase p x q differ = split (same_part p q) (λ b. (if b then x else phase q) ≡ phase q) (λ e. absurd (differ (part_same p q e))) (λ e. refl)

pub part_cases : (p q : ObjectPart) → (p ≡ q) ⊎ (p ≡ q → ⊥)
part_cases p q = split (same_part p q) (λ b. (p ≡ q) ⊎ (p ≡ q → ⊥)) (λ e. inl (part_same p q e))
    (λ e. inr (λ same. let f : same_part p q ≡ true = subst (λ (x : ObjectPart). same_part p x ≡ true) same (part_itself p) in absurd (cc)))

-- an owner, as a pair
pub record Owns (p : ObjectPart) (k : ℕ) (o : List Step) : Type 0 where
  pub object : p.object ≡ k
  pub owner : p.owner ≡ o

pub owner_cases : (p : ObjectPart) (k : ℕ) (o : List Step) → Owns p k o ⊎ (Owns p k o → ⊥)
owner_cases p k o = split (same_complete_object p.object p.owner k o) (λ b. Owns p k o ⊎ (Owns p k o → ⊥))
    (λ e. inl (record { object = (owner_same p.object p.owner k o e).0; owner = (owner_same p.object p.owner k o e).1 }))
    (λ e. inr (λ same. let f : same_complete_object p.object p.owner k o ≡ true = cc (owner_itself p.object p.owner, same.object, same.owner) in absurd (cc)))

pub pushed_same : (running : ℕ → List Step → List Subobject) (p : ObjectPart) → with_pushed_part running p p.object p.owner ≡ p.at ∷ running p.object p.owner
pushed_same running p = rw (owner_itself p.object p.owner) refl

pub popped_same : (running : ℕ → List Step → List Subobject) (p : ObjectPart) → popped running p p.object p.owner ≡ rest_of (running p.object p.owner)
popped_same running p = rw (owner_itself p.object p.owner) refl

pub pushed_other : (running : ℕ → List Step → List Subobject) (p : ObjectPart) (k : ℕ) (o : List Step) → (Owns p k o → ⊥) → with_pushed_part running p k o ≡ running k o
pushed_other running p k o differ = split (same_complete_object p.object p.owner k o) (λ b. (if b then p.at ∷ running k o else running k o) ≡ running k o)
    (λ e. absurd (differ (record { object = (owner_same p.object p.owner k o e).0; owner = (owner_same p.object p.owner k o e).1 }))) (λ e. refl)

pub popped_other : (running : ℕ → List Step → List Subobject) (p : ObjectPart) (k : ℕ) (o : List Step) → (Owns p k o → ⊥) → popped running p k o ≡ running k o
popped_other running p k o differ = split (same_complete_object p.object p.owner k o) (λ b. (if b then rest_of (running k o) else running k o) ≡ running k o)
    (λ e. absurd (differ (record { object = (owner_same p.object p.owner k o e).0; owner = (owner_same p.object p.owner k o e).1 }))) (λ e. refl)

pub part_owns : (p : ObjectPart) (k : ℕ) (o : List Step) (y : Subobject) → p ≡ part k o y → Owns p k o
part_owns p k o y e = record { object = ap (λ (q : ObjectPart). q.object) e; owner = ap (λ (q : ObjectPart). q.owner) e }
