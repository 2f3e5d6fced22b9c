-- Parts and owners, and what one changed part does to phases and stacks.
use Rattle.std.proofs.Common.{◌≡◌, ℕ, Bool, true, List, ◌∷◌, refl, ap, ◌∙◌}
use Rattle.std.specs.Prelude.{if◌then◌else◌}
use Rattle.cxx_subobject.specs.declared.Subobject.{Subobject}
use Rattle.cxx_subobject.specs.Locations.{Step, ObjectPart}
use Rattle.foundation.proofs.Truth.{split}
use Rattle.path_plan.specs.Places.{part, same_complete_object, same_part}
use Rattle.path_plan.specs.Phases.{Phase, put, with_pushed_part, popped, rest_of}
use Rattle.path_plan.proofs.Same.{Owns, owner_itself, put_other}

pub owns_itself : (p : ObjectPart) → Owns p p.object p.owner
owns_itself p = record { object = refl; owner = refl }

owned : (p : ObjectPart) (k : ℕ) (o : List Step) → Owns p k o → same_complete_object p.object p.owner k o ≡ true
owned p k o owns = cc (owner_itself p.object p.owner, owns.object, owns.owner)

pub pushed_own : (running : ℕ → List Step → List Subobject) (p : ObjectPart) (k : ℕ) (o : List Step) → Owns p k o → with_pushed_part running p k o ≡ p.at ∷ running k o
pushed_own running p k o owns = rw (owned p k o owns) refl

pub popped_own : (running : ℕ → List Step → List Subobject) (p : ObjectPart) (k : ℕ) (o : List Step) → Owns p k o → popped running p k o ≡ rest_of (running k o)
popped_own running p k o owns = rw (owned p k o owns) refl

-- a part of p's complete object is p where it is p's subobject
pub part_is : (p : ObjectPart) (k : ℕ) (o : List Step) (y : Subobject) → Owns p k o → p.at ≡ y → p ≡ part k o y
part_is p k o y owns e = let make : ℕ → List Step → Subobject → ObjectPart = part in let f : make p.object p.owner p.at ≡ make k o y = cc (owns.object, owns.owner, e) in f

pub part_at : (p : ObjectPart) (k : ℕ) (o : List Step) (y : Subobject) → p ≡ part k o y → p.at ≡ y
part_at p k o y e = ap (λ (q : ObjectPart). q.at) e

-- a test that holds of the new phase and of the old one
pub put_test : (test : Phase → Bool) (b : Bool) (phase : ObjectPart → Phase) (p : ObjectPart) (v : Phase) (q : ObjectPart) → test v ≡ b → test (phase q) ≡ b → test (put phase p v q) ≡ b
put_test test b phase p v q new old = split (same_part p q) (λ t. test (if t then v else phase q) ≡ b) (λ e. new) (λ e. old)

pub put_test_other : (test : Phase → Bool) (b : Bool) (phase : ObjectPart → Phase) (p : ObjectPart) (v : Phase) (q : ObjectPart) → (p ≡ q → ⊥) → test (phase q) ≡ b → test (put phase p v q) ≡ b
put_test_other test b phase p v q differ old = ap test (put_other phase p v q differ) ∙ old
