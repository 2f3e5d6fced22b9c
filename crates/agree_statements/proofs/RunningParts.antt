-- What runs in an object is one of its parts.
use Rattle.std.proofs.Common.{◌≡◌, ℕ, Some, List, [], ◌∷◌, ⊎_elim, refl, sym, ◌∙◌, subst}
use Rattle.std.specs.Prelude.{◌&&◌, if◌then◌else◌}
use Rattle.foundation.proofs.Members.{Has}
use Rattle.foundation.proofs.Truth.{split}
use Rattle.cxx_hierarchy.specs.declared.records.ClassId.{ClassId}
use Rattle.cxx_subobject.specs.declared.Subobject.{Subobject}
use Rattle.cxx_subobject.specs.Locations.{Step, ObjectPart, IsPartOf}
use Rattle.path_plan.specs.Places.{part, same_complete_object}
use Rattle.path_plan.proofs.Same.{owner_same}
use Rattle.path_model.specs.Values.{Objects}
use Rattle.path_model.specs.TypedStates.{IsPartMade}
use Rattle.path_model.proofs.TypedViews.{AreRunningParts, both_right}
use Rattle.agree_relation.specs.Worlds.{World, world_classes}
use Rattle.agree_relation.specs.Goings.{Going, has_begun, stack_in, AreGoing, ArePlanned}

stacked_made : (w : World) (classes : List ClassId) (fs : List Going) (k : ℕ) (o : List Step) (x : Subobject) → AreGoing w classes fs → Has (stack_in fs k o) x → (e : ClassId) × IsPartMade (world_classes w) classes (part k o x) e
stacked_made w classes [] k o x going has = absurd has
stacked_made w classes (f ∷ fs) k o x going has = split (has_begun f.left && same_complete_object f.part.object f.part.owner k o)
    (λ b. (has_begun f.left && same_complete_object f.part.object f.part.owner k o) ≡ b → Has (if b then f.part.at ∷ stack_in fs k o else stack_in fs k o) x → (e : ClassId) × IsPartMade (world_classes w) classes (part k o x) e)
    (λ begun _ there. ⊎_elim
    (λ (at : f.part.at ≡ x).
    let one = owner_same f.part.object f.part.owner k o (both_right (has_begun f.left) (same_complete_object f.part.object f.part.owner k o) begun) in
    let same : f.part ≡ part k o x = λ i. part (one.0 i) (one.1 i) (at i) in
    (f.class, subst (λ (p : ObjectPart). IsPartMade (world_classes w) classes p f.class) same going.0.made))
    (λ (rest : Has (stack_in fs k o) x). stacked_made w classes fs k o x going.1 rest) there)
    (λ _ _ rest. stacked_made w classes fs k o x going.1 rest) refl has

pub running_parts : (w : World) (s : Objects) (goings : List Going) → ArePlanned w s.classes s.phases goings → AreRunningParts (world_classes w) s
running_parts w s goings planned k c o x class has =
    let made = stacked_made w s.classes goings k o x planned.going (subst (λ (xs : List Subobject). Has xs x) (planned.stack k o) has) in
    let one : Some made.1.class ≡ Some c = sym made.1.made ∙ class in
    let same : made.1.class ≡ c = cc in
    subst (λ (d : ClassId). IsPartOf (world_classes w) d (part k o x)) same made.1.inside
