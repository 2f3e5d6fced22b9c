-- Nothing runs in a heap object that is complete.
use Rattle.std.proofs.Common.{◌≡◌, ℕ, true, false, inl, Some, List, [], ◌∷◌, refl, sym, subst, ◌∙◌}
use Rattle.std.specs.Prelude.{slice_get}
use Rattle.std.specs.List.{Contains}
use Rattle.foundation.proofs.Members.{Has}
use Rattle.foundation.proofs.Places.{contains_first}
use Rattle.cxx_hierarchy.specs.declared.records.ClassId.{ClassId}
use Rattle.cxx_subobject.specs.declared.Subobject.{Subobject}
use Rattle.cxx_subobject.specs.Locations.{Step}
use Rattle.path_plan.specs.Places.{part}
use Rattle.path_plan.specs.Phases.{is_complete}
use Rattle.path_plan.specs.Whole.{whole_part}
use Rattle.path_plan.proofs.Valid.{whole_has_part}
use Rattle.path_model.specs.Values.{Objects}
use Rattle.path_model.specs.Typed.{AllSettled}
use Rattle.agree_relation.specs.Worlds.{World, world_classes}
use Rattle.agree_relation.specs.Goings.{Going, ArePlanned}
use Rattle.agree_events.proofs.Own.{running_open}
use Rattle.agree_statements.proofs.RunningParts.{running_parts}

pub complete_idle : (w : World) (s : Objects) (goings : List Going) (k : ℕ) (c : ClassId) → ArePlanned w s.classes s.phases goings → AllSettled (world_classes w) s → slice_get s.classes k ≡ Some c → is_complete (s.phases.phase (whole_part k c)) ≡ true → (o : List Step) → s.phases.running k o ≡ []
complete_idle w s goings k c planned settled there full o = none (s.phases.running k o) refl
  where
    none : (stack : List Subobject) → s.phases.running k o ≡ stack → stack ≡ []
    none [] e = refl
    none (y ∷ rest) e =
        let h = world_classes w in
        let has : Has (s.phases.running k o) y = subst (λ (xs : List Subobject). Has xs y) (sym e) (inl refl) in
        let listed : Contains (s.phases.running k o) y = subst (λ (xs : List Subobject). Contains xs y) (sym e) (contains_first y rest) in
        let inside = whole_has_part h k c (part k o y) refl (running_parts w s goings planned k c o y there has) in
        let complete = (settled k c there).complete_in (whole_part k c) (part k o y) refl inside full in
        let runs = running_open (s.phases.phase (part k o y)) (planned.in_step.runs k o y listed) in
        absurd (let off : true ≡ false = sym complete ∙ runs in cc)
