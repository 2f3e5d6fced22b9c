use Rattle.std.proofs.Common.{◌≡◌, rules}
use Rattle.std.specs.Prelude.{Some}
use Rattle.cxx_subobject.specs.Locations.{ObjectPart}
use Rattle.path_model.specs.Values.{Objects}
use Rattle.path_model.specs.Uses.{view_of}
use Rattle.path_model.specs.Effects.{overrider_by}
use Rattle.path_tables.specs.Parts.{numbered_overrider}
use Rattle.path_values.specs.Views.{IsCallable}
use Rattle.path_values.specs.invariants.Standing.{IsStanding}
use Rattle.path_values.proofs.Viewed.{pure_some}
use Rattle.path_values.proofs.views.is_pure.Goals as goal

pub returns-in-Some-clause-is : goal.returns-in-Some-clause-is
returns-in-Some-clause-is c = λ s p is callable.
    let h = c.args.world.now.h.now in
    let told : (s : Objects) (p : ObjectPart) → IsStanding h s p c.standing_of-at.result → IsCallable h p c.args.f → Some c.in-Some.found ≡ numbered_overrider h c.standing_of-at.result.class (overrider_by h (view_of h s p) p.at c.args.f) = search rules in
    pure_some h s p c.standing_of-at.result.class c.args.f c.in-Some.found c.is_pure_function.result (told s p (c.standing_of-at.ensures h s p is) callable) c.is_pure_function.ensures
