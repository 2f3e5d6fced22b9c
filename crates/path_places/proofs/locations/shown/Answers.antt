use Rattle.std.proofs.Common.{◌≡◌, ◌∙◌, ℤ, ap, subst, rules, to_z, of_z}
use Rattle.std.specs.Int.{w128}
use Rattle.path_model.specs.declared.outs.Value.TheVariants.{Number as ShownNumber}
use Rattle.path_heap.specs.declared.state.Value.{Value as ValueCode}
use Rattle.path_heap.specs.Stands.{Means}
use Rattle.path_places.proofs.Naming.{shown_unset, shown_number, shown_null}
use Rattle.path_places.proofs.locations.shown.Goals as goal

pub returns-in-Unset : goal.returns-in-Unset
returns-in-Unset c = λ s v stands means. shown_unset c.args.world.now.h.now s v (subst (λ (t : ValueCode). Means c.args.world.now.h.now s.classes t v) c.in-Unset.is means)

pub returns-in-Number : goal.returns-in-Number
returns-in-Number c = λ s v stands means.
    let fits : to_z w128 (of_z w128 c.in-Number.number) ≡ c.in-Number.number = search rules in
    ap (λ (z : ℤ). ShownNumber z) fits ∙ shown_number c.args.world.now.h.now s c.in-Number.number v (subst (λ (t : ValueCode). Means c.args.world.now.h.now s.classes t v) c.in-Number.is means)

pub returns-in-Null : goal.returns-in-Null
returns-in-Null c = λ s v stands means. shown_null c.args.world.now.h.now s v (subst (λ (t : ValueCode). Means c.args.world.now.h.now s.classes t v) c.in-Null.is means)
