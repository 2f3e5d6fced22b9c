use Rattle.std.proofs.Common.{subst}
use Rattle.path_heap.specs.declared.state.Value.{Value as ValueCode}
use Rattle.path_heap.specs.Stands.{Means}
use Rattle.path_effects.proofs.Telling.{where_ok, view_is_told}
use Rattle.path_effects.proofs.outs.view_told.Goals as goal

pub returns-in-Pointer : goal.returns-in-Pointer
returns-in-Pointer c =
    let h = c.args.world.now.h.now in
    where_ok c.part_told.result _ _ (λ out told s w stands m clear.
    view_is_told h s c.in-Pointer.n c.view.result out (λ p x. told s p x stands) (λ p q begun. c.view.ensures h s p stands q begun) w
    (subst (λ (v : ValueCode). Means h s.classes v w) c.in-Pointer.is m) clear) c.part_told.ensures
