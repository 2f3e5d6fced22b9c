use Rattle.std.proofs.Common.{sym, subst}
use Rattle.path_heap.specs.declared.state.Value.{Value}
use Rattle.path_heap.specs.Stands.{Means}
use Rattle.path_model.specs.Values.{Pointer}
use Rattle.path_model.specs.Uses.{down_value}
use Rattle.path_values.proofs.Viewed.{down_told}
use Rattle.path_values.proofs.views.down.Goals as goal

pub returns-clause-is : goal.returns-clause-is
returns-clause-is c = λ s p is.
    let h = c.args.world.now.h.now in
    subst (λ (v : Value). Means h s.classes v (down_value h s c.args.target c.args.i.now (Pointer p))) (sym c.pointer_or.ensures)
    (down_told h c.args.heap.now s is.heap_stands p c.standing_of-at.result c.args.target c.args.i.now c.in_ok-found.found (c.standing_of-at.ensures h s p is) c.in_ok-found.ensures.is)
