use Rattle.std.proofs.Common.{◌+◌, ◌-◌, ◌%◌, ◌∙◌, ap, refl}
use Rattle.path_heap.proofs.Reaching.{numbered_whole, numbered_shared}
use Rattle.path_heap.proofs.heap.Heap.numbered_base.Goals as goal

pub returns-in-Whole : goal.returns-in-Whole
returns-in-Whole c = λ s p stands q begun class sub is.
    numbered_whole c.args.h.now c.args.self.now s stands c.args.n p q begun c.args.c class c.args.i.now sub c.in-Whole.is c.args.x ((c.args.n + c.args.x) % 18446744073709551616) c.ranges.x.fits is refl

pub returns-in-Shared : goal.returns-in-Shared
returns-in-Shared c = λ s p stands q begun class sub is.
    let cell = c.cell-cell.result in
    let far = c.shared_distance-far.result in
    let behind = c.saturating_sub.result in
    numbered_shared c.args.h.now c.args.self.now s stands c.args.n p q begun c.args.c class cell c.cell-cell.ensures c.args.i.now sub c.in-Shared.v c.in-Shared.is
    far c.shared_distance-near.result c.args.x ((c.whole_behind.result + (far + behind) % 18446744073709551616) % 18446744073709551616) c.shared_distance-far.ensures c.shared_distance-near.ensures c.ranges.x.fits is
    (ap (λ t. (t + (far + behind) % 18446744073709551616) % 18446744073709551616) c.whole_behind.ensures ∙ ap (λ t. (c.args.n - cell.back + (far + t) % 18446744073709551616) % 18446744073709551616) c.saturating_sub.ensures)
