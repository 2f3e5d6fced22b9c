use Rattle.std.proofs.Common.{◌∙◌, ◌+◌, ◌%◌, ap, refl}
use Rattle.cxx_subobject.specs.Subobjects.{tail_of}
use Rattle.path_heap.proofs.Reaching.{base_reached, shared_reached}
use Rattle.path_heap.proofs.heap.Heap.base.Goals as goal

pub returns-in-Whole : goal.returns-in-Whole
returns-in-Whole c = λ s p class stands q begun is_class sub.
    base_reached c.args.h.now c.args.self.now s stands c.args.n p q begun class is_class c.cell-cell.result c.cell-cell.ensures c.args.i.now sub c.in-Whole.is c.below_first-path.result.now (c.below_first-path.ensures ∙ ap tail_of c.as_slice.ensures)
    c.path_distance.result ((c.args.n + c.path_distance.result) % 18446744073709551616) c.path_distance.ensures refl

pub returns-in-Shared : goal.returns-in-Shared
returns-in-Shared c = λ s p class stands q begun is_class sub.
    shared_reached c.args.h.now c.args.self.now s stands c.args.n p q begun class is_class c.cell-cell.result c.cell-cell.ensures c.args.i.now sub c.in-Shared.v c.in-Shared.is c.below_first-path.result.now (c.below_first-path.ensures ∙ ap tail_of c.as_slice.ensures)
    c.shared_distance.result c.path_distance-in-Shared.result ((c.whole_behind.result + (c.shared_distance.result + c.path_distance-in-Shared.result) % 18446744073709551616) % 18446744073709551616) c.shared_distance.ensures c.path_distance-in-Shared.ensures
    (ap (λ t. (t + (c.shared_distance.result + c.path_distance-in-Shared.result) % 18446744073709551616) % 18446744073709551616) c.whole_behind.ensures)
