use Rattle.std.proofs.Common.{◌∙◌, ap, sym}
use Rattle.std.specs.Prelude.{nat_eq}
use Rattle.path_heap.proofs.Asking.{in_heap_told}
use Rattle.path_heap.proofs.heap.Heap.is_in_heap_object.Goals as goal

pub returns : goal.returns
returns c = λ h s p stands q begun. in_heap_told h c.args.self.now s stands c.args.n p q begun c.cell.result c.cell.ensures c.object_at.result c.object_at.ensures c.row.result c.row.ensures ∙ ap (nat_eq c.row.result.start) (sym c.whole_behind.ensures)
