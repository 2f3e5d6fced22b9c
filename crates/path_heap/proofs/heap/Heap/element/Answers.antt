use Rattle.path_heap.proofs.Reaching.{element_reached}
use Rattle.path_heap.proofs.heap.Heap.element.Goals as goal

pub returns : goal.returns
returns c = λ s p class d stands q begun is_class e. element_reached c.args.h.now c.args.self.now s stands c.args.n p q begun class is_class c.cell.result c.cell.ensures c.args.member c.args.index d e c.element_number.result (c.element_number.ensures.object d)
