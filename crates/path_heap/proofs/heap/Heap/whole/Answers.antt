use Rattle.std.proofs.Common.{subst, sym}
use Rattle.path_heap.specs.Points.{PointsWhole}
use Rattle.path_heap.proofs.Asking.{whole_told}
use Rattle.path_heap.proofs.heap.Heap.whole.Goals as goal

pub returns : goal.returns
returns c = λ h s p stands q begun. subst (λ k. PointsWhole h s.classes k p) (sym c.whole_behind.ensures) (whole_told h c.args.self.now s stands c.args.n p q begun c.cell.result c.cell.ensures)
