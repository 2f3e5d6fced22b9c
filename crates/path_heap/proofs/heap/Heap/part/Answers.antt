use Rattle.std.proofs.Common.{subst, sym}
use Rattle.path_heap.specs.Points.{StandsForPart}
use Rattle.path_heap.proofs.Asking.{part_told}
use Rattle.path_heap.proofs.heap.Heap.part.Goals as goal

pub returns : goal.returns
returns c = λ h s p stands q begun.
    subst (λ k. StandsForPart h s.classes (record { number = c.args.n; class = c.cell-cell.result.class; whole = k; owner = c.cell-cell.result.owner }) p) (sym c.whole_behind.ensures)
    (part_told h c.args.self.now s stands c.args.n p q begun c.cell-cell.result c.cell-cell.ensures)
