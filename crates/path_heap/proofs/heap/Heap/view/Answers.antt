use Rattle.std.proofs.Common.{◌≡◌, ◌-◌, ◌∙◌, ap, sym, subst, ℕ, Option}
use Rattle.path_model.specs.Uses.{view_of}
use Rattle.path_heap.specs.Points.{PointsView}
use Rattle.path_heap.specs.Running.{entry_at, outer_at}
use Rattle.path_heap.specs.invariants.Columns.{cell_at, view_number}
use Rattle.path_heap.proofs.Seeing.{view_told}
use Rattle.path_heap.proofs.heap.Heap.view.Goals as goal

pub returns : goal.returns
returns c = λ h s p stands q begun.
    let heap = c.args.self.now in
    let w : c.whole_behind-whole.result ≡ c.args.n - c.cell-own.result.back = c.whole_behind-whole.ensures in
    subst (λ (v : Option ℕ). PointsView h s.classes p v (view_of h s p))
    (sym (c.view_of_whole.ensures ∙ (ap (λ t. view_number c.cell.result.phase c.whole_behind-whole.result t) (c.outer_at.ensures ∙ ap (outer_at c.whole_behind-whole.result) c.top.ensures) ∙ ap (λ k. view_number c.cell.result.phase k (outer_at k (entry_at heap.parts.tops k))) w)))
    (view_told h heap s stands c.args.n p q begun c.cell-own.result c.cell-own.ensures c.cell.result (c.cell.ensures ∙ ap (cell_at heap) w))
