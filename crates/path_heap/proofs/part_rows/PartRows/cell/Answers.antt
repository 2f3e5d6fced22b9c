use Rattle.std.proofs.Common.{◌≡◌, ap, sym, ◌∙◌}
use Rattle.std.specs.Prelude.{slice_get}
use Rattle.path_heap.specs.declared.part_rows.PartRow.{PartRow}
use Rattle.path_heap.specs.PartLists.{PartLists}
use Rattle.path_heap.specs.invariants.Columns.{cell_or}
use Rattle.path_heap.proofs.Rows.{field_at}
use Rattle.path_heap.proofs.part_rows.PartRows.cell.Goals as goal

pub returns : goal.returns
returns c =
    let rows = c.self.inside.rows in
    ap (λ (row : PartRow). row.cell) c.get.ensures
    ∙ (sym (field_at (λ (row : PartRow). row.cell) cell_or rows.items c.args.n rows.blank (sym (ap (λ (row : PartRow). row.cell) c.self.inside.blank)))
    ∙ ap (λ (lists : PartLists). cell_or (slice_get lists.cells c.args.n)) c.self.view_is)
