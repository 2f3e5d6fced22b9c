use Rattle.std.proofs.Common.{◌≡◌, ap, map, ◌∙◌}
use Rattle.std.specs.Prelude.{slice_set}
use Rattle.path_heap.specs.declared.part_rows.PartRow.{PartRow}
use Rattle.path_heap.specs.PartLists.{PartLists}
use Rattle.path_heap.proofs.Rows.{as_long, field_kept, field_set}
use Rattle.path_heap.proofs.part_rows.PartRows.set_around.Goals as goal

pub returns-clause-cells : goal.returns-clause-cells
returns-clause-cells c =
    let rows = c.self.inside.rows in
    ap (map (λ (row : PartRow). row.cell)) c.in_ok-set.ensures.items
    ∙ (field_kept (λ (row : PartRow). row.cell) rows.items c.args.n _ rows.blank (ap (λ (row : PartRow). row.cell) c.get-row.ensures)
    ∙ ap (λ (lists : PartLists). lists.cells) c.self.view_is)

pub returns-clause-tops : goal.returns-clause-tops
returns-clause-tops c =
    let rows = c.self.inside.rows in
    ap (map (λ (row : PartRow). row.top)) c.in_ok-set.ensures.items
    ∙ (field_kept (λ (row : PartRow). row.top) rows.items c.args.n _ rows.blank (ap (λ (row : PartRow). row.top) c.get-row.ensures)
    ∙ ap (λ (lists : PartLists). lists.tops) c.self.view_is)

pub returns-clause-around : goal.returns-clause-around
returns-clause-around c =
    let rows = c.self.inside.rows in
    ap (map (λ (row : PartRow). row.around)) c.in_ok-set.ensures.items
    ∙ (field_set (λ (row : PartRow). row.around) rows.items c.args.n _
    ∙ ap (λ (lists : PartLists). slice_set lists.around c.args.n c.args.around) c.self.view_is)

pub returns-clause-long : goal.returns-clause-long
returns-clause-long c = as_long c.self.inside.rows.items c.set.new.self.items c.args.self.now c.self.view_is c.set.ensures.length
