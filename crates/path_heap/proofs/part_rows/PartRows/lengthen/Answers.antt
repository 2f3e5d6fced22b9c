use Rattle.std.proofs.Common.{◌≡◌, ap, map, ◌∙◌}
use Rattle.std.specs.Prelude.{◌++◌, None, replicate}
use Rattle.path_heap.specs.declared.part_rows.PartRow.{PartRow}
use Rattle.path_heap.specs.Blanks.{no_cell}
use Rattle.path_heap.specs.PartLists.{PartLists}
use Rattle.path_heap.proofs.Rows.{field_more}
use Rattle.path_heap.proofs.part_rows.PartRows.lengthen.Goals as goal

pub returns-clause-cells : goal.returns-clause-cells
returns-clause-cells c =
    let rows = c.self.inside.rows in
    ap (map (λ (row : PartRow). row.cell)) c.lengthen.ensures.items
    ∙ (field_more (λ (row : PartRow). row.cell) rows.items c.args.count rows.blank
    ∙ (ap (λ (row : PartRow). map (λ (row : PartRow). row.cell) rows.items ++ replicate c.args.count row.cell) c.self.inside.blank
    ∙ ap (λ (lists : PartLists). lists.cells ++ replicate c.args.count no_cell) c.self.view_is))

pub returns-clause-tops : goal.returns-clause-tops
returns-clause-tops c =
    let rows = c.self.inside.rows in
    ap (map (λ (row : PartRow). row.top)) c.lengthen.ensures.items
    ∙ (field_more (λ (row : PartRow). row.top) rows.items c.args.count rows.blank
    ∙ (ap (λ (row : PartRow). map (λ (row : PartRow). row.top) rows.items ++ replicate c.args.count row.top) c.self.inside.blank
    ∙ ap (λ (lists : PartLists). lists.tops ++ replicate c.args.count None) c.self.view_is))

pub returns-clause-around : goal.returns-clause-around
returns-clause-around c =
    let rows = c.self.inside.rows in
    ap (map (λ (row : PartRow). row.around)) c.lengthen.ensures.items
    ∙ (field_more (λ (row : PartRow). row.around) rows.items c.args.count rows.blank
    ∙ (ap (λ (row : PartRow). map (λ (row : PartRow). row.around) rows.items ++ replicate c.args.count row.around) c.self.inside.blank
    ∙ ap (λ (lists : PartLists). lists.around ++ replicate c.args.count None) c.self.view_is))
