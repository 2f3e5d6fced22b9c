use Rattle.std.proofs.Common.{◌≡◌, ap, sym, ◌∙◌}
use Rattle.std.specs.Prelude.{slice_get}
use Rattle.path_heap.specs.declared.part_rows.PartRow.{PartRow}
use Rattle.path_heap.specs.PartLists.{PartLists}
use Rattle.path_heap.specs.Running.{entry_in}
use Rattle.path_heap.proofs.Rows.{field_at}
use Rattle.path_heap.proofs.part_rows.PartRows.around.Goals as goal

pub returns : goal.returns
returns c =
    let rows = c.self.inside.rows in
    ap (λ (row : PartRow). row.around) c.get.ensures
    ∙ (sym (field_at (λ (row : PartRow). row.around) entry_in rows.items c.args.n rows.blank (sym (ap (λ (row : PartRow). row.around) c.self.inside.blank)))
    ∙ ap (λ (lists : PartLists). entry_in (slice_get lists.around c.args.n)) c.self.view_is)
