use Rattle.std.proofs.Common.{sym}
use Rattle.text_bytes.proofs.items.push_rows.Goals as goal

pub row_item-requires : goal.row_item-requires
row_item-requires g c = c.requires c.row-item.result (c.loop-row.row-index, c.loop-row-test.true, sym c.row-item.is)
