use Rattle.std.proofs.Common.{◌<◌, ◌^◌, sym, arith}
use Rattle.text_bytes.proofs.rows.push_inner.Goals as goal

pub inner_row-requires : goal.inner_row-requires
inner_row-requires c =
    let row = c.row-item.result in
    let small : row.place < 2 ^ 31 = c.requires.inside row (c.loop-row.row-index, c.loop-row-test.true, sym c.row-item.is) in
    let place : c.args.place < 2 ^ 31 = c.requires.place in omega arith
