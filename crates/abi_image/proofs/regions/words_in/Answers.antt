use Rattle.std.proofs.Common.{arith}
use Rattle.abi_image.proofs.Rooms.{tables_inside}
use Rattle.abi_image.proofs.regions.words_in.Goals as goal

pub overflow_add-words : goal.overflow_add-words
overflow_add-words c =
    let inside = tables_inside c.args.tables.now c.loop-table.table-index c.table-item.result c.loop-table-test.true c.table-item.is in
    let size = c.len-words.ensures in
    let before = c.loop-table.invariant in
    let few = c.requires in
    omega (arith, inside, size, before, few)
