use Rattle.std.proofs.Common.{rules, sym, ◌<◌, ◌+◌, ◌^◌}
use Rattle.std.specs.Prelude.{Contains}
use Rattle.text_told.proofs.dump.append_lines.Goals as goal

pub overflow_add-item : goal.overflow_add-item
overflow_add-item c =
    let has : Contains c.args.items.now c.item-item.result = (c.loop-item.item-index, c.loop-item-test.true, sym c.item-item.is) in
    let small : c.item-item.result.place + c.item-item.result.size < 2 ^ 32 = c.requires c.item-item.result has in
    search rules
