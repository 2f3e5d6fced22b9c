use Rattle.std.proofs.Common.{rules, sym, ◌<◌, ◌+◌, ◌^◌}
use Rattle.std.specs.Prelude.{Contains}
use Rattle.abi_inspect.proofs.slots.rows_from.Goals as goal

pub overflow_add-slot : goal.overflow_add-slot
overflow_add-slot c =
    let has : Contains c.args.slots.now c.slot-item.result = (c.loop-slot.slot-index, c.loop-slot-test.true, sym c.slot-item.is) in
    let small : c.slot-item.result.place + c.slot-item.result.size < 2 ^ 32 = c.requires c.slot-item.result has in
    search rules
