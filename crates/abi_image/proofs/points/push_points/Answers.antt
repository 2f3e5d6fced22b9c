use Rattle.std.proofs.Common.{◌++◌, ◌∷◌, [], get_or, ap, ◌∙◌}
use Rattle.foundation.proofs.Places.{any_default}
use Rattle.abi_slots.specs.declared.words.GroupName.{GroupName}
use Rattle.abi_image.proofs.PointWords.{point_next, points_end}
use Rattle.abi_image.proofs.points.push_points.Goals as goal

pub loop-table-preserved : goal.loop-table-preserved
loop-table-preserved c = λ at points.
    let address = get_or c.args.addresses.now c.loop-table.table 0 in
    let pushed = c.in_ok-push.ensures.ok ∙ ap (λ (g : GroupName). c.loop-table.points ++ (record { address = get_or c.args.addresses.now c.loop-table.table 0; group = g; table = c.loop-table.table }) ∷ []) c.in_ok-copy_name.ensures in
    point_next at c.args.group.now c.args.addresses.now c.loop-table.table address c.loop-table.points c.push.new.self _ points c.loop-table-test.true (any_default c.args.addresses.now c.loop-table.table 0 address c.loop-table-test.true) pushed (c.loop-table.invariant at points)

pub returns : goal.returns
returns c = λ at points. points_end at c.args.group.now c.args.addresses.now c.loop-table.table c.loop-table.points _ points c.loop-table-test.false (c.loop-table.invariant at points)
