use Rattle.std.proofs.Common.{◌<◌, ◌+◌, ◌^◌, take, subst, sym, rules, [], arith}
use Rattle.std.proofs.lemmas.List.{take_all}
use Rattle.abi_image.specs.invariants.Points.{ArePointsOf}
use Rattle.abi_image.proofs.Placing.{words_next}
use Rattle.abi_image.proofs.PointWords.{no_points, points_next}
use Rattle.abi_image.proofs.Rooms.{tables_inside}
use Rattle.abi_image.proofs.points.points_of_tables.Goals as goal

pub loop-table-init : goal.loop-table-init
loop-table-init c = record { points = subst (λ l. ArePointsOf c.args.at [] l) (sym c.new-points.ensures) (no_points c.args.at); here = search rules }

pub behind-requires : goal.behind-requires
behind-requires c =
    let inside = tables_inside c.args.tables.now c.loop-table.table-index c.table-item.result c.loop-table-test.true c.table-item.is in
    let before : c.table-item.result.before < 2 ^ 32 = search rules in
    let here = c.loop-table.invariant.here in
    let room = c.requires in
    omega (arith, inside, before, here, room)

pub behind-here-requires : goal.behind-here-requires
behind-here-requires c =
    let inside = tables_inside c.args.tables.now c.loop-table.table-index c.table-item.result c.loop-table-test.true c.table-item.is in
    let size = c.len.ensures in
    let here = c.loop-table.invariant.here in
    let room = c.requires in
    omega (arith, inside, size, here, room)

pub loop-table-preserved : goal.loop-table-preserved
loop-table-preserved c =
    let more = words_next c.args.tables.now c.loop-table.table-index c.table-item.result c.loop-table-test.true c.table-item.is in
    record {
      points = subst (λ l. ArePointsOf c.args.at (take (c.loop-table.table-index + 1) c.args.tables.now) l) (sym c.in_ok-push.ensures.ok) (points_next c.args.at c.args.tables.now c.loop-table.table-index c.table-item.result c.loop-table.points c.loop-table.here c.behind.result c.loop-table-test.true c.table-item.is c.loop-table.invariant.here c.behind.ensures c.loop-table.invariant.points);
      here = omega (arith, more, c.loop-table.invariant.here, c.behind-here.ensures, c.len.ensures);
    }

pub returns : goal.returns
returns c = subst (λ l. ArePointsOf c.args.at l c.loop-table.points) (take_all c.loop-table.table-index c.args.tables.now c.loop-table-test.false) c.loop-table.invariant.points
