use Rattle.std.proofs.Common.{◌++◌, ◌<◌, length, ap, subst, sym, arith}
use Rattle.foundation.proofs.Places.{get_read}
use Rattle.abi_image.specs.Encoded.{points_of}
use Rattle.abi_image.specs.invariants.Drafts.{address_in}
use Rattle.abi_image.specs.invariants.Points.{ArePointsOf}
use Rattle.abi_image.proofs.PointWords.{group_next, groups_end}
use Rattle.abi_image.proofs.points.list_points.Goals as goal

pub loop-i-init : goal.loop-i-init
loop-i-init c = λ group_at are. ap (λ l. l ++ points_of (address_in group_at) 0 c.args.groups.now) c.new-list.ensures

pub loop-i-preserved : goal.loop-i-preserved
loop-i-preserved c = λ group_at are.
    let less : c.loop-i.i < length c.args.points.now = omega (arith, c.requires, c.loop-i-test.true) in
    let points = are.each c.loop-i.i c.index-groups-i.result c.index-points-i.result (get_read c.args.groups.now c.loop-i.i c.index-groups-i.result c.loop-i-test.true c.index-groups-i.is) (get_read c.args.points.now c.loop-i.i c.index-points-i.result less c.index-points-i.is) in
    let here = subst (λ l. ArePointsOf (address_in group_at c.loop-i.i) c.index-groups-i.result.tables l) (sym c.as_slice.ensures) points in
    group_next c.args.groups.now (address_in group_at) c.loop-i.i c.index-groups-i.result c.loop-i.list c.push_points.new.points _ c.loop-i-test.true c.index-groups-i.is (c.in_ok-push_points.ensures (address_in group_at c.loop-i.i) here) (c.loop-i.invariant group_at are)

pub returns : goal.returns
returns c = λ group_at are. groups_end c.args.groups.now (address_in group_at) c.loop-i.i c.loop-i.list _ c.loop-i-test.false (c.loop-i.invariant group_at are)
