use Rattle.std.proofs.Common.{◌≡◌, ◌+◌, ◌<◌, length, take, ap, subst, sym, [], arith, get_or}
use Rattle.std.proofs.lemmas.List.{take_all}
use Rattle.foundation.proofs.Places.{any_default, get_read}
use Rattle.abi_slots.specs.Images.{all_words}
use Rattle.abi_image.specs.declared.TheConstants.{BASE}
use Rattle.abi_image.specs.invariants.Drafts.{address_in}
use Rattle.abi_image.specs.invariants.Points.{AreGroupPoints, ArePointsOf}
use Rattle.abi_image.proofs.PointWords.{no_groups, groups_next}
use Rattle.abi_image.proofs.points.points_of_groups.Goals as goal

pub loop-i-init : goal.loop-i-init
loop-i-init c = subst (λ l. AreGroupPoints [] c.args.group_at.now l) (sym c.new-points.ensures.items) (no_groups c.args.group_at.now)

pub points_of_tables-requires : goal.points_of_tables-requires
points_of_tables-requires c =
    let less : c.loop-i.i < length c.args.group_at.now = omega (arith, c.requires.size, c.loop-i-test.true) in
    let room = c.requires.room c.loop-i.i c.index-groups-i.result (get_read c.args.groups.now c.loop-i.i c.index-groups-i.result c.loop-i-test.true c.index-groups-i.is) in
    let at : get_or c.args.group_at.now c.loop-i.i 0 ≡ address_in c.args.group_at.now c.loop-i.i = any_default c.args.group_at.now c.loop-i.i 0 BASE less in
    let same : length (all_words c.as_slice.result.now) ≡ length (all_words c.index-groups-i.result.tables) = ap (λ tables. length (all_words tables)) c.as_slice.ensures in
    omega (arith, room, at, same)

pub loop-i-preserved : goal.loop-i-preserved
loop-i-preserved c =
    let less : c.loop-i.i < length c.args.group_at.now = omega (arith, c.requires.size, c.loop-i-test.true) in
    let list = c.in_ok-points_of_tables.field-0 in
    let raw = subst (λ ts. ArePointsOf (get_or c.args.group_at.now c.loop-i.i 0) ts c.in_ok-points_of_tables.field-0) c.as_slice.ensures c.in_ok-points_of_tables.ensures in
    let here = subst (λ n. ArePointsOf n c.index-groups-i.result.tables c.in_ok-points_of_tables.field-0) (any_default c.args.group_at.now c.loop-i.i 0 BASE less) raw in
    subst (λ l. AreGroupPoints (take (c.loop-i.i + 1) c.args.groups.now) c.args.group_at.now l) (sym c.in_ok-push.ensures.items) (groups_next c.args.groups.now c.args.group_at.now c.loop-i.i c.index-groups-i.result c.loop-i.points.items c.in_ok-points_of_tables.field-0 c.loop-i-test.true c.index-groups-i.is here c.loop-i.invariant)

pub returns : goal.returns
returns c = subst (λ l. AreGroupPoints l c.args.group_at.now c.loop-i.points.items) (take_all c.loop-i.i c.args.groups.now c.loop-i-test.false) c.loop-i.invariant
