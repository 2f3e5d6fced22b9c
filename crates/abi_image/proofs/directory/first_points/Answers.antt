use Rattle.std.proofs.Common.{◌≡◌, ◌<◌, length, take, subst, sym, ap, ◌∙◌, arith}
use Rattle.std.proofs.lemmas.List.{take_all, length-take-le}
use Rattle.foundation.proofs.Places.{any_default, get_read, take_next}
use Rattle.abi_image.specs.declared.TheConstants.{BASE}
use Rattle.abi_image.specs.invariants.Drafts.{address_in}
use Rattle.abi_image.specs.invariants.Points.{AreFirstPoints, ArePointsOf}
use Rattle.abi_image.proofs.FirstPoints.{firsts_none}
use Rattle.abi_image.proofs.directory.first_points.Goals as goal

pub loop-i-init : goal.loop-i-init
loop-i-init c = firsts_none (address_in c.args.places.now.at.items) c.args.classes c.in_ok-firsts.firsts.items c.in_ok-firsts.ensures

pub loop-i-preserved : goal.loop-i-preserved
loop-i-preserved c =
    let place : length (take c.loop-i.i c.args.groups.now) ≡ c.loop-i.i = length-take-le c.loop-i.i c.args.groups.now (omega arith) in
    let less : c.loop-i.i < length c.args.places.now.at.items = omega (arith, c.requires.at, c.loop-i-test.true) in
    let known : c.loop-i.i < length c.args.places.now.points.items = omega (arith, c.requires.points.size, c.loop-i-test.true) in
    let here : address_in c.args.places.now.at.items c.loop-i.i ≡ c.index.result.now = any_default c.args.places.now.at.items c.loop-i.i BASE c.index.result.now less ∙ sym c.index.ensures in
    let at = ap (address_in c.args.places.now.at.items) place ∙ here in
    let there = get_read c.args.places.now.points.items c.loop-i.i c.index-in-loop-i.result.now known c.index-in-loop-i.ensures in
    let points = c.requires.points.each c.loop-i.i c.index-groups-i.result c.index-in-loop-i.result.now (get_read c.args.groups.now c.loop-i.i c.index-groups-i.result c.loop-i-test.true c.index-groups-i.is) there in
    subst (λ l. AreFirstPoints l (address_in c.args.places.now.at.items) c.args.classes c.note_first.new.firsts.items) (sym (take_next c.args.groups.now c.loop-i.i c.index-groups-i.result c.loop-i-test.true c.index-groups-i.is))
    (c.note_first.ensures (take c.loop-i.i c.args.groups.now) (address_in c.args.places.now.at.items) c.args.classes at (subst (λ l. ArePointsOf c.index.result.now c.index-groups-i.result.tables l) (sym c.as_slice.ensures) (subst (λ n. ArePointsOf n c.index-groups-i.result.tables c.index-in-loop-i.result.now) here points)) c.loop-i.invariant)

pub returns : goal.returns
returns c = subst (λ l. AreFirstPoints l (address_in c.args.places.now.at.items) c.args.classes c.loop-i.firsts.items) (take_all c.loop-i.i c.args.groups.now c.loop-i-test.false) c.loop-i.invariant
