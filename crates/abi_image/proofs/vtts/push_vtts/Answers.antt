use Rattle.std.proofs.Common.{length, subst}
use Rattle.abi_image.specs.invariants.Drafts.{AllAt, Puts, address_in, vtt_size}
use Rattle.abi_image.specs.invariants.Points.{HasPointAt}
use Rattle.abi_image.proofs.Filling.{fills_more, fills_all}
use Rattle.abi_image.proofs.vtts.push_vtts.Goals as goal

pub loop-vtt-preserved : goal.loop-vtt-preserved
loop-vtt-preserved c = fills_more vtt_size (λ image i vtt at. AllAt (HasPointAt image c.args.groups.now (address_in c.args.places.now.at.items)) vtt at) c.args.vtts.now c.loop-vtt.vtt-index c.vtt-item.result c.args.draft.now c.loop-vtt.draft c.push_vtt.new.draft c.loop-vtt-test.true c.vtt-item.is c.loop-vtt.invariant
    (subst (λ ws. Puts c.loop-vtt.draft c.push_vtt.new.draft (length ws) (λ image at. AllAt (HasPointAt image c.args.groups.now (address_in c.args.places.now.at.items)) ws at)) c.as_slice.ensures c.in_ok-push_vtt.ensures)

pub returns : goal.returns
returns c = fills_all vtt_size (λ image i vtt at. AllAt (HasPointAt image c.args.groups.now (address_in c.args.places.now.at.items)) vtt at) c.args.vtts.now c.loop-vtt.vtt-index c.args.draft.now c.loop-vtt.draft c.loop-vtt-test.false c.loop-vtt.invariant
