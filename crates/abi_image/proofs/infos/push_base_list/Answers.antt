use Rattle.abi_slots.specs.Images.{HasBaseWords}
use Rattle.abi_image.specs.invariants.Drafts.{class_address, two_words}
use Rattle.abi_image.proofs.Filling.{fills_next, fills_pairs}
use Rattle.abi_image.proofs.infos.push_base_list.Goals as goal

pub loop-base-preserved : goal.loop-base-preserved
loop-base-preserved c = fills_next two_words (λ image i base at. HasBaseWords image (class_address c.args.infos.now) base at) c.args.bases.now c.loop-base.base-index _ c.args.draft.now c.loop-base.draft c.push_base.new.draft c.loop-base-test.true c.loop-base.invariant c.in_ok-push_base.ensures

pub returns : goal.returns
returns c = fills_pairs (λ image i base at. HasBaseWords image (class_address c.args.infos.now) base at) c.args.bases.now c.loop-base.base-index c.args.draft.now c.loop-base.draft c.loop-base-test.false c.loop-base.invariant
