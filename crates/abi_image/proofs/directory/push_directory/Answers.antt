use Rattle.std.proofs.Common.{◌≡◌, ◌+◌, ◌<◌, Some, length, get_or, ap, ◌∙◌, refl, arith}
use Rattle.std.specs.List.{slice_index_or}
use Rattle.foundation.proofs.Places.{any_default}
use Rattle.abi_slots.specs.Images.{vtt_address}
use Rattle.abi_image.specs.declared.TheConstants.{BASE}
use Rattle.abi_image.specs.invariants.Drafts.{address_in, two_words}
use Rattle.abi_image.proofs.FirstPoints.{puts_class}
use Rattle.abi_image.proofs.Filling.{fills_more, fills_pairs}
use Rattle.abi_image.proofs.directory.push_directory.Goals as goal

pub loop-c-preserved : goal.loop-c-preserved
loop-c-preserved c =
    let less : c.loop-c.c < length c.args.vtt_at.now = omega (arith, c.requires.places, c.loop-c-test.true) in
    let vtt = c.vtt_address.ensures ∙ ap (λ n. vtt_address n c.index-vtts-c.result) (any_default c.args.vtt_at.now c.loop-c.c 0 BASE less) in
    fills_more two_words (λ image i vtt at. (image at ≡ Some (slice_index_or c.args.firsts.now i 0)) × (image (at + 8) ≡ Some (vtt_address (address_in c.args.vtt_at.now i) vtt))) c.args.vtts.now c.loop-c.c c.index-vtts-c.result c.args.draft.now c.loop-c.draft c.push-in-loop-c.new.self c.loop-c-test.true c.index-vtts-c.is c.loop-c.invariant
    (puts_class c.loop-c.draft c.push.new.self c.push-in-loop-c.new.self c.args.firsts.now c.args.vtt_at.now c.loop-c.c (get_or c.args.firsts.now c.loop-c.c 0) c.vtt_address.result c.index-vtts-c.result refl vtt
    c.in_ok-push.ensures.words c.in_ok-push.ensures.records c.in_ok-push.ensures.place c.in_ok-push-2.ensures.words c.in_ok-push-2.ensures.records c.in_ok-push-2.ensures.place)

pub returns : goal.returns
returns c = fills_pairs (λ image i vtt at. (image at ≡ Some (slice_index_or c.args.firsts.now i 0)) × (image (at + 8) ≡ Some (vtt_address (address_in c.args.vtt_at.now i) vtt))) c.args.vtts.now c.loop-c.c c.args.draft.now c.loop-c.draft c.loop-c-test.false c.loop-c.invariant
