use Rattle.std.proofs.Common.{◌≡◌, ◌+◌, ◌*◌, take, subst, sym, ap, ◌∙◌, rules, arith, get_or, []}
use Rattle.std.proofs.lemmas.List.{take_all}
use Rattle.foundation.proofs.Places.{any_default}
use Rattle.abi_image.specs.invariants.Drafts.{sum_of_sizes}
use Rattle.abi_image.specs.invariants.Parts.{AreAt}
use Rattle.abi_image.proofs.Placing.{at_none, region_more, end_more}
use Rattle.abi_image.proofs.Rooms.{size_inside}
use Rattle.abi_image.proofs.regions.region_of.Goals as goal

pub loop-size-init : goal.loop-size-init
loop-size-init c = record { each = subst (λ items. AreAt c.args.start [] items) (sym c.new-at.ensures.items) (at_none c.args.start); end_is = search rules }

pub behind-end-requires : goal.behind-end-requires
behind-end-requires c =
    let is = any_default c.args.sizes.now c.loop-size.size-index 0 (get_or c.args.sizes.now c.loop-size.size-index 0) c.loop-size-test.true in
    let inside = size_inside c.args.sizes.now c.loop-size.size-index (get_or c.args.sizes.now c.loop-size.size-index 0) c.loop-size-test.true is in
    let end_is = c.loop-size.invariant.end_is in
    let room = c.requires.room in
    omega (arith, inside, end_is, room)

pub loop-size-preserved : goal.loop-size-preserved
loop-size-preserved c =
    let is = any_default c.args.sizes.now c.loop-size.size-index 0 (get_or c.args.sizes.now c.loop-size.size-index 0) c.loop-size-test.true in
    record {
      each = subst (λ items. AreAt c.args.start (take (c.loop-size.size-index + 1) c.args.sizes.now) items) (sym c.in_ok-push.ensures.items) (region_more c.args.start c.args.sizes.now c.loop-size.size-index (get_or c.args.sizes.now c.loop-size.size-index 0) c.loop-size.at.items c.loop-size.end c.requires.low c.loop-size-test.true is c.loop-size.invariant.end_is c.loop-size.invariant.each);
      end_is = end_more c.args.start c.args.sizes.now c.loop-size.size-index (get_or c.args.sizes.now c.loop-size.size-index 0) c.loop-size.end _ c.loop-size-test.true is c.loop-size.invariant.end_is c.behind-end.ensures;
    }

pub returns : goal.returns
returns c =
    let all : take c.loop-size.size-index c.args.sizes.now ≡ c.args.sizes.now = take_all c.loop-size.size-index c.args.sizes.now c.loop-size-test.false in
    record {
      each = subst (λ l. AreAt c.args.start l c.loop-size.at.items) all c.loop-size.invariant.each;
      end_is = c.loop-size.invariant.end_is ∙ ap (λ l. c.args.start + 8 * sum_of_sizes l) all;
    }
