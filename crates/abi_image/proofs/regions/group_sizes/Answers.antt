use Rattle.std.proofs.Common.{◌≡◌, length, ap, arith}
use Rattle.abi_slots.specs.Images.{all_words}
use Rattle.abi_image.specs.invariants.Drafts.{group_size}
use Rattle.abi_image.proofs.Rooms.{next_inside}
use Rattle.abi_image.proofs.regions.group_sizes.Goals as goal

pub words_in-requires : goal.words_in-requires
words_in-requires c =
    let inside = next_inside group_size c.args.groups.now c.loop-group.group-index c.group-item.result c.loop-group-test.true c.group-item.is in
    let same : length (all_words c.as_slice.result.now) ≡ group_size c.group-item.result = ap (λ tables. length (all_words tables)) c.as_slice.ensures in
    let few = c.requires in
    omega (arith, inside, same, few)
