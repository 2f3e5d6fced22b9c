use Rattle.std.proofs.Common.{arith}
use Rattle.abi_image.specs.invariants.Drafts.{info_size}
use Rattle.abi_image.proofs.Rooms.{next_inside}
use Rattle.abi_image.proofs.regions.info_sizes.Goals as goal

pub info_size-requires : goal.info_size-requires
info_size-requires c =
    let inside = next_inside info_size c.args.infos.now c.loop-info.info-index c.info-item.result c.loop-info-test.true c.info-item.is in
    let few = c.requires in
    omega (arith, inside, few)
