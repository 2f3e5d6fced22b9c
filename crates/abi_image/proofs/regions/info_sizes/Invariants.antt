use Rattle.std.proofs.Common.{◌≡◌, map, take}
use Rattle.abi_image.specs.invariants.Drafts.{info_size}
use Rattle.abi_image.proofs.regions.info_sizes.Given as goal

abbrev pub invariant-loop-info : goal.invariant-loop-info
invariant-loop-info l = l.sizes.items ≡ map info_size (take l.info-index l.infos)
