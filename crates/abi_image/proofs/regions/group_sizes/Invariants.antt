use Rattle.std.proofs.Common.{◌≡◌, map, take}
use Rattle.abi_image.specs.invariants.Drafts.{group_size}
use Rattle.abi_image.proofs.regions.group_sizes.Given as goal

abbrev pub invariant-loop-group : goal.invariant-loop-group
invariant-loop-group l = l.sizes.items ≡ map group_size (take l.group-index l.groups)
