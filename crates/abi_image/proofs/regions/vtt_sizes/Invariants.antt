use Rattle.std.proofs.Common.{◌≡◌, map, take}
use Rattle.abi_image.specs.invariants.Drafts.{vtt_size}
use Rattle.abi_image.proofs.regions.vtt_sizes.Given as goal

abbrev pub invariant-loop-vtt : goal.invariant-loop-vtt
invariant-loop-vtt l = l.sizes.items ≡ map vtt_size (take l.vtt-index l.vtts)
