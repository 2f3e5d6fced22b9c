use Rattle.std.proofs.Common.{◌≡◌, ◌+◌, ◌*◌, take}
use Rattle.abi_image.specs.invariants.Drafts.{sum_of_sizes}
use Rattle.abi_image.specs.invariants.Parts.{AreAt}
use Rattle.abi_image.proofs.regions.region_of.Given as goal

abbrev pub invariant-loop-size : goal.invariant-loop-size
invariant-loop-size l = record {
  each : AreAt l.start (take l.size-index l.sizes) l.at.items;
  end_is : l.end ≡ l.start + 8 * sum_of_sizes (take l.size-index l.sizes);
}
