use Rattle.std.proofs.Common.{refl}
use Rattle.foundation.proofs.Truth.{always}
use Rattle.abi_primary.specs.NearlyEmpty.{IsLight}
use Rattle.abi_primary.proofs.Nth.{nth, nth_listed, all_nth}
use Rattle.abi_primary.proofs.nearly_empty.are_light.Goals as goal

pub is_empty-requires : goal.is_empty-requires
is_empty-requires c = c.requires (nth c.args.bases.now c.loop-base.base-index) (nth_listed c.args.bases.now c.loop-base.base-index c.loop-base-test.true)

pub returns : goal.returns
returns c = always (all_nth (IsLight c.args.h.now c.args.nearly.now) c.args.bases.now c.args.bases.now c.loop-base.base-index refl c.loop-base-test.false c.loop-base.invariant)
