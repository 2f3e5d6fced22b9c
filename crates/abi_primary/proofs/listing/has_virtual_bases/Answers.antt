use Rattle.foundation.proofs.Truth.{never}
use Rattle.abi_primary.proofs.VirtualListLemmas.{no_virtual}
use Rattle.abi_primary.proofs.listing.has_virtual_bases.Goals as goal

pub returns : goal.returns
returns c = never (λ x. no_virtual c.args.h.now c.args.c c.loop-v.v c.keeps.ensures c.loop-v.invariant c.loop-v-test.false x.0 x.1)
