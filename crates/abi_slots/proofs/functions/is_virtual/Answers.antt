use Rattle.abi_slots.proofs.Complete.{test_is}
use Rattle.abi_slots.proofs.functions.is_virtual.Goals as goal

pub returns : goal.returns
returns c = test_is c.args.h.now c.keeps.ensures c.args.f c.is_virtual.result (c.is_virtual.ensures c.args.h.now c.requires)
