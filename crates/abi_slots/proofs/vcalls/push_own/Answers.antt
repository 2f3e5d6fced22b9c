use Rattle.abi_slots.specs.Limits.{most_offsets}
use Rattle.abi_slots.specs.Listing.{call}
use Rattle.abi_slots.proofs.PushSteps.{next_room}
use Rattle.abi_slots.proofs.vcalls.push_own.Goals as goal

pub push_call-requires-clause-few : goal.push_call-requires-clause-few
push_call-requires-clause-few c = next_room c.args.h.now (call c.args.path.now) c.args.own.now c.loop-f.f-index _ c.loop-f.table.offsets.items _ most_offsets c.loop-f-test.true c.loop-f.invariant.pushed c.requires.few
