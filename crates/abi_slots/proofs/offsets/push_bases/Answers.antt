use Rattle.abi_slots.specs.declared.words.Offset.TheVariants.{ToBase}
use Rattle.abi_slots.specs.Limits.{most_offsets}
use Rattle.abi_slots.proofs.PushSteps.{next_room}
use Rattle.abi_slots.proofs.offsets.push_bases.Goals as goal

pub push_base-requires-clause-few : goal.push_base-requires-clause-few
push_base-requires-clause-few c = next_room c.args.h.now ToBase c.args.bases.now c.loop-v.v-index _ c.loop-v.table.offsets.items _ most_offsets c.loop-v-test.true c.loop-v.invariant.pushed c.requires.few
