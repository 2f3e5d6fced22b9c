use Rattle.abi_inspect.proofs.slots.typed_slot.Goals as goal

pub bytes_of-requires : goal.bytes_of-requires
bytes_of-requires c = c.requires.few
