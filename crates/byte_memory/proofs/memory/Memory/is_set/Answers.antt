use Rattle.byte_memory.proofs.ByteViews.{set_of-byte}
use Rattle.byte_memory.proofs.memory.Memory.is_set.Goals as goal

pub returns : goal.returns
returns g c = set_of-byte (g.Self.Memory.meaning c.args.self.now) c.args.at c.load_bits.result c.set_by.result c.load_bits.ensures.value c.set_by.ensures
