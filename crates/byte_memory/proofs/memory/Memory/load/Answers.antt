use Rattle.byte_memory.proofs.ByteViews.{fits-bytes}
use Rattle.byte_memory.proofs.memory.Memory.load.Goals as goal

pub returns-clause-fits : goal.returns-clause-fits
returns-clause-fits g c = fits-bytes c.load_bits.result c.args.bytes c.load_bits.ensures.fits
