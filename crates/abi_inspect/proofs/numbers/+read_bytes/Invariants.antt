use Rattle.std.proofs.Common.{length}
use Rattle.abi_inspect.proofs.numbers.+read_bytes.Given as goal

abbrev pub decreases-read_bytes : goal.decreases-read_bytes
decreases-read_bytes l = length l.text.now
