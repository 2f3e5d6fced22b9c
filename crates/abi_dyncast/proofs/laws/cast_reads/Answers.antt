use Rattle.abi_dyncast.proofs.Keeping.{can_kept, casts_kept}
use Rattle.abi_dyncast.proofs.laws.cast_reads.Goals as goal

pub returns : goal.returns
returns c image other memory next parts at can load keeps = (can_kept image other memory next parts at can load keeps, casts_kept image other memory next parts at can load keeps)
