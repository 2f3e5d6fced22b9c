use Rattle.std.proofs.Common.{arith}
use Rattle.std.proofs.lemmas.Grind.{common_steps}
use Rattle.std.proofs.lemmas.List.Elements.{filter_map-append}
use Rattle.abi_foreign.proofs.row.virtual_bases.Goals as goal

pub loop-s-preserved : goal.loop-s-preserved
loop-s-preserved c = grind (arith, common_steps, filter_map-append)
