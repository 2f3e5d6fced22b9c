use Rattle.std.proofs.Common.{arith}
use Rattle.std.proofs.lemmas.Grind.{common_steps}
use Rattle.std.proofs.lemmas.List.Elements.{filter_map-append}
use Rattle.abi_judge.proofs.apart.keys_of.Goals as goal

pub loop-thing-preserved : goal.loop-thing-preserved
loop-thing-preserved c = grind (arith, common_steps, filter_map-append)
