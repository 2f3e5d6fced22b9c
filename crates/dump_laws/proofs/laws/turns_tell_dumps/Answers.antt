use Rattle.dump_laws.proofs.TurnDumps.{dumps_agree}
use Rattle.dump_laws.proofs.laws.turns_tell_dumps.Goals as goal

pub returns : goal.returns
returns c = dumps_agree
