-- Each law is a lemma.
use Rattle.byte_laws.proofs.SameTurns.{turn_law, turns_law}
use Rattle.byte_laws.proofs.laws.notes_only_refuse.Goals as goal

pub returns-clause-turn : goal.returns-clause-turn
returns-clause-turn c = turn_law

pub returns-clause-turns : goal.returns-clause-turns
returns-clause-turns c = turns_law
