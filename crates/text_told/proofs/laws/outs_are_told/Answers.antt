use Rattle.text_told.proofs.RunDumps.{told_dump, told_part}
use Rattle.text_told.proofs.laws.outs_are_told.Goals as goal

pub returns-clause-part : goal.returns-clause-part
returns-clause-part c = λ h s p d known made of. told_part h s p d known made of

pub returns-clause-dump : goal.returns-clause-dump
returns-clause-dump c = λ h s k d known made rule. told_dump h s k d known made rule
