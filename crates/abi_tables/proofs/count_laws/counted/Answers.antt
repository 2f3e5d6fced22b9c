use Rattle.abi_tables.proofs.TableLengths.{group_length}
use Rattle.abi_tables.proofs.count_laws.counted.Goals as goal

pub returns-clause-group : goal.returns-clause-group
returns-clause-group c = λ h l group of. group_length h l group of

pub returns-clause-vtt : goal.returns-clause-vtt
returns-clause-vtt c = λ h l class words is. is.size
