use Rattle.abi_inspect.proofs.OneReading.{dump_named, one_dump, one_line}
use Rattle.abi_inspect.proofs.laws.one_reading.Goals as goal

pub returns-clause-values : goal.returns-clause-values
returns-clause-values c = λ h rows text one other words keeps sound is also. one_dump h rows text one other words keeps sound is also

pub returns-clause-named : goal.returns-clause-named
returns-clause-named c = λ h rows text seen words sound is unknown. dump_named h rows text seen words sound is unknown

pub returns-clause-faultless : goal.returns-clause-faultless
returns-clause-faultless c = λ h l text seen line is fault. fault.none seen is

pub returns-clause-otherwise : goal.returns-clause-otherwise
returns-clause-otherwise c = λ h l text line unknown fault. fault.otherwise unknown

pub returns-clause-lines : goal.returns-clause-lines
returns-clause-lines c = λ h l text one other fault also. one_line h l text one other fault also
