use Rattle.cxx_lookup.proofs.NameFindings.{name_is, name_only}
use Rattle.cxx_lookup.proofs.laws.name_finding.Goals as goal

pub returns-clause-is : goal.returns-clause-is
returns-clause-is c = λ h class name keeps. name_is h keeps class name

pub returns-clause-only : goal.returns-clause-only
returns-clause-only c = λ h class name finding keeps is. name_only h keeps class name finding is
