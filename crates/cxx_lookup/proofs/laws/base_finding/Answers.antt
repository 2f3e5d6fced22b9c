use Rattle.cxx_lookup.proofs.BaseFindings.{base_is, base_only}
use Rattle.cxx_lookup.proofs.laws.base_finding.Goals as goal

pub returns-clause-is : goal.returns-clause-is
returns-clause-is c = λ h class d keeps. base_is h keeps class d

pub returns-clause-only : goal.returns-clause-only
returns-clause-only c = λ h class d finding keeps is. base_only h keeps class d finding is
