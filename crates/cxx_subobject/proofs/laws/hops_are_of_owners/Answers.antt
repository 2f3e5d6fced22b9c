-- Each direction is a lemma.
use Rattle.cxx_subobject.proofs.LocationLemmas.{hops_to, leads_by}
use Rattle.cxx_subobject.proofs.laws.hops_are_of_owners.Goals as goal

pub returns : goal.returns
returns c = λ h d hops type. (hops_to h d hops type, leads_by h d hops type)
