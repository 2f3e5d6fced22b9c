-- Each law is a lemma.
use Rattle.cxx_subobject.proofs.VirtualBaseLemmas.{virtual_listed, listed_virtual, virtual_places, listed_below}
use Rattle.cxx_subobject.proofs.laws.virtual_bases_are_listed.Goals as goal

pub returns-clause-listed : goal.returns-clause-listed
returns-clause-listed c = virtual_listed

pub returns-clause-valid : goal.returns-clause-valid
returns-clause-valid c = listed_virtual

pub returns-clause-once : goal.returns-clause-once
returns-clause-once c = virtual_places

pub returns-clause-below : goal.returns-clause-below
returns-clause-below c = listed_below
