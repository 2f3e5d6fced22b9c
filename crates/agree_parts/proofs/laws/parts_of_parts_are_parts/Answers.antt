-- Each law is a lemma.
use Rattle.agree_parts.proofs.Made.{whole_made, complete_made, base_made, shared_made, inner_is_made, element_is_made}
use Rattle.agree_parts.proofs.laws.parts_of_parts_are_parts.Goals as goal

pub returns-clause-object : goal.returns-clause-object
returns-clause-object c = whole_made

pub returns-clause-complete : goal.returns-clause-complete
returns-clause-complete c = complete_made

pub returns-clause-base : goal.returns-clause-base
returns-clause-base c = base_made

pub returns-clause-shared : goal.returns-clause-shared
returns-clause-shared c = shared_made

pub returns-clause-inner : goal.returns-clause-inner
returns-clause-inner c = inner_is_made

pub returns-clause-element : goal.returns-clause-element
returns-clause-element c = element_is_made
