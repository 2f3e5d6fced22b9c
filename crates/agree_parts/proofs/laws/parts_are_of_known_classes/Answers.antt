-- Each law is a lemma.
use Rattle.agree_parts.proofs.Made.{owner_there, whole_owner, element_owner}
use Rattle.agree_parts.proofs.Inside.{known_complete, known_class, some_object}
use Rattle.agree_parts.proofs.laws.parts_are_of_known_classes.Goals as goal

pub returns-clause-owner : goal.returns-clause-owner
returns-clause-owner c = owner_there

pub returns-clause-whole : goal.returns-clause-whole
returns-clause-whole c = whole_owner

pub returns-clause-element : goal.returns-clause-element
returns-clause-element c = element_owner

pub returns-clause-complete : goal.returns-clause-complete
returns-clause-complete c = known_complete

pub returns-clause-class : goal.returns-clause-class
returns-clause-class c = known_class

pub returns-clause-object : goal.returns-clause-object
returns-clause-object c = some_object
