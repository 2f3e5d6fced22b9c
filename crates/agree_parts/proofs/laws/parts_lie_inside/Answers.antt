-- Each law is a lemma.
use Rattle.agree_parts.proofs.Inside.{part_inside, part_positive, part_limit, leaf_inside, leaf_bytes, pointer_inside}
use Rattle.agree_parts.proofs.laws.parts_lie_inside.Goals as goal

pub returns-clause-part : goal.returns-clause-part
returns-clause-part c = part_inside

pub returns-clause-positive : goal.returns-clause-positive
returns-clause-positive c = part_positive

pub returns-clause-limit : goal.returns-clause-limit
returns-clause-limit c = part_limit

pub returns-clause-leaf : goal.returns-clause-leaf
returns-clause-leaf c = leaf_inside

pub returns-clause-pointer : goal.returns-clause-pointer
returns-clause-pointer c = pointer_inside

pub returns-clause-bytes : goal.returns-clause-bytes
returns-clause-bytes c = leaf_bytes
