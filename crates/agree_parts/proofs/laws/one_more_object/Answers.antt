-- Each law is a lemma.
use Rattle.agree_parts.proofs.Growth.{none_placed, still_placed, new_object, address_kept, leaf_kept, inside_kept, made_before}
use Rattle.agree_parts.proofs.laws.one_more_object.Goals as goal

pub returns-clause-none : goal.returns-clause-none
returns-clause-none c = none_placed

pub returns-clause-placed : goal.returns-clause-placed
returns-clause-placed c = still_placed

pub returns-clause-object : goal.returns-clause-object
returns-clause-object c = new_object

pub returns-clause-address : goal.returns-clause-address
returns-clause-address c = address_kept

pub returns-clause-leaf : goal.returns-clause-leaf
returns-clause-leaf c = leaf_kept

pub returns-clause-inside : goal.returns-clause-inside
returns-clause-inside c = inside_kept

pub returns-clause-made : goal.returns-clause-made
returns-clause-made c = made_before
