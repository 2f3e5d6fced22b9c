-- Each law is a lemma.
use Rattle.agree_parts.proofs.Apart.{leaves_apart, leaf_and_pointer, pointers_of_others, pointers_of_one, chain_address}
use Rattle.agree_parts.proofs.laws.leaves_and_pointers_lie_apart.Goals as goal

pub returns-clause-leaves : goal.returns-clause-leaves
returns-clause-leaves c = leaves_apart

pub returns-clause-leaf_and_pointer : goal.returns-clause-leaf_and_pointer
returns-clause-leaf_and_pointer c = leaf_and_pointer

pub returns-clause-of_others : goal.returns-clause-of_others
returns-clause-of_others c = pointers_of_others

pub returns-clause-of_one : goal.returns-clause-of_one
returns-clause-of_one c = pointers_of_one

pub returns-clause-chain : goal.returns-clause-chain
returns-clause-chain c = chain_address
