-- Each law is a lemma.
use Rattle.agree_parts.proofs.Sums.{from_complete, in_view, to_base, to_element, to_leaf, to_bits, to_inner, from_whole, to_shared}
use Rattle.agree_parts.proofs.laws.places_are_sums.Goals as goal

pub returns-clause-complete : goal.returns-clause-complete
returns-clause-complete c = from_complete

pub returns-clause-view : goal.returns-clause-view
returns-clause-view c = in_view

pub returns-clause-base : goal.returns-clause-base
returns-clause-base c = to_base

pub returns-clause-element : goal.returns-clause-element
returns-clause-element c = to_element

pub returns-clause-leaf : goal.returns-clause-leaf
returns-clause-leaf c = to_leaf

pub returns-clause-inner : goal.returns-clause-inner
returns-clause-inner c = to_inner

pub returns-clause-whole : goal.returns-clause-whole
returns-clause-whole c = from_whole

pub returns-clause-shared : goal.returns-clause-shared
returns-clause-shared c = to_shared

pub returns-clause-bits : goal.returns-clause-bits
returns-clause-bits c = to_bits
