-- Each law is a lemma.
use Rattle.agree_parts.proofs.Sizes.{value_some, value_word, element_some}
use Rattle.agree_parts.proofs.Inside.{leaf_near, leaf_whole}
use Rattle.agree_parts.proofs.laws.values_are_narrow.Goals as goal

pub returns-clause-some : goal.returns-clause-some
returns-clause-some c = value_some

pub returns-clause-word : goal.returns-clause-word
returns-clause-word c = value_word

pub returns-clause-bits : goal.returns-clause-bits
returns-clause-bits c = element_some

pub returns-clause-near : goal.returns-clause-near
returns-clause-near c = leaf_near

pub returns-clause-whole : goal.returns-clause-whole
returns-clause-whole c = leaf_whole
