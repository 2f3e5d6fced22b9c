-- Each law is a lemma.
use Rattle.cxx_subobject.proofs.InsideLemmas.{join_valid, join_class, join_join, join_injective, inside_part}
use Rattle.cxx_subobject.proofs.laws.joins_are_subobjects.Goals as goal

pub returns-clause-valid : goal.returns-clause-valid
returns-clause-valid c = join_valid

pub returns-clause-class : goal.returns-clause-class
returns-clause-class c = join_class

pub returns-clause-associative : goal.returns-clause-associative
returns-clause-associative c = join_join

pub returns-clause-injective : goal.returns-clause-injective
returns-clause-injective c = join_injective

pub returns-clause-one_part : goal.returns-clause-one_part
returns-clause-one_part c = inside_part
