-- Each law is a lemma.
use Rattle.agree_parts.proofs.Apart.{one_part, part_test}
use Rattle.agree_parts.proofs.laws.one_place_is_one_part.Goals as goal

pub returns-clause-one : goal.returns-clause-one
returns-clause-one c = one_part

pub returns-clause-test : goal.returns-clause-test
returns-clause-test c = part_test
