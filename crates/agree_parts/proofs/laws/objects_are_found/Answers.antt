-- Each law is a lemma.
use Rattle.agree_parts.proofs.Found.{region_found, start_found}
use Rattle.agree_parts.proofs.laws.objects_are_found.Goals as goal

pub returns-clause-region : goal.returns-clause-region
returns-clause-region c = region_found

pub returns-clause-start : goal.returns-clause-start
returns-clause-start c = start_found
