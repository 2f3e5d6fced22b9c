-- Each law is a lemma.
use Rattle.agree_parts.proofs.Found.{object_region, reached_open, refused_closed, start_closes}
use Rattle.agree_parts.proofs.laws.regions_are_objects.Goals as goal

pub returns-clause-region : goal.returns-clause-region
returns-clause-region c = object_region

pub returns-clause-opened : goal.returns-clause-opened
returns-clause-opened c = reached_open

pub returns-clause-closed : goal.returns-clause-closed
returns-clause-closed c = refused_closed

pub returns-clause-closes : goal.returns-clause-closes
returns-clause-closes c = start_closes
