-- Each law is a lemma.
use Rattle.agree_parts.proofs.Found.{no_regions, regions_grown, room_free, regions_shut}
use Rattle.agree_parts.proofs.laws.regions_go_along.Goals as goal

pub returns-clause-none : goal.returns-clause-none
returns-clause-none c = no_regions

pub returns-clause-grown : goal.returns-clause-grown
returns-clause-grown c = regions_grown

pub returns-clause-free : goal.returns-clause-free
returns-clause-free c = room_free

pub returns-clause-shut : goal.returns-clause-shut
returns-clause-shut c = regions_shut
