use Rattle.path_places.proofs.locations.+walk.Given as goal

abbrev pub decreases-walk : goal.decreases-walk
decreases-walk l = l.spot.class.0
