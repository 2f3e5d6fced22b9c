use Rattle.path_numbers.specs.Sizes.{sizes_of}
use Rattle.path_numbers.proofs.Ways.{way_arrives}
use Rattle.path_numbers.proofs.laws.ways_arrive.Goals as goal

pub returns : goal.returns
returns c = λ h f d g hops n x way class full.
    let a = way_arrives h (sizes_of h) f d hops n g way x class full in
    record { end = a.end; under = a.under; is_part = a.is_part; is_number = a.is_number; is_class = a.is_class }
