use Rattle.path_numbers.proofs.Placed.{base_number_at, shared_number_at}
use Rattle.path_numbers.proofs.laws.offsets_are_by_class.Goals as goal

pub returns-clause-base : goal.returns-clause-base
returns-clause-base c = λ h d i base keeps at. base_number_at h keeps d i base at

pub returns-clause-shared : goal.returns-clause-shared
returns-clause-shared c = λ h d v j at. shared_number_at h d v j at
