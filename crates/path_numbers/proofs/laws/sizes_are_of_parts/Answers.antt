use Rattle.path_numbers.proofs.Sized.{sizes_are}
use Rattle.path_numbers.proofs.Counting.{numbers_are_parts}
use Rattle.path_numbers.proofs.laws.sizes_are_of_parts.Goals as goal

pub returns-clause-sizes : goal.returns-clause-sizes
returns-clause-sizes c = λ h keeps. sizes_are h keeps

pub returns-clause-parts : goal.returns-clause-parts
returns-clause-parts c = λ h d keeps. numbers_are_parts h keeps d
