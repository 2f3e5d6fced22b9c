use Rattle.path_model.specs.Places.{passed_part}
use Rattle.path_model.proofs.Facts.{base_done, passed_done, passed_whole, whole_seen, ready_of}
use Rattle.path_model.proofs.laws.tests_are_enough.Goals as goal

pub returns-clause-base : goal.returns-clause-base
returns-clause-base c = λ h s p d i class settled valid proper ready. base_done h s p d i class settled valid proper (ready_of s p ready)

pub returns-clause-member : goal.returns-clause-member
returns-clause-member c = λ h s p d x class settled passed full. passed_done h s p d x class settled passed full

pub returns-clause-view : goal.returns-clause-view
returns-clause-view c = λ h s p d x keeps class settled passed ready. whole_seen h keeps s (passed_part p x) x.class (passed_whole h s p d x class settled passed) (ready_of s (passed_part p x) ready)
