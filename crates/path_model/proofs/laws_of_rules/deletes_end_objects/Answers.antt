use Rattle.std.proofs.Common.{refl}
use Rattle.path_model.proofs.RuleLaws.{whole_law, heap_law, complete_law}
use Rattle.path_model.proofs.laws_of_rules.deletes_end_objects.Goals as goal

pub returns-clause-whole : goal.returns-clause-whole
returns-clause-whole c = λ h s p d owner. whole_law h s p d owner

pub returns-clause-by_virtual : goal.returns-clause-by_virtual
returns-clause-by_virtual c = λ h s p. refl

pub returns-clause-heap_object : goal.returns-clause-heap_object
returns-clause-heap_object c = λ h s p is_virtual. heap_law p.owner

pub returns-clause-complete : goal.returns-clause-complete
returns-clause-complete c = λ h s p d is_virtual class. complete_law s p d class

pub returns-clause-dumped : goal.returns-clause-dumped
returns-clause-dumped c = λ h s p d class. complete_law s p d class
