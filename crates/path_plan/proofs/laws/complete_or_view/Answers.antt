use Rattle.path_plan.specs.Places.{part}
use Rattle.cxx_subobject.specs.Subobjects.{join}
use Rattle.path_plan.proofs.Uses.{ready_cases, whole_view}
use Rattle.path_plan.proofs.Proper.{proper_below, below_complete}
use Rattle.path_plan.proofs.laws.complete_or_view.Goals as goal

pub returns-clause-subobject : goal.returns-clause-subobject
returns-clause-subobject c = λ h k s o d x settled valid ready. ready_cases h k s settled o d x valid ready

pub returns-clause-whole : goal.returns-clause-whole
returns-clause-whole c = λ h k s o d settled ready. whole_view h k s settled o d ready

pub returns-clause-inner : goal.returns-clause-inner
returns-clause-inner c = λ h k s p q settled object inside full. settled.complete_in p q object inside full

pub returns-clause-bases : goal.returns-clause-bases
returns-clause-bases c = λ h k s p d i settled object ready class valid proper. below_complete h k s settled p (part p.object p.owner (join p.at i)) object (proper_below h d p i class valid proper) ready
