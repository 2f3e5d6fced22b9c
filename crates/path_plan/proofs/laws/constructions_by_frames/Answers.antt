use Rattle.path_plan.specs.Plans.{plan}
use Rattle.path_plan.specs.Pieces.{built_pieces}
use Rattle.path_plan.proofs.Pieces.{plan_pieces, first_rest, own_step}
use Rattle.path_plan.proofs.Stack.{built_good, first_waits, waiting_step, first_idle, stack_step}
use Rattle.path_plan.proofs.laws.constructions_by_frames.Goals as goal

pub returns-clause-plan : goal.returns-clause-plan
returns-clause-plan c = λ h bodies form d p below keeps. first_rest (plan h bodies) (built_pieces h bodies) (plan_pieces h keeps bodies) form d p below

pub returns-clause-event : goal.returns-clause-event
returns-clause-event c = λ h bodies p e left below keeps. own_step (plan h bodies) (built_pieces h bodies) (plan_pieces h keeps bodies) p e left below

pub returns-clause-first : goal.returns-clause-first
returns-clause-first c = λ h bodies form d p below waiting. first_waits (built_pieces h bodies) (built_good h bodies) form d p below waiting

pub returns-clause-waiting : goal.returns-clause-waiting
returns-clause-waiting c = λ h bodies p e left below waiting. waiting_step (built_pieces h bodies) (built_good h bodies) p e left below waiting

pub returns-clause-idle : goal.returns-clause-idle
returns-clause-idle c = λ h bodies form d p below s are. first_idle (built_pieces h bodies) (built_good h bodies) form d p below s are

pub returns-clause-stack : goal.returns-clause-stack
returns-clause-stack c = λ h bodies p e left below s waiting are. stack_step (built_pieces h bodies) (built_good h bodies) p e left below s waiting are
