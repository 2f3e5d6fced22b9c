use Rattle.path_events.proofs.Growing.{plan_more}
use Rattle.path_events.proofs.laws.plans_outlive_new_objects.Goals as goal

pub returns : goal.returns
returns c = plan_more
