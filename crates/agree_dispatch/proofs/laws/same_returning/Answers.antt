use Rattle.agree_dispatch.proofs.Returning.{same_returns}
use Rattle.agree_dispatch.proofs.laws.same_returning.Goals as goal

pub returns : goal.returns
returns _ h rows g k keeps fine sound own runs = same_returns h rows keeps fine sound g k own runs
