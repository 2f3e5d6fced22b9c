use Rattle.agree_dispatch.proofs.Running.{entry_runs}
use Rattle.agree_dispatch.proofs.Returning.{final_runs}
use Rattle.agree_dispatch.proofs.laws.entries.Goals as goal

pub returns-clause-runs : goal.returns-clause-runs
returns-clause-runs _ h rows image memory d at y x placed s k o stands there class own found = entry_runs h rows image memory d at y x placed stands s k o there class own found

pub returns-clause-overrides : goal.returns-clause-overrides
returns-clause-overrides _ h d y s f o keeps valid class is found = final_runs h keeps d y s f o valid class is found
