use Rattle.agree_runs.proofs.Ahead.{something_ahead}
use Rattle.agree_runs.proofs.Tops.{frames_there, body_on_top}
use Rattle.agree_runs.proofs.laws.runs_have_a_next_step.Goals as goal

pub returns-clause-ahead : goal.returns-clause-ahead
returns-clause-ahead c = λ w sizes n world. something_ahead w world sizes n

pub returns-clause-frames : goal.returns-clause-frames
returns-clause-frames c = frames_there

pub returns-clause-body : goal.returns-clause-body
returns-clause-body c = λ h sizes program n f below accepted top. body_on_top h sizes program n accepted f below top
