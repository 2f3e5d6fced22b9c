use Rattle.agree_runs.proofs.Seen.{are_seen}
use Rattle.agree_runs.proofs.laws.ready_parts_are_seen.Goals as goal

pub returns : goal.returns
returns c = λ h sizes program n f below keeps top. are_seen h keeps sizes program n f below top
