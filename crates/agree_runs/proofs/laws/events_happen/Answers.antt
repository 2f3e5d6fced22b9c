use Rattle.agree_runs.proofs.Bodies.{constructor_ends, destructor_ends}
use Rattle.agree_runs.proofs.Events.{next_event}
use Rattle.agree_runs.proofs.laws.events_happen.Goals as goal

pub returns-clause-next : goal.returns-clause-next
returns-clause-next c = λ h sizes program n p path accepted top. next_event h sizes program n accepted p path top

pub returns-clause-constructor : goal.returns-clause-constructor
returns-clause-constructor c = λ h sizes program n f below body class accepted top there over owner. constructor_ends h sizes program n accepted f below body top there over class owner

pub returns-clause-destructor : goal.returns-clause-destructor
returns-clause-destructor c = λ h sizes program n f below body class accepted top there over owner. destructor_ends h sizes program n accepted f below body top there over class owner
