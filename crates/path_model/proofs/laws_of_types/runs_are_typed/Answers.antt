use Rattle.path_model.proofs.TypedSteps.{state_sound, move_right, run_right}
use Rattle.path_model.proofs.laws_of_types.runs_are_typed.Goals as goal

pub returns-clause-typed : goal.returns-clause-typed
returns-clause-typed c = λ h sizes program n keeps fine a main. (state_sound h keeps fine program a sizes main n).typed

pub returns-clause-right : goal.returns-clause-right
returns-clause-right c = λ h sizes program n keeps fine a main. move_right h keeps fine program a sizes main n

pub returns-clause-never_wrong : goal.returns-clause-never_wrong
returns-clause-never_wrong c = λ h sizes program steps keeps fine a main. run_right h keeps fine program a sizes main steps
