use Rattle.abi_layout.proofs.rules.SomeAnswers.{large_decided, shared_decided, layout_or_stop}
use Rattle.abi_layout.proofs.hierarchy_layout.some_answer.Goals as goal

pub returns-clause-size : goal.returns-clause-size
returns-clause-size c = large_decided

pub returns-clause-place : goal.returns-clause-place
returns-clause-place c = shared_decided

pub returns-clause-answer : goal.returns-clause-answer
returns-clause-answer c = layout_or_stop
