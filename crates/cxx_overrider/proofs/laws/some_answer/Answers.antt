use Rattle.cxx_overrider.proofs.FaultSearch.{class_answer, some_answer}
use Rattle.cxx_overrider.proofs.laws.some_answer.Goals as goal

pub returns-clause-class : goal.returns-clause-class
returns-clause-class c = λ h class keeps. class_answer h keeps class

pub returns-clause-hierarchy : goal.returns-clause-hierarchy
returns-clause-hierarchy c = λ h keeps. some_answer h keeps
