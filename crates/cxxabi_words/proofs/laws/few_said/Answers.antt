use Rattle.cxxabi_words.specs.declared.command.Command.TheVariants.{Run, Paths, Gen, Array, Foreign}
use Rattle.cxxabi_words.proofs.CommandLaws as command_laws
use Rattle.cxxabi_words.proofs.laws.few_said.Goals as goal

pub returns-clause-steps : goal.returns-clause-steps
returns-clause-steps c = λ words n trace says. command_laws.few_said words (Run n trace) says

pub returns-clause-path_steps : goal.returns-clause-path_steps
returns-clause-path_steps c = λ words n says. command_laws.few_said words (Paths n) says

pub returns-clause-classes : goal.returns-clause-classes
returns-clause-classes c = λ words n says. command_laws.few_said words (Gen n) says

pub returns-clause-elements : goal.returns-clause-elements
returns-clause-elements c = λ words class n says. command_laws.few_said words (Array class n) says

pub returns-clause-foreign_steps : goal.returns-clause-foreign_steps
returns-clause-foreign_steps c = λ words n says. command_laws.few_said words (Foreign n) says
