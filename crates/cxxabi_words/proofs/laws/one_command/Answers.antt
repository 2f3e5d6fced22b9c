use Rattle.cxxabi_words.proofs.CommandLaws as command_laws
use Rattle.cxxabi_words.proofs.laws.one_command.Goals as goal

pub returns : goal.returns
returns c = λ words first second one other. command_laws.one_command words first second one other
