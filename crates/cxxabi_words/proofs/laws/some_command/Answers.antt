use Rattle.cxxabi_words.proofs.CommandLaws as command_laws
use Rattle.cxxabi_words.proofs.laws.some_command.Goals as goal

pub returns : goal.returns
returns c = λ words. command_laws.some_command words
