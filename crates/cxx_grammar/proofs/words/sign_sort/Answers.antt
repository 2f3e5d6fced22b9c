use Rattle.cxx_grammar.specs.Words.{signs}
use Rattle.cxx_grammar.proofs.words.sign_sort.Goals as goal

pub returns : goal.returns
unfolding signs
returns c = c.look_up.ensures
