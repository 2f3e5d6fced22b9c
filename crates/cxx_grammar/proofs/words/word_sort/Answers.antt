use Rattle.cxx_grammar.specs.Words.{words}
use Rattle.cxx_grammar.proofs.words.word_sort.Goals as goal

pub returns : goal.returns
unfolding words
returns c = c.look_up.ensures
