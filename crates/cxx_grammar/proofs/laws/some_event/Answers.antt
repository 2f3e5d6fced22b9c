use Rattle.cxx_grammar.proofs.Prefix.{source_either, block_either}
use Rattle.cxx_grammar.proofs.laws.some_event.Goals as goal

pub returns : goal.returns
returns c = record { source = source_either; block = block_either }
