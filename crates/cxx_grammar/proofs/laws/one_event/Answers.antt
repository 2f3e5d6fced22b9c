use Rattle.cxx_grammar.proofs.OneEvent.{event_same, no_source_event, no_block_event}
use Rattle.cxx_grammar.proofs.laws.one_event.Goals as goal

pub returns : goal.returns
returns c = record { once = event_same; source = no_source_event; block = no_block_event }
