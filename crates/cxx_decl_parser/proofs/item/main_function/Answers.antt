use Rattle.std.proofs.Common.{refl}
use Rattle.cxx_syntax.specs.Sources as sources
use Rattle.cxx_decl_parser.proofs.item.main_function.Goals as goal

pub returns-clause-reads : goal.returns-clause-reads
returns-clause-reads c = sources.a_main (record { front = refl; sort = c.requires.first }) (record { front = refl; sort = c.requires.word }) c.in_ok-_open.ensures.reads c.in_ok-_close.ensures.reads c.in_ok-tree.ensures.reads
