use Rattle.std.proofs.Common.{refl}
use Rattle.cxx_syntax.specs.Sources as sources
use Rattle.cxx_record_parser.proofs.variable.global.Goals as goal

pub returns-clause-reads : goal.returns-clause-reads
returns-clause-reads c = λ ts f v. sources.a_global f v c.in_ok-word.ensures.reads c.in_ok-_end.ensures.reads (rw c.in_ok-name.ensures.ok refl)
