use Rattle.cxx_syntax.specs.Operands.{a_place}
use Rattle.cxx_body_parser.proofs.place.place.Goals as goal

pub returns-clause-reads : goal.returns-clause-reads
returns-clause-reads c = a_place c.in_ok-pointer.ensures.reads c.in_ok-_arrow.ensures.reads (c.in_ok-parts.ensures.reads _ c.in_ok-name.ensures.reads)
