use Rattle.std.proofs.Common.{refl}
use Rattle.cxx_syntax.specs.Operands.{a_cast, a_named_cast}
use Rattle.cxx_body_parser.proofs.right.cast_right.Goals as goal

pub returns-clause-reads : goal.returns-clause-reads
returns-clause-reads c = a_cast (a_named_cast (record { front = refl; cast = c.requires }) c.in_ok-_less.ensures.reads c.in_ok-word.ensures.reads c.in_ok-_star.ensures.reads c.in_ok-_greater.ensures.reads c.in_ok-_open.ensures.reads c.in_ok-pointer.ensures.reads c.in_ok-_close.ensures.reads c.in_ok-target.ensures.ok)
