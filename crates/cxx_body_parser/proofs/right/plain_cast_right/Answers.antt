use Rattle.std.proofs.Common.{refl}
use Rattle.cxx_syntax.specs.Operands.{a_cast, a_plain_cast}
use Rattle.cxx_body_parser.proofs.right.plain_cast_right.Goals as goal

pub returns-clause-reads : goal.returns-clause-reads
returns-clause-reads c = a_cast (a_plain_cast (record { front = refl; sort = c.requires }) c.in_ok-word.ensures.reads c.in_ok-_star.ensures.reads c.in_ok-_close.ensures.reads c.in_ok-pointer.ensures.reads refl c.in_ok-target.ensures.ok)
