use Rattle.std.proofs.Common.{refl}
use Rattle.cxx_syntax.specs.Operands.{a_type_equal}
use Rattle.cxx_body_parser.proofs.right.type_right.Goals as goal

pub returns-clause-reads : goal.returns-clause-reads
returns-clause-reads c = a_type_equal (record { front = refl; sort = c.requires }) c.in_ok-_open.ensures.reads c.in_ok-_star.ensures.reads c.in_ok-pointer.ensures.reads c.in_ok-_close.ensures.reads c.in_ok-_equal.ensures.reads c.in_ok-_typeid.ensures.reads c.in_ok-_begin.ensures.reads c.in_ok-word.ensures.reads c.in_ok-_end.ensures.reads c.in_ok-class.ensures.ok
