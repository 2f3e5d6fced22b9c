use Rattle.std.proofs.Common.{refl, arith, ap, length}
use Rattle.cxx_syntax.specs.Sources as sources
use Rattle.cxx_decl_parser.proofs.item.class_body.Goals as goal

pub returns-clause-reads : goal.returns-clause-reads
returns-clause-reads c = λ key ts a b k n bs. sources.a_class k n bs c.in_ok-_open.ensures.reads c.in_ok-draft.ensures.reads.1 (record { front = refl; sort = c.in_ok-draft.ensures.close }) c.in_ok-_end.ensures.reads (c.in_ok-definition.ensures.definition c.in_ok-draft.ensures.reads.0 c.in_ok-draft.ensures.reads.2) (c.in_ok-definition.ensures.bodies c.in_ok-draft.ensures.reads.0 c.in_ok-draft.ensures.reads.2)

pub parts-requires : goal.parts-requires
parts-requires c = omega (arith, ap length c.in_ok-_open.ensures.reads.front, c.requires)
