use Rattle.std.proofs.Common.{arith, ap, length}
use Rattle.cxx_grammar.proofs.Lexed.{ends, length-lexemes}
use Rattle.cxx_grammar.specs.Lexemes.{source_start}
use Rattle.cxx_decl_parser.proofs.source.parse_source.Goals as goal

pub whole_source-requires-clause-ends : goal.whole_source-requires-clause-ends
whole_source-requires-clause-ends c = rw (c.deref.ensures.value, c.in_ok-all.ensures) (ends _ _ _ _)

pub whole_source-requires-clause-few : goal.whole_source-requires-clause-few
whole_source-requires-clause-few c =
    let e = length-lexemes c.args.text.now source_start c.as_slice.result.now c.args.list.now.bad in
    rw (c.deref.ensures.value, c.in_ok-all.ensures) (omega (arith, e, ap length c.as_slice.ensures, c.requires))
