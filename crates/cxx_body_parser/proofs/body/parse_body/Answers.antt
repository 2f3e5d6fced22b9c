use Rattle.cxx_grammar.proofs.Lexed.{ends}
use Rattle.cxx_body_parser.proofs.body.parse_body.Goals as goal

pub counted-requires : goal.counted-requires
counted-requires c = rw (c.deref.ensures.value, c.in_ok-all.ensures) (ends _ _ _ _)
