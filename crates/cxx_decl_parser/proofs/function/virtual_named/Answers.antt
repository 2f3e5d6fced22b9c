use Rattle.cxx_decl_parser.proofs.function.virtual_named.Goals as goal

pub returns-clause-reads : goal.returns-clause-reads
returns-clause-reads c = λ is_public ts a v f r. c.in_ok-part.ensures.reads is_public ts (record { type = a; behind = _; open_at = _; open_sign = _; is_virtual = v; first = f; returns = r; name = c.in_ok-word.ensures.reads; sign = c.in_ok-_open.ensures.reads })
