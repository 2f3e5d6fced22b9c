use Rattle.cxx_body_parser.proofs.statement.condition.Goals as goal

pub returns-clause-reads : goal.returns-clause-reads
returns-clause-reads c = record { first = _; last = _; after = _; before = _; open_paren = c.in_ok-_open.ensures.reads; test = c.in_ok-test.ensures.reads; close_paren = c.in_ok-_close.ensures.reads }
