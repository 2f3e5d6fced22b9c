use Rattle.cxx_body_parser.proofs.statement.this_statement.Goals as goal

pub returns-clause-reads : goal.returns-clause-reads
returns-clause-reads c = rw c.in_ok-sign.ensures.reads.front c.in_ok-statement.ensures.reads
