use Rattle.cxx_body_parser.proofs.statement.print_statement.Goals as goal

pub returns-clause-reads : goal.returns-clause-reads
returns-clause-reads c = rw c.in_ok-_open.ensures.reads.front (c.in_ok-kind.ensures.reads _ c.args.first _ c.requires c.in_ok-_open.ensures.reads.sort c.statement_at.ensures)
