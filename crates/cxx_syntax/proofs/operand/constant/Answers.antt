use Rattle.cxx_syntax.proofs.operand.constant.Goals as goal

pub returns-clause-reads : goal.returns-clause-reads
returns-clause-reads c = rw c.in_ok-first.ensures.ok c.in_ok-value.ensures.reads
