use Rattle.std.proofs.Common.{arith}
use Rattle.cxx_overrider.proofs.entries.EntryTable.new.Goals as goal

pub returns-clause-serves : goal.returns-clause-serves
returns-clause-serves c = record { size = c.in_ok-servers.ensures.size; before = λ d lt. absurd (omega arith); past = λ d le. c.in_ok-servers.ensures.own d }
