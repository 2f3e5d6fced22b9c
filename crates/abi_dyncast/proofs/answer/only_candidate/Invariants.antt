use Rattle.abi_dyncast.specs.invariants.Deciding.{is_candidate}
use Rattle.abi_dyncast.proofs.Scanning.{Scans}
use Rattle.abi_dyncast.proofs.answer.only_candidate.Given as goal

abbrev pub invariant-loop-entry : goal.invariant-loop-entry
invariant-loop-entry l = Scans (is_candidate l.target l.over) l.entries l.entry-index l.only
