use Rattle.abi_foreign.specs.invariants.Said.{AreSaidTo}
use Rattle.abi_foreign.proofs.reading.read_listing.Given as goal

-- the lines of the classes so far are read
abbrev pub invariant-loop-n : goal.invariant-loop-n
invariant-loop-n l = AreSaidTo l.h l.text l.n l.saids l.cursor.rest.now l.cursor.line
