use Rattle.std.proofs.Common.{◌≡◌, take}
use Rattle.abi_foreign.specs.invariants.Rows.{primaries_of}
use Rattle.abi_foreign.proofs.rows.primaries_of.Given as goal

-- the primary bases of the classes so far
abbrev pub invariant-loop-said : goal.invariant-loop-said
invariant-loop-said l = l.primaries.items ≡ primaries_of (take l.said-index l.saids)
