use Rattle.std.proofs.Common.{◌≡◌, map, take}
use Rattle.abi_foreign.specs.Listings.{cut_bits}
use Rattle.abi_foreign.specs.invariants.Rows.{exact_bits}
use Rattle.abi_foreign.proofs.row.member_bits.Given as goal

-- the bits of the members so far
abbrev pub invariant-loop-n : goal.invariant-loop-n
invariant-loop-n l = l.bits ≡ map cut_bits (exact_bits l.saids (take l.n l.members) (take l.n l.places))
