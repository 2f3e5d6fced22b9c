use Rattle.std.proofs.Common.{◌≡◌}
use Rattle.abi_layout.specs.Placements.{copies}
use Rattle.abi_layout.proofs.rows.copies.Given as goal

-- the copies so far
abbrev pub invariant-loop-index : goal.invariant-loop-index
invariant-loop-index l = l.list ≡ copies l.index l.stride l.parts
