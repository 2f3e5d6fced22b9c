use Rattle.std.proofs.Common.{◌≡◌, ℕ, ◌+◌, ◌<◌, length}
use Rattle.abi_dyncast.specs.invariants.Chain.{part_entry_at, Reach}
use Rattle.abi_dyncast.proofs.work.WorkList.find.Given as goal

abbrev pub invariant-loop-link : goal.invariant-loop-link
invariant-loop-link l = (j : ℕ) → j < length l.self.entries.items → (part_entry_at l.self.entries.items j).part ≡ l.part → (Reach l.self.entries.items l.link (j + 1) → ⊥) → ⊥

abbrev pub decreases-loop-link : goal.decreases-loop-link
decreases-loop-link l = l.link
