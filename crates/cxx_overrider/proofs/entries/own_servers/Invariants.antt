use Rattle.std.proofs.Common.{◌≡◌, ℕ, length, get_or}
use Rattle.cxx_overrider.proofs.entries.own_servers.Given as goal

-- each class so far
abbrev pub invariant-loop-number : goal.invariant-loop-number
invariant-loop-number l = record { size : length l.servers.items ≡ l.number; own : (d : ℕ) → get_or l.servers.items d d ≡ d }
