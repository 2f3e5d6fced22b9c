use Rattle.std.proofs.Common.{◌≡◌, take}
use Rattle.path_places.proofs.dumps.hops_below.Given as goal

-- the hops so far
abbrev pub invariant-loop-hop : goal.invariant-loop-hop
invariant-loop-hop l = l.hops.items ≡ take l.hop-index l.hop-items
