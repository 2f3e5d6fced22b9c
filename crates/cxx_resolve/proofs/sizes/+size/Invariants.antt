use Rattle.std.proofs.Common.{◌≡◌, ◌+◌, drop, map}
use Rattle.cxx_resolve.specs.Walks.{sizes, statement_meaning, block_meaning}
use Rattle.cxx_resolve.proofs.sizes.+size.Given as goal

-- those so far and those that are left are all
abbrev pub invariant-block_size-loop-statement : goal.invariant-block_size-loop-statement
invariant-block_size-loop-statement l = l.sum + sizes (map statement_meaning (drop l.statement-index l.statement-items)) ≡ (block_meaning l.block).size
