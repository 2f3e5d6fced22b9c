use Rattle.std.proofs.Common.{◌≡◌, ◌+◌, drop, map}
use Rattle.cxx_expression.specs.invariants.Known.{Knows}
use Rattle.cxx_resolve.specs.Walks.{sizes, walk_all, statement_meaning, block_meaning}
use Rattle.cxx_resolve.proofs.blocks.+walk.Given as goal

-- what is left, from the draft so far, leads where all leads
abbrev pub invariant-statements-loop-i : goal.invariant-statements-loop-i
invariant-statements-loop-i l = record {
  size : l.n + sizes (map statement_meaning (drop l.i l.list)) ≡ l.number + (block_meaning l.block).size;
  walk : walk_all (map statement_meaning (drop l.i l.list)) l.body.h.now l.body.setting.now l.n l.follow l.draft ≡ (block_meaning l.block).walk l.body.h.now l.body.setting.now l.number l.follow l.fn.draft;
  knows : Knows l.body.h.now l.known;
}
