use Rattle.std.proofs.Common.{◌≡◌, ◌++◌, drop}
use Rattle.abi_inspect.specs.Sayings.{said_leaves}
use Rattle.abi_inspect.proofs.saying.append_said_leaves.Given as goal

-- the text so far and what is left to say make the whole
abbrev pub invariant-loop-row : goal.invariant-loop-row
invariant-loop-row l = l.text.items ++ said_leaves (drop l.row-index l.rows) l.rest ≡ l.fn.text.items ++ said_leaves l.rows l.values
