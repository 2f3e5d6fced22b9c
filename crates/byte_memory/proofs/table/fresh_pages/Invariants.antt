use Rattle.byte_memory.specs.Pages.{AreFresh}
use Rattle.byte_memory.proofs.table.fresh_pages.Given as goal

abbrev pub invariant-loop-k : goal.invariant-loop-k
invariant-loop-k l = AreFresh l.pages.items l.first l.k
