use Rattle.std.proofs.Common.{◌≡◌, ◌++◌, drop}
use Rattle.code_ops.specs.Setups.{setup, Routine}
use Rattle.abi_lower.specs.invariants.Numbers.{block_number}
use Rattle.abi_lower.specs.invariants.Runs.{statement_blocks}
use Rattle.abi_lower.specs.invariants.Lowerings.{RunsAt}
use Rattle.abi_lower.proofs.statement_blocks.push_statements.Given as goal

abbrev pub invariant-loop-n : goal.invariant-loop-n
invariant-loop-n g l =
    let x = setup l.site.h.now (g.L.SoundLayout.rows l.site.layout.now) l.site.program.now in
    let body = l.site.body.now in
    (r : Routine) → RunsAt x l.site.numbers.now body l.base r → l.blocks ++ statement_blocks x (block_number x) r body l.n (drop l.n body.statements) ≡ l.initial.blocks ++ statement_blocks x (block_number x) r body 0 body.statements
