use Rattle.std.proofs.Common.{refl}
use Rattle.abi_layout.specs.declared.placing.Placing.{Placing}
use Rattle.abi_layout.proofs.algorithm.ArrangeLemmas.{start_is_placing}
use Rattle.abi_layout.proofs.arrangement.start.Goals as goal

pub returns-clause-placing : goal.returns-clause-placing
returns-clause-placing c =
    let old = c.in_ok-stage.field-0 in
    let new : Placing = record { stage = c.behind_pointer-behind.result; table = old.table; listed = old.listed } in
    start_is_placing old new c.args.c c.args.has_pointer c.in_ok-stage.ensures.placing.table c.in_ok-stage.ensures.stage refl refl c.behind_pointer-behind.ensures
