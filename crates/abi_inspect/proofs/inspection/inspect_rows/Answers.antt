use Rattle.std.proofs.Common.{◌<◌, ◌^◌, List, length, subst, rules, arith}
use Rattle.std.specs.Prelude.{Contains}
use Rattle.abi_inspect.specs.declared.slots.Row.{Row}
use Rattle.abi_inspect.specs.declared.slots.Row.TheVariants.{Leaf}
use Rattle.abi_inspect.specs.invariants.RowReads.{IsRowsRead}
use Rattle.abi_inspect.proofs.RowSteps.{stopped_inside}
use Rattle.abi_inspect.proofs.inspection.inspect_rows.Goals as goal

pub read_rows-requires : goal.read_rows-requires
read_rows-requires g c = λ x has. c.in_ok-rows.ensures.narrow x (subst (λ (rows : List Row). Contains rows (Leaf x)) c.deref.ensures.value has)

pub overflow_add-result : goal.overflow_add-result
overflow_add-result g c =
    let rows = c.deref.result.now in
    let stopped = subst (IsRowsRead c.args.h.now rows c.args.text.now) c.in-Fault.is c.in_ok-values.ensures in
    let inside = stopped_inside c.args.h.now rows c.args.text.now c.in-Fault.lines stopped in
    let few : length rows < 2 ^ 63 = search rules in
    omega (arith, inside, few)
