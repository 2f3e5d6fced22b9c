use Rattle.std.proofs.Common.{◌≡◌, ◌<◌, ◌≤◌, ◌-◌, length, slice_get, Some, arith, sym}
use Rattle.cxxabi_input.proofs.Cuts.{ends_by, some_length}
use Rattle.cxxabi_input.proofs.division.ends_inside.Goals as goal

pub returns-in-Some : goal.returns-in-Some
returns-in-Some c =
    let text = c.args.text.now in
    let size = some_length text c.in-Some.last.now c.in-Some.ensures.value in
    ends_by text (length text - 1) c.in-Some.last.now (omega (arith, size)) (sym c.in-Some.ensures.value)
