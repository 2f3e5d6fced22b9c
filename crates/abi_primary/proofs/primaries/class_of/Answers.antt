use Rattle.std.proofs.Common.{◌≤◌, length, arith}
use Rattle.std.proofs.lemmas.Bool.Decides.{nat_tests}
use Rattle.abi_primary.proofs.PrimaryLemmas.{class_is}
use Rattle.abi_primary.proofs.primaries.class_of.Goals as goal

pub returns-else-is_empty : goal.returns-else-is_empty
returns-else-is_empty c =
    let e = c.is_empty.ensures in
    let f = c.if-is_empty.false in
    let some : 1 ≤ length c.as_slice-path.result.now = grind (arith, nat_tests) in
    class_is c.args.s.now c.as_slice-path.result.now (record { 0 = 0 }) c.as_slice-path.ensures some
