use Rattle.std.proofs.Common.{List, subst}
use Rattle.std.specs.List.{AllZip}
use Rattle.byte_code.specs.declared.code.Block.{Block}
use Rattle.byte_machine.specs.invariants.Flat.{IsFlatOf}
use Rattle.byte_machine.proofs.Flattened.{zip_length, zip_each}
use Rattle.byte_machine.proofs.machine.Machine.new.Goals as goal

pub invariant_of-result-clause-flats : goal.invariant_of-result-clause-flats
invariant_of-result-clause-flats g c =
    let all = subst (λ (bs : List Block). AllZip IsFlatOf bs c.in_ok-flat.flat.items) c.as_slice.ensures c.in_ok-flat.ensures in
    zip_length c.args.code.blocks c.in_ok-flat.flat.items all

pub invariant_of-result-clause-same : goal.invariant_of-result-clause-same
invariant_of-result-clause-same g c =
    let all = subst (λ (bs : List Block). AllZip IsFlatOf bs c.in_ok-flat.flat.items) c.as_slice.ensures c.in_ok-flat.ensures in
    zip_each c.args.code.blocks c.in_ok-flat.flat.items all

pub invariant_of-result-clause-known : goal.invariant_of-result-clause-known
invariant_of-result-clause-known g c = c.in_ok-reserve-2.ensures c.args.image
