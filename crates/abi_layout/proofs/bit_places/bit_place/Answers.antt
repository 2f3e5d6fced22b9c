use Rattle.std.proofs.Common.{arith}
use Rattle.abi_layout.proofs.rules.PlacingLemmas.{align_small, bit_place_here, bit_place_next}
use Rattle.abi_layout.proofs.bit_places.bit_place.Goals as goal

pub returns-then-stage-unit-clause-place : goal.returns-then-stage-unit-clause-place
returns-then-stage-unit-clause-place c =
    let fits = c.if-stage-unit.true in
    bit_place_here c.args.stage.now c.args.bytes c.args.width (align_small c.args.bytes c.requires.alignment).0 (omega arith)

pub returns-else-stage-unit-clause-place : goal.returns-else-stage-unit-clause-place
returns-else-stage-unit-clause-place c =
    let over = c.if-stage-unit.false in
    bit_place_next c.args.stage.now c.args.bytes c.args.width (align_small c.args.bytes c.requires.alignment).0 c.requires.fits (omega arith)
