use Rattle.std.proofs.Common.{◌≡◌, ◌*◌, ◌-◌, ◌<◌, arith, true, false}
use Rattle.std.proofs.lemmas.Bool.Decides.{nat_tests}
use Rattle.byte_memory.specs.Bits.{is_among_places}
use Rattle.byte_memory.proofs.table.joined.Goals as goal

pub returns-clause-low : goal.returns-clause-low
returns-clause-low c place inside =
    let less : place < 64 = omega arith in
    let test : is_among_places (8 * c.args.n) (64 - 8 * c.args.n) place ≡ false = grind (arith, nat_tests) in
    rw test at (c.with_bits.ensures place less)

pub returns-clause-high : goal.returns-clause-high
returns-clause-high c place past inside =
    let test : is_among_places (8 * c.args.n) (64 - 8 * c.args.n) place ≡ true = grind (arith, nat_tests) in
    rw test at (c.with_bits.ensures place inside)
