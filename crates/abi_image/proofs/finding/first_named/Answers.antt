use Rattle.std.proofs.Common.{◌<◌, arith}
use Rattle.std.proofs.lemmas.Option.{slice_get_within}
use Rattle.abi_image.proofs.Naming.{none_more, table_number}
use Rattle.abi_image.proofs.finding.first_named.Goals as goal

pub loop-number-init : goal.loop-number-init
loop-number-init c = λ k less has. absurd (omega arith)

pub loop-number-preserved : goal.loop-number-preserved
loop-number-preserved c = none_more c.args.groups.now c.args.name.now c.loop-number.number c.is_number_of.result c.loop-number.invariant c.if-is_number_of.false c.is_number_of.ensures

pub unreachable-requires : goal.unreachable-requires
unreachable-requires c =
    let has = c.requires.1 in
    let below = slice_get_within c.args.groups.now has.number has.group has.there in
    let less : has.number < c.loop-number.number = omega arith in
    c.loop-number.invariant has.number less (table_number c.args.groups.now c.args.name.now c.requires.0 has)
