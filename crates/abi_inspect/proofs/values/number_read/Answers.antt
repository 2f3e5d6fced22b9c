use Rattle.std.proofs.Common.{◌∙◌, ap}
use Rattle.std.specs.Int.{w128}
use Rattle.std.proofs.lemmas.Int.{to_z-of_z}
use Rattle.abi_inspect.specs.declared.seen.SeenValue.TheVariants.{Number}
use Rattle.abi_inspect.proofs.Readings.{dashes_unset, other_number}
use Rattle.abi_inspect.proofs.values.number_read.Goals as goal

pub returns-in-Some-clause-each : goal.returns-in-Some-clause-each
returns-in-Some-clause-each c = λ v fits is.
    dashes_unset c.args.width c.args.scalar c.args.text.now c.in-Some.field-0.now v c.requires c.in-Some.ensures fits is

pub returns-in-None-clause-each : goal.returns-in-None-clause-each
returns-in-None-clause-each c = λ v fits is.
    ap Number (to_z-of_z w128 c.number_of.result (record { sfits = c.number_of.type_inv }))
    ∙ other_number c.args.width c.args.scalar c.args.text.now c.number_of.result v c.in-None.ensures c.number_of.ensures.each fits is
