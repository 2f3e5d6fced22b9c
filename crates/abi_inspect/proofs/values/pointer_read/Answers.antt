use Rattle.abi_inspect.proofs.Readings.{hash_pointer, null_pointer, unset_pointer}
use Rattle.abi_inspect.proofs.values.pointer_read.Goals as goal

pub returns-in-Some-clause-each : goal.returns-in-Some-clause-each
returns-in-Some-clause-each c = λ width d v fits is.
    hash_pointer width d c.args.text.now c.in-Some.place.now c.place_read.result v c.in-Some.ensures c.place_read.ensures.each fits is

pub returns-then-text-eq4-clause-each : goal.returns-then-text-eq4-clause-each
returns-then-text-eq4-clause-each c = λ width d v fits is.
    null_pointer width d c.args.text.now v c.in-None.ensures c.if-text-eq4.true fits is

pub returns-else-text-eq4-clause-each : goal.returns-else-text-eq4-clause-each
returns-else-text-eq4-clause-each c = λ width d v fits is.
    unset_pointer width d c.args.text.now v c.in-None.ensures c.if-text-eq4.false fits is
