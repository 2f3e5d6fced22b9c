use Rattle.std.proofs.Common.{◌∙◌, Bool, ap, sym, subst}
use Rattle.std.specs.Int.{w128}
use Rattle.std.proofs.lemmas.Int.{to_z-of_z}
use Rattle.byte_code.specs.Numbers.{number_of_bits}
use Rattle.abi_inspect.specs.Values.{IsNumberOfLeaf}
use Rattle.abi_inspect.specs.invariants.Readable.{number_bits}
use Rattle.abi_inspect.proofs.Readings.{number_each, number_fits}
use Rattle.abi_inspect.proofs.values.number_of.Goals as goal

pub returns-clause-fits : goal.returns-clause-fits
returns-clause-fits c =
    let word = c.word_read.result in
    let read = to_z-of_z w128 c.number_in.result (record { sfits = c.number_in.type_inv })
    ∙ (c.number_in.ensures
    ∙ (ap (λ n. number_of_bits (record { bits = n; signed = c.is_signed.result }) word) c.bits_in.ensures.is
    ∙ ap (λ (s : Bool). number_of_bits (record { bits = number_bits c.args.width c.args.scalar; signed = s }) word) c.is_signed.ensures)) in
    subst (IsNumberOfLeaf c.args.width c.args.scalar) (sym read) (number_fits c.args.width c.args.scalar word)

pub returns-clause-each : goal.returns-clause-each
returns-clause-each c = λ z held is.
    let word = c.word_read.result in
    let read = to_z-of_z w128 c.number_in.result (record { sfits = c.number_in.type_inv })
    ∙ (c.number_in.ensures
    ∙ (ap (λ n. number_of_bits (record { bits = n; signed = c.is_signed.result }) word) c.bits_in.ensures.is
    ∙ ap (λ (s : Bool). number_of_bits (record { bits = number_bits c.args.width c.args.scalar; signed = s }) word) c.is_signed.ensures)) in
    read ∙ number_each c.args.width c.args.scalar c.args.text.now word c.requires c.word_read.ensures.bits c.word_read.ensures.bytes z held is
