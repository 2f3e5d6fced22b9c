use Rattle.std.proofs.Common.{◌≡◌, ◌+◌, ◌^◌, ◌/◌, ◌%◌, ◌≤◌, arith, sym, ◌∙◌, ap}
use Rattle.std.specs.Prelude.{Some}
use Rattle.std.proofs.Math.Nat.{mod-lt}
use Rattle.std.proofs.lemmas.Nat.{pow_pos}
use Rattle.byte_memory.proofs.WordNumbers.{number_from-all_set, number_from-some_unset, mask_is, masked_number}
use Rattle.byte_memory.proofs.cells.number_in.Goals as goal

pub returns-then-word-first-clause-value : goal.returns-then-word-first-clause-value
returns-then-word-first-clause-value c =
    let short : c.args.bits ≤ 64 = omega arith in
    let mask = mask_is c.args.bits short in
    let set = masked_number c.args.word.set c.args.first c.args.bits short in
    let value = masked_number c.args.word.value c.args.first c.args.bits short in
    let some = pow_pos c.args.bits in
    let all : c.args.word.set / 2 ^ c.args.first % 2 ^ c.args.bits + 1 ≡ 2 ^ c.args.bits = omega (arith, c.if-word-first.true, mask, set, some) in
    ap Some value ∙ sym (number_from-all_set c.args.bits c.args.word.value c.args.word.set c.args.first all)

pub returns-then-word-first-clause-fits : goal.returns-then-word-first-clause-fits
returns-then-word-first-clause-fits c =
    let short : c.args.bits ≤ 64 = omega arith in
    let value = masked_number c.args.word.value c.args.first c.args.bits short in
    rw value (mod-lt (c.args.word.value / 2 ^ c.args.first) (pow_pos c.args.bits))

pub returns-else-word-first-clause-value : goal.returns-else-word-first-clause-value
returns-else-word-first-clause-value c =
    let short : c.args.bits ≤ 64 = omega arith in
    let mask = mask_is c.args.bits short in
    let set = masked_number c.args.word.set c.args.first c.args.bits short in
    let some = pow_pos c.args.bits in
    sym (number_from-some_unset c.args.bits c.args.word.value c.args.word.set c.args.first (λ all. c.if-word-first.false (omega (arith, all, mask, set, some))))
