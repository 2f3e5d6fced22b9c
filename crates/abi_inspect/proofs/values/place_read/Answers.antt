use Rattle.std.proofs.Common.{◌≡◌, ◌∙◌, ◌<◌, ◌^◌, ℕ, ap, arith}
use Rattle.abi_inspect.specs.declared.seen.SeenValue.TheVariants.{Place}
use Rattle.abi_inspect.proofs.Readings.{plus_cut, plus_there}
use Rattle.abi_inspect.proofs.values.place_read.Goals as goal

pub returns-in_default-clause-each : goal.returns-in_default-clause-each
returns-in_default-clause-each c = λ number place is e. absurd (plus_there c.args.text.now number place c.in_default.ensures e)

pub returns-in-0-clause-each : goal.returns-in-0-clause-each
returns-in-0-clause-each c = λ number place is e.
    let cut = plus_cut c.args.text.now c.in-Some.number.now c.in-Some.place.now number place is c.in-Some.ensures.0 c.in-Some.ensures.1 e in
    let high = is.high in
    let low = is.low in
    let small : number < 2 ^ 32 = omega (arith, high) in
    let read : c.read_small.result ≡ number = c.read_small.ensures number small cut.0 in
    let zero = c.in-0.is in absurd (omega (arith, low, read, zero))

pub returns-in_default-read_small-clause-fits : goal.returns-in_default-read_small-clause-fits
returns-in_default-read_small-clause-fits c =
    let other = c.in_default-read_small in
    let a = c.read_small.type_inv in
    let b = c.read_small-in_default-read_small.type_inv in
    record { low = omega (arith, other); high = omega (arith, a); near = omega (arith, b) }

pub returns-in_default-read_small-clause-each : goal.returns-in_default-read_small-clause-each
returns-in_default-read_small-clause-each c = λ number place is e.
    let cut = plus_cut c.args.text.now c.in-Some.number.now c.in-Some.place.now number place is c.in-Some.ensures.0 c.in-Some.ensures.1 e in
    let high = is.high in
    let near = is.near in
    let object : c.read_small.result ≡ number = c.read_small.ensures number (omega (arith, high)) cut.0 in
    let at : c.read_small-in_default-read_small.result ≡ place = c.read_small-in_default-read_small.ensures place (omega (arith, near)) cut.1 in
    ap (λ (n : ℕ). Place n c.read_small-in_default-read_small.result) object ∙ ap (λ (n : ℕ). Place number n) at
