use Rattle.std.proofs.Common.{◌≡◌, ◌∙◌, sym, true, false, inl, inr, arith}
use Rattle.std.specs.Char.{is_ascii_digit}
use Rattle.std.specs.List.{list_all}
use Rattle.cxxabi_words.proofs.Counts.{too_long, no_digits, number_read, number_off, no_number}
use Rattle.cxxabi_words.proofs.numbers.count_of.Goals as goal
use Rattle.cxxabi_words.proofs.numbers.count_of.Goals.{then-word-places-via-then-word-places, then-word-places-via-else-word-places+then-not-are_digits}

pub returns-then-word-places : goal.returns-then-word-places
returns-then-word-places c = elim c.then-word-places.branch [
  | then-word-places-via-then-word-places w ↦ too_long c.args.places c.args.most c.args.word.now w.if-word-places.true
  | then-word-places-via-else-word-places+then-not-are_digits w ↦
      let off : list_all is_ascii_digit c.args.word.now ≡ false = sym w.are_digits.ensures ∙ w.if-not-are_digits.true in
      no_digits c.args.places c.args.most c.args.word.now off
]

pub returns-in_default : goal.returns-in_default
returns-in_default c =
    let all : list_all is_ascii_digit c.args.word.now ≡ true = sym c.are_digits.ensures ∙ c.if-not-are_digits.false in
    no_number c.args.places c.args.most c.args.word.now all c.in_default.field-0 c.in_default.ensures.value.0 c.ranges.most.fits

pub returns-then-n-eq0 : goal.returns-then-n-eq0
returns-then-n-eq0 c =
    let all : list_all is_ascii_digit c.args.word.now ≡ true = sym c.are_digits.ensures ∙ c.if-not-are_digits.false in
    number_off c.args.places c.args.most c.args.word.now all c.in-Ok.n c.in-Ok.ensures.value.0
    (λ least within. elim c.then-n-eq0.either [
      | inl none ↦ omega (arith, none)
      | inr more ↦ omega (arith, more.1)
    ])

pub returns : goal.returns
returns c =
    let all : list_all is_ascii_digit c.args.word.now ≡ true = sym c.are_digits.ensures ∙ c.if-not-are_digits.false in
    number_read c.args.places c.args.most c.args.word.now all c.in-Ok.n c.in-Ok.ensures.value.0 (omega (arith, c.if-word-places.false)) (omega (arith, c.if-n-eq0.false)) (omega (arith, c.if-n-most.false))
