use Rattle.std.proofs.Common.{◌<◌, arith, sym, ap, ◌∙◌, drop}
use Rattle.std.proofs.lemmas.List.{drop-drop}
use Rattle.cxx_text.proofs.Blanks.{blank_is, no_blank}
use Rattle.cxx_text.proofs.SomeTokens.{tokens_within}
use Rattle.cxx_text.proofs.Steps.{line_further, after_blank, after_token, at_end, at_bad}
use Rattle.cxx_text.proofs.scan.tokens.Goals as goal
use Rattle.cxx_text.proofs.scan.tokens.Goals.{in-Some, in_default+in-Some-token_at+in_ok-push}

pub returns-in_default-token_at-clause-cover : goal.returns-in_default-token_at-clause-cover
returns-in_default-token_at-clause-cover c =
    at_bad c.args.text.now c.loop-rest.rest.now c.loop-rest.at c.loop-rest.tokens c.loop-rest.invariant.at c.loop-rest-test.true c.loop-rest.invariant.so_far
    (no_blank c.loop-rest.rest.now (sym c.blank_len.ensures ∙ c.in_default.is)) c.in_default-token_at.ensures.none

pub split_at-requires : goal.split_at-requires
split_at-requires c =
    elim c.match-blank_len.branch [
      | in-Some w ↦ (let f = blank_is c.loop-rest.rest.now w.in-Some.len (sym c.blank_len.ensures ∙ w.in-Some.is) in omega (arith, f.1, w.len-is))
      | in_default+in-Some-token_at+in_ok-push w ↦ omega (arith, w.in-Some-token_at.ensures.found.1, w.len-is)
    ]

pub loop-rest-smaller : goal.loop-rest-smaller
loop-rest-smaller c =
    let some : 0 < c.match-blank_len.len = elim c.match-blank_len.branch [
      | in-Some w ↦ (let f = blank_is c.loop-rest.rest.now w.in-Some.len (sym c.blank_len.ensures ∙ w.in-Some.is) in omega (arith, f.0, w.len-is))
      | in_default+in-Some-token_at+in_ok-push w ↦ omega (arith, w.in-Some-token_at.ensures.found.0, w.len-is)
    ] in
    omega (arith, c.split_at.ensures.back_len)

pub loop-rest-preserved : goal.loop-rest-preserved
loop-rest-preserved c = record {
  at = omega (arith, c.split_at.ensures.back_len, c.loop-rest.invariant.at);
  rest = c.split_at.ensures.back ∙ (ap (drop c.match-blank_len.len) c.loop-rest.invariant.rest ∙ drop-drop c.match-blank_len.len c.loop-rest.at c.args.text.now);
  line = line_further c.args.text.now c.loop-rest.rest.now c.loop-rest.at c.match-blank_len.len c.loop-rest.line c.line_ends-line.result c.loop-rest.invariant.rest c.loop-rest.invariant.line
      (rw c.split_at.ensures.front at c.line_ends-line.ensures.value);
  so_far = rw c.split_at.ensures.back (elim c.match-blank_len.branch [
    | in-Some w ↦ (let f = blank_is c.loop-rest.rest.now w.in-Some.len (sym c.blank_len.ensures ∙ w.in-Some.is) in
        rw (w.tokens-is, w.len-is) (after_blank c.args.text.now c.loop-rest.rest.now c.loop-rest.at w.in-Some.len c.loop-rest.tokens c.loop-rest.invariant.rest c.loop-rest.invariant.so_far f.2))
    | in_default+in-Some-token_at+in_ok-push w ↦ (let found = w.in-Some-token_at.ensures.found in
        rw w.len-is (after_token c.args.text.now c.loop-rest.rest.now c.loop-rest.at w.in-Some-token_at.found.len c.loop-rest.tokens c.match-blank_len.tokens w.in-Some-token_at.found.kind w.in-Some-token_at.found.value c.loop-rest.line
        c.loop-rest.invariant.at c.loop-rest.invariant.rest c.loop-rest.invariant.line c.loop-rest.invariant.so_far
        (no_blank c.loop-rest.rest.now (sym c.blank_len.ensures ∙ w.in_default.is)) found.1 found.2 (w.tokens-is ∙ w.in_ok-push.ensures.ok)))
  ]);
}

pub returns-clause-cover : goal.returns-clause-cover
returns-clause-cover c =
    at_end c.args.text.now c.loop-rest.rest.now c.loop-rest.at c.loop-rest.tokens _ c.loop-rest.line c.loop-rest.invariant.at (omega (arith, c.loop-rest-test.false)) c.loop-rest.invariant.line
    c.loop-rest.invariant.so_far c.in_ok-push-2.ensures.ok

pub returns-in_default-token_at-clause-few : goal.returns-in_default-token_at-clause-few
returns-in_default-token_at-clause-few c = tokens_within _ _ _ (returns-in_default-token_at-clause-cover c)

pub returns-clause-few : goal.returns-clause-few
returns-clause-few c = tokens_within _ _ _ (returns-clause-cover c)
