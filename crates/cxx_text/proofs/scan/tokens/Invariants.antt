use Rattle.std.proofs.Common.{ℕ, ◌≡◌, ◌+◌, ◌++◌, List, take, drop, length, Option}
use Rattle.cxx_text.specs.Cover.{Covers, AreTokens, line_after}
use Rattle.cxx_text.specs.declared.token.Token.{Token}
use Rattle.cxx_text.proofs.scan.tokens.Given as goal

abbrev pub invariant-loop-rest : goal.invariant-loop-rest
invariant-loop-rest l = record {
  at : l.at + length l.rest ≡ length l.text;
  rest : l.rest ≡ drop l.at l.text;
  line : l.line ≡ line_after (take l.at l.text);
  so_far : (ts : List Token) (bad : Option ℕ) → Covers (take l.at l.text) l.rest ts bad → AreTokens l.text (l.tokens ++ ts) bad;
}

abbrev pub decreases-loop-rest : goal.decreases-loop-rest
decreases-loop-rest l = length l.rest
