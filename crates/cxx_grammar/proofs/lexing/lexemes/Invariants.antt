use Rattle.std.proofs.Common.{◌≡◌, ◌++◌, [], drop}
use Rattle.cxx_grammar.specs.Lexemes.{lexemes}
use Rattle.cxx_grammar.proofs.lexing.lexemes.Given as goal

abbrev pub invariant-loop-token : goal.invariant-loop-token
invariant-loop-token l = l.out.items ++ lexemes l.text (record { own = l.own; last = l.before }) (drop l.token-index l.tokens) l.bad ≡ lexemes l.text (record { own = []; last = l.fn.last }) l.tokens l.bad
