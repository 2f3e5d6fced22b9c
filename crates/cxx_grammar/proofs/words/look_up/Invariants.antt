use Rattle.std.proofs.Common.{◌≡◌, drop, map}
use Rattle.cxx_grammar.specs.Words.{look_up, spelling}
use Rattle.cxx_grammar.proofs.words.look_up.Given as goal

abbrev pub invariant-loop-line : goal.invariant-loop-line
invariant-loop-line l = look_up l.bytes (map spelling (drop l.line-index l.lines)) l.otherwise ≡ look_up l.bytes (map spelling l.lines) l.otherwise
