use Rattle.std.proofs.Common.{ℕ, ◌≡◌, ◌++◌, List, drop, map, string_bytes}
use Rattle.tagymelur_c.specs.Words.{words_in, words_behind}
use Rattle.tagymelur_c.proofs.words_of.Given as goal

abbrev pub invariant-loop-byte : goal.invariant-loop-byte
invariant-loop-byte l = words_in l.bytes ≡ map string_bytes l.words.items ++ words_behind l.begun.items (drop l.byte-index l.bytes)
