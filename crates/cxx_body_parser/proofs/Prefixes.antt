-- The front of a list by its length.
use Rattle.std.proofs.Common.{◌≡◌, ◌-◌, ◌+◌, List, length, drop, arith, length-append, sym, ◌∙◌, ap}
use Rattle.std.proofs.Math.Seq.{drop-append_seam}
use Rattle.cxx_grammar.specs.declared.sort.Lexeme.{Lexeme}
use Rattle.cxx_grammar.specs.Grammar.{Symbol}
use Rattle.cxx_grammar.specs.Event.{State, DerivesPrefix}

pub rest_dropped : (f : List Symbol) (s : State) (ts rest : List Lexeme) → DerivesPrefix f s ts rest → rest ≡ drop (length ts - length rest) ts
rest_dropped f s ts rest h =
    let n : length ts ≡ length h.prefix + length rest = ap length h.split ∙ length-append h.prefix rest in
    let m : length ts - length rest ≡ length h.prefix = omega (arith, n) in
    rw (m, h.split) (sym (drop-append_seam h.prefix rest))
