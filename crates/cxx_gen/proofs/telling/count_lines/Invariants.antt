use Rattle.std.proofs.Common.{◌≡◌, take}
use Rattle.cxx_gen.specs.Summary.{lines_in}
use Rattle.cxx_gen.proofs.telling.count_lines.Given as goal

-- the lines so far are counted
abbrev pub invariant-loop-byte : goal.invariant-loop-byte
invariant-loop-byte l = l.lines ≡ lines_in (take l.byte-index l.text)
