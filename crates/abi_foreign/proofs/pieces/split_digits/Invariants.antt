use Rattle.std.proofs.Common.{◌≡◌, true, take}
use Rattle.std.specs.Char.{is_ascii_digit}
use Rattle.std.specs.List.{list_all}
use Rattle.abi_foreign.proofs.pieces.split_digits.Given as goal

-- all bytes so far are digits
abbrev pub invariant-loop-n : goal.invariant-loop-n
invariant-loop-n l = list_all is_ascii_digit (take l.n l.text) ≡ true
