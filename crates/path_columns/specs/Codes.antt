-- What stands in codes by number.
use Rattle.std.specs.Prelude.{◌/◌, ◌%◌, ℕ}
use Rattle.path_columns.specs.declared.codes.Codes.{Codes}
use Rattle.path_columns.specs.Digits.{digit}
use Rattle.path_columns.specs.Slots.{item_at}

-- the code that was set at a number, and 0 where none was
abbrev pub code_at : {bits : ℕ} → Codes bits → ℕ → ℕ
code_at {bits} codes n = digit bits (item_at codes.words (n / (64 / bits))) (n % (64 / bits))
