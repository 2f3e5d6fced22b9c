-- Limits that the ends of the program keep on both sides of the language.
use Rattle.std.specs.Prelude.{ℕ}

-- the bytes of a source, and of any other input
abbrev pub source_limit : ℕ
source_limit = 262144

-- the steps of a run
abbrev pub most_steps : ℕ
most_steps = 4000000
