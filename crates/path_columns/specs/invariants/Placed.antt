-- How many numbers have a page.
use Rattle.std.specs.Prelude.{ℕ, zero, suc, ◌+◌}

-- 1 for the place of a page, which is counted from 1
abbrev pub some_of : ℕ → ℕ
some_of zero = 0
some_of (suc n) = 1

-- how many of the numbers below one have a page
unfoldable pub placed : (ℕ → ℕ) → ℕ → ℕ
placed place zero = 0
placed place (suc n) = placed place n + some_of (place n)
