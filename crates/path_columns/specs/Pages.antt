-- What stands in pages by number.
use Rattle.std.specs.Prelude.{ℕ, ◌+◌, ◌*◌, slice_index_or}
use Rattle.path_columns.specs.declared.pages.Pages.{Pages}
use Rattle.path_columns.specs.Paged.{paged}

-- what was set at a number, and 0 where nothing was: its low 32 bits and the others
abbrev pub number_at : Pages → ℕ → ℕ
number_at pages n = paged (λ p. slice_index_or pages.table.items p 0) pages.low.items 0 32 n + paged (λ p. slice_index_or pages.table.items p 0) pages.high.items 0 32 n * 4294967296
