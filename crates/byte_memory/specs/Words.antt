use Rattle.std.specs.Prelude.{ℕ, ◌-◌, ◌*◌, ◌/◌, ◌%◌, Bool, if◌then◌else◌, Option, Some, None, List, slice_get}
use Rattle.byte_memory.specs.declared.cells.Cell.{Cell}
use Rattle.byte_memory.specs.declared.cells.Word.{Word}
use Rattle.byte_memory.specs.Bits.{has_bit, is_among_places}

-- a bit of a value, None where the mask of set bits lacks it
abbrev pub masked : ℕ → ℕ → ℕ → Option Bool
masked value set place = if has_bit set place then Some (has_bit value place) else None

-- a bit of a word, None where it is unset
abbrev pub word_bit : Word → ℕ → Option Bool
word_bit word place = masked word.value word.set place

-- a bit of a cell, None where it is unset or there is no cell
abbrev pub cell_bit : Option Cell → ℕ → Option Bool
cell_bit None place = None
cell_bit (Some cell) place = masked cell.value cell.set place

-- the bits of cells, where bit i of the cell k has the place 8 * k + i
abbrev pub bits_in : List Cell → ℕ → Option Bool
bits_in cells place = cell_bit (slice_get cells (place / 8)) (place % 8)

-- the bits after those of n cells, from a cell on, became those of a word
abbrev pub with_word : (ℕ → Option Bool) → ℕ → ℕ → Word → ℕ → Option Bool
with_word bit at n word place = if is_among_places (8 * at) (8 * n) place then word_bit word (place - 8 * at) else bit place

-- a bit of a word, None where it is unset or there is no word
abbrev pub found_bit : Option Word → ℕ → Option Bool
found_bit None place = None
found_bit (Some word) place = word_bit word place

-- the bits of words, where bit i of the word k has the place 64 * k + i
abbrev pub words_bits : List Word → ℕ → Option Bool
words_bits words place = found_bit (slice_get words (place / 64)) (place % 64)

-- the bits after n of them, from one on, became the lowest of a word
abbrev pub with_part : (ℕ → Option Bool) → ℕ → ℕ → Word → ℕ → Option Bool
with_part bit at n word place = if is_among_places at n place then word_bit word (place - at) else bit place
