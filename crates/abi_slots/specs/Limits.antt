-- How much a class can list.
use Rattle.std.specs.Prelude.{ℕ}

-- the entries of a class: at most 1024 classes with two for each of 1025 functions
abbrev pub most_entries : ℕ
most_entries = 2099200

-- the offsets of a class: one to each of at most 1024 classes, and one for each of their 1025 functions
abbrev pub most_offsets : ℕ
most_offsets = 1050624
