-- How an input is divided at a line, and how many lines it has.
use Rattle.std.specs.Prelude.{ℕ, ◌+◌, Bool, true, false, not, List, [], ◌∷◌, ◌++◌, codes, Option, Some, None, option_map, if◌then◌else◌}
use Rattle.std.specs.List.{count_by, join_with_byte, slice_split}
use Rattle.std.specs.Str.{bytes_eq}
use Rattle.cxx_text.specs.Bytes.{is_line_end}

-- the lines of an input, each without its line feed; the last one is what stands behind the last line feed
abbrev pub lines_of : List ℕ → List (List ℕ)
lines_of input = slice_split is_line_end input

-- the lines before the first that is `program`, each with its line feed, and those behind it
abbrev pub divided : List (List ℕ) → Option (List ℕ × List ℕ)
divided [] = None
divided (line ∷ lines) =
    if bytes_eq line (codes "program") then Some ([], join_with_byte 10 lines)
    else option_map (λ (parts : List ℕ × List ℕ). (line ++ 10 ∷ parts.0, parts.1)) (divided lines)

-- an input in two parts, where a line divides it
unfoldable pub division : List ℕ → Option (List ℕ × List ℕ)
division input = divided (lines_of input)

-- the input ends inside a line: its last byte is no line feed
abbrev pub ends_inside : List ℕ → Bool
ends_inside [] = false
ends_inside (b ∷ []) = not (is_line_end b)
ends_inside (b ∷ c ∷ bs) = ends_inside (c ∷ bs)

-- how many lines an input has
unfoldable pub line_count : List ℕ → ℕ
line_count input = count_by is_line_end input + (if ends_inside input then 1 else 0)
