-- What `gen N` prints of its run.
use Rattle.std.specs.Prelude.{ℕ, ◌==◌, Bool, List, ◌++◌, codes}
use Rattle.std.specs.List.{after_last, before_last, count_by}
use Rattle.std.specs.Fmt.{decimal}

abbrev pub is_line_feed : ℕ → Bool
is_line_feed byte = byte == 10

-- how many lines a text has: each ends with a line feed
abbrev pub lines_in : List ℕ → ℕ
lines_in text = count_by is_line_feed text

-- the last line of a text, without its line feed
abbrev pub last_line : List ℕ → List ℕ
last_line text = after_last is_line_feed (before_last is_line_feed text)

-- the classes of the source, the steps of its run, the lines that main printed, and the last of them
abbrev pub summary : ℕ → ℕ → ℕ → List ℕ → List ℕ
summary classes steps lines last =
    codes "classes " ++ decimal classes ++ codes "\nsteps " ++ decimal steps ++ codes "\nlines " ++ decimal lines
    ++ codes "\nlast " ++ last ++ codes "\n"
