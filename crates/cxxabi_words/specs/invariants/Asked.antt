-- The command that the words ask for, as a function of what they give.
use Rattle.std.specs.Prelude.{ℕ, Bool, true, false, ◌&&◌, ◌||◌, ◌==◌, List, [], ◌∷◌, length, codes, nat_le, Option, Some, None, is_some, option_map, option_and_then, unwrap_or, if◌then◌else◌}
use Rattle.std.specs.Char.{is_ascii_digit}
use Rattle.std.specs.List.{list_all}
use Rattle.std.specs.Str.{bytes_eq}
use Rattle.std.specs.Str.Parse.{digits_value}
use Rattle.cxx_text.specs.OneToken.{most_word_bytes}
use Rattle.clap.specs.Words.{Text}
use Rattle.cxx_text.specs.Bytes.{begins, is_letter, is_word_byte}
use Rattle.cxxabi_words.specs.Commands.{Given, budget, most_asked_classes}
use Rattle.cxxabi_words.specs.declared.command.Command.{Command}
use Rattle.cxxabi_words.specs.declared.command.Command.TheVariants.{Check, Layout, LayoutOf, Tables, TablesOf, Run, Paths, Gen, Array, MemberPointer, Inspect, Foreign}
use Rattle.foundation.specs.Limits.{most_steps}
use Rattle.cxx_hierarchy.specs.Limits.{most_elements}

-- the number that at most so many digits say
abbrev pub is_count : ℕ → ℕ → Text → Bool
is_count places most digits =
    nat_le (length digits) places && (list_all is_ascii_digit digits && (nat_le 1 (digits_value 10 digits) && nat_le (digits_value 10 digits) most))

unfoldable pub count_in_digits : ℕ → ℕ → Text → Option ℕ
count_in_digits places most digits = if is_count places most digits then Some (digits_value 10 digits) else None

abbrev pub budgeted : Option Text → Option ℕ
budgeted None = Some budget
budgeted (Some digits) = count_in_digits 7 most_steps digits

-- a word is a name
unfoldable pub is_name_word : Text → Bool
is_name_word text = begins is_letter text && (list_all is_word_byte text && nat_le (length text) most_word_bytes)

-- what stands before the first byte of this kind, and behind it
unfoldable pub cut_at : ℕ → Text → Option (Text × Text)
cut_at c [] = None
cut_at c (b ∷ bs) = if b == c then Some ([], bs) else option_map (λ p. (b ∷ p.0, p.1)) (cut_at c bs)

-- what stands behind a byte of this kind, where the text begins with it
abbrev pub behind_byte : ℕ → Text → Option Text
behind_byte c [] = None
behind_byte c (b ∷ bs) = if b == c then Some bs else None

-- what stands before the first colon, and behind it and a second one
abbrev pub cut_scope : Text → Option (Text × Text)
cut_scope text = option_and_then (λ p. option_map (λ member. (p.0, member)) (behind_byte 58 p.1)) (cut_at 58 text)

abbrev pub check_form : Option Text → Option Command
check_form None = Some Check
check_form (Some arg) = None

abbrev pub layout_form : Option Text → Command
layout_form None = Layout
layout_form (Some class) = LayoutOf class

abbrev pub tables_form : Option Text → Command
tables_form None = Tables
tables_form (Some class) = TablesOf class

abbrev pub gen_form : Option Text → Option Command
gen_form None = None
gen_form (Some digits) = option_map Gen (count_in_digits 4 most_asked_classes digits)

abbrev pub array_of : Text → Text → Option Command
array_of class digits = if is_name_word class then option_map (λ n. Array class n) (count_in_digits 4 most_elements digits) else None

abbrev pub array_form : Option Text → Option Command
array_form None = None
array_form (Some arg) = option_and_then (λ p. array_of p.0 p.1) (cut_at 64 arg)

abbrev pub member_pointer_command : Text → Text → Text → Option Command
member_pointer_command class member whole =
    if is_name_word class && (is_name_word member && is_name_word whole) then Some (MemberPointer (record { class = class; member = member; whole = whole })) else None

-- a qualified name, and the class that the pointer is for, which may be left out
abbrev pub qualified_member_command : Text → Option Text → Option Command
qualified_member_command name whole = option_and_then (λ p. member_pointer_command p.0 p.1 (unwrap_or whole p.0)) (cut_scope name)

abbrev pub member_cut : Text → Option (Text × Text) → Option Command
member_cut arg None = qualified_member_command arg None
member_cut arg (Some p) = qualified_member_command p.0 (Some p.1)

abbrev pub member_form : Option Text → Option Command
member_form None = None
member_form (Some arg) = member_cut arg (cut_at 64 arg)

abbrev pub inspect_form : Option Text → Option Command
inspect_form None = Some Inspect
inspect_form (Some arg) = None

-- a command that has no option
abbrev pub plain_form : Text → Option Text → Option Command
plain_form word arg =
    if bytes_eq word (codes "check") then check_form arg
    else (if bytes_eq word (codes "layout") then Some (layout_form arg)
    else (if bytes_eq word (codes "tables") then Some (tables_form arg)
    else (if bytes_eq word (codes "gen") then gen_form arg
    else (if bytes_eq word (codes "array") then array_form arg
    else (if bytes_eq word (codes "memptr") then member_form arg
    else (if bytes_eq word (codes "inspect") then inspect_form arg else None))))))

abbrev pub run_form : Option Text → Option Text → Bool → Option Command
run_form None steps trace = option_map (λ n. Run n trace) (budgeted steps)
run_form (Some arg) steps trace = None

abbrev pub paths_form : Option Text → Option Text → Bool → Option Command
paths_form None steps false = option_map Paths (budgeted steps)
paths_form None steps true = None
paths_form (Some arg) steps trace = None

abbrev pub foreign_form : Option Text → Option Text → Bool → Option Command
foreign_form None steps false = option_map Foreign (budgeted steps)
foreign_form None steps true = None
foreign_form (Some arg) steps trace = None

abbrev pub command_form : Text → Option Text → Option Text → Bool → Option Command
command_form word arg steps trace =
    if bytes_eq word (codes "run") then run_form arg steps trace
    else (if bytes_eq word (codes "paths") then paths_form arg steps trace
    else (if bytes_eq word (codes "foreign") then foreign_form arg steps trace
    else (if is_some steps || trace then None else plain_form word arg)))

abbrev pub asked : Given → Option Command
asked g = option_and_then (λ word. command_form word g.arg g.steps g.trace) g.command
