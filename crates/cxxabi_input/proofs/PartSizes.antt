-- The parts of an input are not longer than it.
use Rattle.std.proofs.Common.{◌≡◌, ℕ, ◌+◌, ◌≤◌, zero, suc, Bool, true, false, Option, Some, None, List, [], ◌∷◌, ◌++◌, length, refl, sym, ap, subst, arith}
use Rattle.std.specs.Prelude.{option_map, if◌then◌else◌}
use Rattle.std.specs.List.{join_with_byte}
use Rattle.std.specs.Str.{bytes_eq}
use Rattle.std.proofs.lemmas.List.{length-append}
use Rattle.cxxabi_input.specs.Division.{lines_of, divided, division}
use Rattle.cxxabi_input.proofs.Cuts.{program_line, lines_joined}

abbrev Half : Type 0
Half = List ℕ × List ℕ

-- the lines behind a line, joined, are not longer than with it
joined_more : (line : List ℕ) (lines : List (List ℕ)) → length (join_with_byte 10 lines) ≤ length (join_with_byte 10 (line ∷ lines))
joined_more line [] = omega arith
joined_more line (next ∷ lines) =
    let more = length-append line (10 ∷ join_with_byte 10 (next ∷ lines)) in
    omega (arith, more)

joined_line : (line : List ℕ) (lines : List (List ℕ)) → 1 ≤ length lines → length (join_with_byte 10 (line ∷ lines)) ≡ length line + suc (length (join_with_byte 10 lines))
joined_line line [] some = omega arith
joined_line line (next ∷ lines) some = length-append line (10 ∷ join_with_byte 10 (next ∷ lines))

some_lines : (lines : List (List ℕ)) (parts : Half) → divided lines ≡ Some parts → 1 ≤ length lines
some_lines [] parts is = absurd (let f : None ≡ Some parts = is in cc)
some_lines (line ∷ lines) parts is = omega arith

-- the parts behind a line that does not divide
behind : (line : List ℕ) (o : Option Half) (parts : Half) → option_map (λ (p : Half). (line ++ 10 ∷ p.0, p.1)) o ≡ Some parts → (rest : Half) × (o ≡ Some rest) × (parts ≡ (line ++ 10 ∷ rest.0, rest.1))
behind line None parts is = absurd (let f : None ≡ Some parts = is in cc)
behind line (Some rest) parts is = (rest, refl, sym (let f : Some (line ++ 10 ∷ rest.0, rest.1) ≡ Some parts = is in cc))

here : (line : List ℕ) (lines : List (List ℕ)) (parts : Half) → Some ([], join_with_byte 10 lines) ≡ Some parts → length parts.0 + length parts.1 ≤ length (join_with_byte 10 (line ∷ lines))
here line lines parts same =
    let more = joined_more line lines in
    let parts_are : ([], join_with_byte 10 lines) ≡ parts = (let f : Some ([], join_with_byte 10 lines) ≡ Some parts = same in cc) in
    subst (λ (p : Half). length p.0 + length p.1 ≤ length (join_with_byte 10 (line ∷ lines))) parts_are (omega (arith, more))

later : (line : List ℕ) (lines : List (List ℕ)) (parts rest : Half) → divided lines ≡ Some rest → parts ≡ (line ++ 10 ∷ rest.0, rest.1) → length rest.0 + length rest.1 ≤ length (join_with_byte 10 lines) →
    length parts.0 + length parts.1 ≤ length (join_with_byte 10 (line ∷ lines))
later line lines parts rest is are few =
    let whole = joined_line line lines (some_lines lines rest is) in
    let front = length-append line (10 ∷ rest.0) in
    subst (λ (p : Half). length p.0 + length p.1 ≤ length (join_with_byte 10 (line ∷ lines))) (sym are) (omega (arith, few, whole, front))

by_line : (line : List ℕ) (lines : List (List ℕ)) (parts : Half) → ((rest : Half) → divided lines ≡ Some rest → length rest.0 + length rest.1 ≤ length (join_with_byte 10 lines)) →
    (b : Bool) → (if b then Some ([], join_with_byte 10 lines) else option_map (λ (p : Half). (line ++ 10 ∷ p.0, p.1)) (divided lines)) ≡ Some parts → length parts.0 + length parts.1 ≤ length (join_with_byte 10 (line ∷ lines))
by_line line lines parts few true same = here line lines parts same
by_line line lines parts few false same = let rest = behind line (divided lines) parts same in later line lines parts rest.0 rest.1 rest.2 (few rest.0 rest.1)

sizes : (lines : List (List ℕ)) (parts : Half) → divided lines ≡ Some parts → length parts.0 + length parts.1 ≤ length (join_with_byte 10 lines)
sizes [] parts is = absurd (let f : None ≡ Some parts = is in cc)
sizes (line ∷ lines) parts is = by_line line lines parts (sizes lines) (bytes_eq line program_line) is

pub parts_within : (input front text : List ℕ) → division input ≡ Some (front, text) → length front + length text ≤ length input
unfolding division
parts_within input front text is =
    let few = sizes (lines_of input) (front, text) is in
    let whole = ap length (lines_joined input) in
    omega (arith, few, whole)
