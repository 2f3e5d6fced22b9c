-- The function of what the words give answers by the forms of commands.
use Rattle.std.proofs.Common.{◌≡◌, ℕ, ◌||◌, ◌&&◌, ◌++◌, ◌∷◌, ◌∙◌, Bool, true, false, Option, Some, None, is_some, codes, refl, sym, ap, subst}
use Rattle.std.specs.Prelude.{if◌then◌else◌, option_map, option_and_then, unwrap_or}
use Rattle.std.specs.Str.{bytes_eq}
use Rattle.std.proofs.lemmas.Slice.Eq.{bytes_eq-Decides}
use Rattle.std.proofs.lemmas.Bool.{and_parts}
use Rattle.std.proofs.lemmas.List.{append_assoc}
use Rattle.clap.specs.Words.{Text}
use Rattle.foundation.proofs.Truth.{is_false, split}
use Rattle.cxxabi_words.specs.declared.command.Command.{Command}
use Rattle.cxxabi_words.specs.declared.command.Command.TheVariants.{Check, Layout, LayoutOf, Tables, TablesOf, Run, Paths, Gen, Array, MemberPointer, Inspect, Foreign}
use Rattle.cxxabi_words.specs.Commands as commands
use Rattle.cxxabi_words.specs.Commands.{Given, IsForm, IsBudget, IsCount, IsNameWord, word_alone, word_with, most_asked_classes}
use Rattle.cxxabi_words.specs.invariants.Asked.{array_form, array_of, asked, budgeted, check_form, count_in_digits, cut_at, cut_scope, foreign_form, command_form, gen_form, inspect_form, is_name_word, layout_form, member_cut, member_form, qualified_member_command, member_pointer_command, paths_form, plain_form, run_form, tables_form}
use Rattle.cxxabi_words.proofs.Counts.{budgeted_sound, budgeted_complete, counted_sound, counted_complete}
use Rattle.cxxabi_words.proofs.NameCuts.{Lacks, cut_nowhere, cut_sound, cut_whole, name_complete, name_lacks, name_sound, scope_lacks, scope_sound, scope_whole}
use Rattle.cxx_hierarchy.specs.Limits.{most_elements}

-- what a word gives with an argument that may be left out
abbrev with_arg : Text → Option Text → Given
with_arg word arg = record { command = Some word; arg = arg; steps = None; trace = false }

abbrev with_all : Text → Option Text → Option Text → Bool → Given
with_all word arg steps trace = record { command = Some word; arg = arg; steps = steps; trace = trace }

-- a test of the word, and its two cases
by_word : (word name : Text) (yes no : Option Command) (c : Command) (P : Text → Type 0) → (yes ≡ Some c → P name) → (no ≡ Some c → P word) → (if bytes_eq word name then yes else no) ≡ Some c → P word
by_word word name this that c P one other =
    split (bytes_eq word name) (λ b. (if b then this else that) ≡ Some c → P word)
    (λ same h. subst P (sym ((bytes_eq-Decides word name).0 same)) (one h))
    (λ differ h. other h)

-- a word that is none of the others
pub other_word : (word name : Text) → (word ≡ name → ⊥) → bytes_eq word name ≡ false
other_word word name differ = is_false (bytes_eq word name) (λ same. differ ((bytes_eq-Decides word name).0 same))

check_sound : (arg : Option Text) (c : Command) → check_form arg ≡ Some c → IsForm (with_arg (codes "check") arg) c
check_sound None c same = let one : Check ≡ c = cc in subst (λ d. IsForm (word_alone (codes "check")) d) one commands.check
check_sound (Some arg) c same = cc

layout_sound : (arg : Option Text) (c : Command) → Some (layout_form arg) ≡ Some c → IsForm (with_arg (codes "layout") arg) c
layout_sound None c same = let one : Layout ≡ c = cc in subst (λ d. IsForm (word_alone (codes "layout")) d) one commands.layout
layout_sound (Some class) c same = let one : LayoutOf class ≡ c = cc in subst (λ d. IsForm (word_with (codes "layout") class) d) one (commands.layout_of class)

tables_sound : (arg : Option Text) (c : Command) → Some (tables_form arg) ≡ Some c → IsForm (with_arg (codes "tables") arg) c
tables_sound None c same = let one : Tables ≡ c = cc in subst (λ d. IsForm (word_alone (codes "tables")) d) one commands.tables
tables_sound (Some class) c same = let one : TablesOf class ≡ c = cc in subst (λ d. IsForm (word_with (codes "tables") class) d) one (commands.tables_of class)

-- a number that is put into a command
made : (number : Option ℕ) (f : ℕ → Command) (c : Command) → option_map f number ≡ Some c → (n : ℕ) × (number ≡ Some n) × (f n ≡ c)
made None f c same = cc
made (Some n) f c same = (n, refl, cc)

gen_sound : (arg : Option Text) (c : Command) → gen_form arg ≡ Some c → IsForm (with_arg (codes "gen") arg) c
gen_sound None c same = cc
gen_sound (Some digits) c same =
    let number = made (count_in_digits 4 most_asked_classes digits) Gen c same in
    subst (λ d. IsForm (word_with (codes "gen") digits) d) number.2 (commands.gen digits number.0 (counted_sound 4 most_asked_classes digits number.0 number.1))

array_parts : (class digits : Text) (c : Command) → array_of class digits ≡ Some c → IsForm (word_with (codes "array") (class ++ (codes "@" ++ digits))) c
array_parts class digits c =
    split (is_name_word class) (λ b. (if b then option_map (λ n. Array class n) (count_in_digits 4 most_elements digits) else None) ≡ Some c → IsForm (word_with (codes "array") (class ++ (codes "@" ++ digits))) c)
    (λ is same.
    let number = made (count_in_digits 4 most_elements digits) (λ n. Array class n) c same in
    subst (λ d. IsForm (word_with (codes "array") (class ++ (codes "@" ++ digits))) d) number.2 (commands.array class digits number.0 (name_sound class is) (counted_sound 4 most_elements digits number.0 number.1)))
    (λ other same. cc)

array_sound : (arg : Option Text) (c : Command) → array_form arg ≡ Some c → IsForm (with_arg (codes "array") arg) c
array_sound None c same = cc
array_sound (Some arg) c same = by_cut (cut_at 64 arg) refl same
  where
    by_cut : (found : Option (Text × Text)) → cut_at 64 arg ≡ found → option_and_then (λ (p : Text × Text). array_of p.0 p.1) found ≡ Some c → IsForm (word_with (codes "array") arg) c
    by_cut None is none = cc
    by_cut (Some p) is same = subst (λ (a : Text). IsForm (word_with (codes "array") a) c) (sym (cut_sound 64 arg p is)) (array_parts p.0 p.1 c same)

array_complete : (class digits : Text) (n : ℕ) → IsNameWord class → IsCount 4 most_elements digits n → array_form (Some (class ++ (codes "@" ++ digits))) ≡ Some (Array class n)
array_complete class digits n name is =
    ap (option_and_then (λ (p : Text × Text). array_of p.0 p.1)) (cut_whole 64 class digits (name_lacks 64 class refl name))
    ∙ rw (name_complete class name, counted_complete 4 most_elements digits n is) refl

-- the three names of a member pointer
record AreNames (class member whole : Text) (c : Command) : Type 0 where
  class_is : IsNameWord class
  member_is : IsNameWord member
  whole_is : IsNameWord whole
  same : MemberPointer (record { class = class; member = member; whole = whole }) ≡ c

names_sound : (class member whole : Text) (c : Command) → member_pointer_command class member whole ≡ Some c → AreNames class member whole c
names_sound class member whole c =
    split (is_name_word class && (is_name_word member && is_name_word whole))
    (λ b. (if b then Some (MemberPointer (record { class = class; member = member; whole = whole })) else None) ≡ Some c → AreNames class member whole c)
    (λ is same.
    let first = and_parts (is_name_word class) _ is in
    let rest = and_parts (is_name_word member) (is_name_word whole) first.1 in
    record { class_is = name_sound class first.0; member_is = name_sound member rest.0; whole_is = name_sound whole rest.1; same = cc })
    (λ other same. cc)

member_own : (name : Text) (c : Command) → qualified_member_command name None ≡ Some c → IsForm (word_with (codes "memptr") name) c
member_own name c = by_cut (cut_scope name) refl
  where
    by_cut : (found : Option (Text × Text)) → cut_scope name ≡ found → option_and_then (λ (p : Text × Text). member_pointer_command p.0 p.1 (unwrap_or None p.0)) found ≡ Some c → IsForm (word_with (codes "memptr") name) c
    by_cut None is none = cc
    by_cut (Some p) is same =
        let names = names_sound p.0 p.1 p.0 c same in
        subst (λ (a : Text). IsForm (word_with (codes "memptr") a) c) (sym (scope_sound name p is))
        (subst (λ d. IsForm (word_with (codes "memptr") (p.0 ++ (codes "::" ++ p.1))) d) names.same (commands.member p.0 p.1 names.class_is names.member_is))

regrouped : (class member whole : Text) → (class ++ 58 ∷ 58 ∷ member) ++ 64 ∷ whole ≡ class ++ (codes "::" ++ (member ++ (codes "@" ++ whole)))
regrouped class member whole = append_assoc class (58 ∷ 58 ∷ member) (64 ∷ whole)

member_for : (name whole : Text) (c : Command) → qualified_member_command name (Some whole) ≡ Some c → IsForm (word_with (codes "memptr") (name ++ 64 ∷ whole)) c
member_for name whole c = by_cut (cut_scope name) refl
  where
    by_cut : (found : Option (Text × Text)) → cut_scope name ≡ found → option_and_then (λ (p : Text × Text). member_pointer_command p.0 p.1 (unwrap_or (Some whole) p.0)) found ≡ Some c → IsForm (word_with (codes "memptr") (name ++ 64 ∷ whole)) c
    by_cut None is none = cc
    by_cut (Some p) is same =
        let names = names_sound p.0 p.1 whole c same in
        let text : name ++ 64 ∷ whole ≡ p.0 ++ (codes "::" ++ (p.1 ++ (codes "@" ++ whole))) = ap (λ (t : Text). t ++ 64 ∷ whole) (scope_sound name p is) ∙ regrouped p.0 p.1 whole in
        subst (λ (a : Text). IsForm (word_with (codes "memptr") a) c) (sym text)
        (subst (λ d. IsForm (word_with (codes "memptr") (p.0 ++ (codes "::" ++ (p.1 ++ (codes "@" ++ whole))))) d) names.same
        (commands.member_for p.0 p.1 whole names.class_is names.member_is names.whole_is))

member_sound : (arg : Option Text) (c : Command) → member_form arg ≡ Some c → IsForm (with_arg (codes "memptr") arg) c
member_sound None c same = cc
member_sound (Some arg) c same = by_cut (cut_at 64 arg) refl same
  where
    by_cut : (found : Option (Text × Text)) → cut_at 64 arg ≡ found → member_cut arg found ≡ Some c → IsForm (word_with (codes "memptr") arg) c
    by_cut None is same = member_own arg c same
    by_cut (Some p) is same = subst (λ (a : Text). IsForm (word_with (codes "memptr") a) c) (sym (cut_sound 64 arg p is)) (member_for p.0 p.1 c same)

names_complete : (class member whole : Text) → IsNameWord class → IsNameWord member → IsNameWord whole → member_pointer_command class member whole ≡ Some (MemberPointer (record { class = class; member = member; whole = whole }))
names_complete class member whole one two three = rw (name_complete class one, name_complete member two, name_complete whole three) refl

in_complete : (class member : Text) (whole : Option Text) → IsNameWord class → IsNameWord member → IsNameWord (unwrap_or whole class) →
    qualified_member_command (class ++ 58 ∷ 58 ∷ member) whole ≡ Some (MemberPointer (record { class = class; member = member; whole = unwrap_or whole class }))
in_complete class member whole one two three =
    ap (option_and_then (λ (p : Text × Text). member_pointer_command p.0 p.1 (unwrap_or whole p.0))) (scope_whole class member (name_lacks 58 class refl one))
    ∙ names_complete class member (unwrap_or whole class) one two three

own_complete : (class member : Text) → IsNameWord class → IsNameWord member → member_form (Some (class ++ (codes "::" ++ member))) ≡ Some (MemberPointer (record { class = class; member = member; whole = class }))
own_complete class member one two =
    ap (member_cut (class ++ 58 ∷ 58 ∷ member)) (cut_nowhere 64 (class ++ 58 ∷ 58 ∷ member) (scope_lacks class member one two)) ∙ in_complete class member None one two one

for_complete : (class member whole : Text) → IsNameWord class → IsNameWord member → IsNameWord whole →
    member_form (Some (class ++ (codes "::" ++ (member ++ (codes "@" ++ whole))))) ≡ Some (MemberPointer (record { class = class; member = member; whole = whole }))
for_complete class member whole one two three =
    ap (λ (t : Text). member_form (Some t)) (sym (regrouped class member whole))
    ∙ ap (member_cut ((class ++ 58 ∷ 58 ∷ member) ++ 64 ∷ whole)) (cut_whole 64 (class ++ 58 ∷ 58 ∷ member) whole (scope_lacks class member one two))
    ∙ in_complete class member (Some whole) one two three

inspect_sound : (arg : Option Text) (c : Command) → inspect_form arg ≡ Some c → IsForm (with_arg (codes "inspect") arg) c
inspect_sound None c same = let one : Inspect ≡ c = cc in subst (λ d. IsForm (word_alone (codes "inspect")) d) one commands.inspect
inspect_sound (Some arg) c same = cc

plain_sound : (word : Text) (arg : Option Text) (c : Command) → plain_form word arg ≡ Some c → IsForm (with_arg word arg) c
plain_sound word arg c =
    let P : Text → Type 0 = λ w. IsForm (with_arg w arg) c in
    by_word word (codes "check") (check_form arg) _ c P (check_sound arg c)
    (by_word word (codes "layout") (Some (layout_form arg)) _ c P (layout_sound arg c)
    (by_word word (codes "tables") (Some (tables_form arg)) _ c P (tables_sound arg c)
    (by_word word (codes "gen") (gen_form arg) _ c P (gen_sound arg c)
    (by_word word (codes "array") (array_form arg) _ c P (array_sound arg c)
    (by_word word (codes "memptr") (member_form arg) _ c P (member_sound arg c)
    (by_word word (codes "inspect") (inspect_form arg) None c P (inspect_sound arg c) (λ none. cc)))))))

run_sound : (arg steps : Option Text) (trace : Bool) (c : Command) → run_form arg steps trace ≡ Some c → IsForm (with_all (codes "run") arg steps trace) c
run_sound None steps trace c same =
    let number = made (budgeted steps) (λ n. Run n trace) c same in
    subst (λ d. IsForm (with_all (codes "run") None steps trace) d) number.2 (commands.run steps number.0 trace (budgeted_sound steps number.0 number.1))
run_sound (Some arg) steps trace c same = cc

paths_sound : (arg steps : Option Text) (trace : Bool) (c : Command) → paths_form arg steps trace ≡ Some c → IsForm (with_all (codes "paths") arg steps trace) c
paths_sound None steps false c same =
    let number = made (budgeted steps) Paths c same in
    subst (λ d. IsForm (with_all (codes "paths") None steps false) d) number.2 (commands.paths steps number.0 (budgeted_sound steps number.0 number.1))
paths_sound None steps true c same = cc
paths_sound (Some arg) steps trace c same = cc

foreign_sound : (arg steps : Option Text) (trace : Bool) (c : Command) → foreign_form arg steps trace ≡ Some c → IsForm (with_all (codes "foreign") arg steps trace) c
foreign_sound None steps false c same =
    let number = made (budgeted steps) Foreign c same in
    subst (λ d. IsForm (with_all (codes "foreign") None steps false) d) number.2 (commands.foreign steps number.0 (budgeted_sound steps number.0 number.1))
foreign_sound None steps true c same = cc
foreign_sound (Some arg) steps trace c same = cc

without_option : (word : Text) (arg steps : Option Text) (trace : Bool) (c : Command) → (if is_some steps || trace then None else plain_form word arg) ≡ Some c → IsForm (with_all word arg steps trace) c
without_option word arg None false c same = plain_sound word arg c same
without_option word arg None true c same = cc
without_option word arg (Some digits) trace c same = cc

form_sound : (word : Text) (arg steps : Option Text) (trace : Bool) (c : Command) → command_form word arg steps trace ≡ Some c → IsForm (with_all word arg steps trace) c
form_sound word arg steps trace c =
    let P : Text → Type 0 = λ w. IsForm (with_all w arg steps trace) c in
    by_word word (codes "run") (run_form arg steps trace) _ c P (run_sound arg steps trace c)
    (by_word word (codes "paths") (paths_form arg steps trace) _ c P (paths_sound arg steps trace c)
    (by_word word (codes "foreign") (foreign_form arg steps trace) _ c P (foreign_sound arg steps trace c) (without_option word arg steps trace c)))

-- what the function gives is a form
pub asked_sound : (g : Given) (c : Command) → asked g ≡ Some c → IsForm g c
asked_sound g c = at g.command refl
  where
    at : (word : Option Text) → g.command ≡ word → option_and_then (λ w. command_form w g.arg g.steps g.trace) word ≡ Some c → IsForm (record g { command = word }) c
    at None is same = cc
    at (Some word) is same = form_sound word g.arg g.steps g.trace c same

-- a form is what the function gives
pub asked_complete : (g : Given) (c : Command) → IsForm g c → asked g ≡ Some c
asked_complete _ _ commands.check = refl
asked_complete _ _ commands.layout = refl
asked_complete _ _ (commands.layout_of class) = refl
asked_complete _ _ commands.tables = refl
asked_complete _ _ (commands.tables_of class) = refl
asked_complete _ _ (commands.run steps n trace is) = ap (option_map (λ k. Run k trace)) (budgeted_complete steps n is)
asked_complete _ _ (commands.paths steps n is) = ap (option_map Paths) (budgeted_complete steps n is)
asked_complete _ _ (commands.gen digits n is) = ap (option_map Gen) (counted_complete 4 most_asked_classes digits n is)
asked_complete _ _ (commands.array class digits n name is) = array_complete class digits n name is
asked_complete _ _ commands.inspect = refl
asked_complete _ _ (commands.foreign steps n is) = ap (option_map Foreign) (budgeted_complete steps n is)
asked_complete _ _ (commands.member class member one two) = own_complete class member one two
asked_complete _ _ (commands.member_for class member whole one two three) = for_complete class member whole one two three
