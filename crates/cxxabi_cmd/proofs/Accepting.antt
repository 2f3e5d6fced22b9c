-- What is known of an accepted source.
use Rattle.std.proofs.Common.{◌≡◌, ℕ, zero, suc, Bool, Option, Some, None, Ok, List, [], ◌∷◌, map, take, drop, true, refl, sym, ◌∙◌, ap, subst}
use Rattle.std.specs.Prelude.{slice_get}
use Rattle.std.specs.Option.{is_some}
use Rattle.std.proofs.lemmas.List.Elements.{recursion_from_All}
use Rattle.foundation.proofs.Places.{each_at}
use Rattle.cxx_hierarchy.specs.Classes.{Class, Classes}
use Rattle.cxx_hierarchy.specs.ClassPass.{Record, names_of, faults_of, IsInOrder}
use Rattle.cxx_hierarchy.specs.Resolved.{ByName, class_of_name, resolved_class, resolved}
use Rattle.cxx_text.specs.OneToken.{IsToken}
use Rattle.cxx_text.specs.declared.token.Kind.TheVariants.{Word}
use Rattle.cxx_grammar.specs.declared.sort.Lexeme.{Lexeme}
use Rattle.cxx_syntax.specs.Sources.{SourceReads}
use Rattle.cxx_readings.proofs.NameWords.{names_are_words, named_at}
use Rattle.abi_inspect.specs.Faults.{AreNamesWords}
use Rattle.cxx_hierarchy.specs.Hierarchies.{IsHierarchy}
use Rattle.cxx_hierarchy.proofs.Kept.{is_hierarchy}
use Rattle.cxx_syntax.specs.declared.tree.BodyTree.{BodyTree}
use Rattle.cxx_syntax.specs.declared.source_text.Body.{Body}
use Rattle.cxx_syntax.specs.declared.source_text.SourceText.{SourceText}
use Rattle.cxx_readings.proofs.Owners.{source_bodies}
use Rattle.cxx_program.specs.declared.program.TypedBody.{TypedBody}
use Rattle.cxx_program.specs.declared.program.TypedProgram.{TypedProgram}
use Rattle.cxx_program.specs.declared.program.Owner.TheVariants as owner
use Rattle.cxx_program.specs.Typed.{IsTypedProgram}
use Rattle.cxx_expression.specs.declared.scene.Entry.{Entry}
use Rattle.cxx_resolve.specs.Stops.{◌>>>◌}
use Rattle.cxx_resolve.specs.Turns.{given_in_turn}
use Rattle.cxx_resolve.specs.Globals.{global_of}
use Rattle.cxx_resolve.specs.Programs.{typed_body, main_setting, main_tree, main_of, body_of, program, program_of}
use Rattle.cxx_typing.specs.Sources.{IsSourceOf}
use Rattle.cxx_typing.proofs.Drafts.{then_ok}
use Rattle.cxx_typing.proofs.PureFunctions.{pure_are_virtual}
use Rattle.path_model.specs.States.{is_body}
use Rattle.cxx_record_parser.proofs.Numbers.{source_in_order}
use Rattle.cxxabi_cmd.specs.Verdict.{Verdict, Judgement, Stops, Accepts, by_text, by_records, by_classes, by_bodies, by_words, accepted, SpellsSource, MeetsNoFault}

-- the classes of an accepted source are a hierarchy
pub source_keeps : (text : List ℕ) (s : SourceText) → SpellsSource text s → faults_of s.records ≡ [] → IsHierarchy (resolved s.records)
source_keeps text s is none =
    is_hierarchy s.records (record { none = none; in_order = λ i r at. each_at IsInOrder s.records i r (recursion_from_All IsInOrder s.records (source_in_order text s is.all is.rest is.reads)) at })

abbrev pub Kept : Judgement → Type 0
Kept (Stops stop) = Unit {0}
Kept (Accepts source h program) = IsHierarchy h × MeetsNoFault h

kept : (text : List ℕ) (judgement : Judgement) → Verdict text judgement → Kept judgement
kept text _ (by_text stop is) = tt
kept text _ (by_records s stop is first) = tt
kept text _ (by_classes s stop is none first) = tt
kept text _ (by_bodies s stop is none nothing resolves) = tt
kept text _ (by_words s p is none nothing resolves many) = tt
kept text _ (accepted s p is none nothing resolves few) = (source_keeps text s is none, nothing)

pub accepted_keeps : (text : List ℕ) (s : SourceText) (h : Classes) (p : TypedProgram) → Verdict text (Accepts s h p) → IsHierarchy h
accepted_keeps text s h p verdict = (kept text (Accepts s h p) verdict).0

-- and have no fault
pub accepted_fine : (text : List ℕ) (s : SourceText) (h : Classes) (p : TypedProgram) → Verdict text (Accepts s h p) → MeetsNoFault h
accepted_fine text s h p verdict = (kept text (Accepts s h p) verdict).1

-- the names of the classes of an accepted source are words
class_name : (text : List ℕ) (s : SourceText) → SpellsSource text s → (n : ℕ) (r : Record) → slice_get s.records n ≡ Some r → IsToken r.name Word 0
class_name text s is n r at =
    let sorted = is.sorts.sorted in
    let reads = subst (λ (ts : List Lexeme). SourceReads text s ts is.rest) sorted is.reads in
    named_at s.records n r (names_are_words text s is.sorts.tokens is.sorts.bad is.rest is.sorts.cover reads) at

names_kept : (records : List Record) (of : ByName) → ((n : ℕ) (r : Record) → slice_get records n ≡ Some r → IsToken r.name Word 0) → (n : ℕ) (class : Class) → slice_get (map (resolved_class of) records) n ≡ Some class → IsToken class.name Word 0
names_kept [] of each n class at = absurd (let f : None ≡ Some class = at in cc)
names_kept (r ∷ records) of each zero class at =
    let same : resolved_class of r ≡ class = (let f : Some (resolved_class of r) ≡ Some class = at in cc) in subst (λ (c : Class). IsToken c.name Word 0) same (each zero r refl)
names_kept (r ∷ records) of each (suc n) class at = names_kept records of (λ m q is. each (suc m) q is) n class at

source_named : (text : List ℕ) (s : SourceText) → SpellsSource text s → AreNamesWords (resolved s.records)
source_named text s is = record { each = λ c class at. names_kept s.records (class_of_name (names_of s.records)) (class_name text s is) c.0 class at }

abbrev Named : Judgement → Type 0
Named (Stops stop) = Unit {0}
Named (Accepts source h program) = AreNamesWords h

named : (text : List ℕ) (judgement : Judgement) → Verdict text judgement → Named judgement
named text _ (by_text stop is) = tt
named text _ (by_records s stop is first) = tt
named text _ (by_classes s stop is none first) = tt
named text _ (by_bodies s stop is none nothing resolves) = tt
named text _ (by_words s p is none nothing resolves many) = tt
named text _ (accepted s p is none nothing resolves few) = source_named text s is

pub accepted_names : (text : List ℕ) (s : SourceText) (h : Classes) (p : TypedProgram) → Verdict text (Accepts s h p) → AreNamesWords h
accepted_names text s h p verdict = named text (Accepts s h p) verdict

-- a program has a main exactly where its source has one
tree_kept : (h : Classes) (globals : List Entry) (tree : BodyTree) (main : Option TypedBody) → main_tree h globals tree ≡ Ok main → is_body main ≡ true
unfolding main_tree
tree_kept h globals tree main w =
    let r = then_ok (typed_body h (main_setting globals) owner.Main [] [] tree) (λ (b : TypedBody). Ok (Some b)) main w in
    let last = r.2 in
    let same : Some r.0 ≡ main = cc in
    ap is_body (sym same)

main_kept : (h : Classes) (globals : List Entry) (tree : Option BodyTree) (main : Option TypedBody) → main_of h globals tree ≡ Ok main → is_body main ≡ is_some tree
main_kept h globals None main w = let same : None ≡ main = cc in ap is_body (sym same)
main_kept h globals (Some tree) main w = tree_kept h globals tree main w

behind_main : (h : Classes) (globals : List Entry) (before : List TypedBody) (behind : List Body) (main : Option TypedBody) (given : Bool) (result : TypedProgram) →
    (given_in_turn (body_of h globals) before behind >>> λ bodies. Ok (program globals main bodies)) ≡ Ok result → is_body main ≡ given → is_body result.main ≡ given
behind_main h globals before behind main given result w is =
    let r = then_ok (given_in_turn (body_of h globals) before behind) (λ (bodies : List TypedBody). Ok (program globals main bodies)) result w in
    let last = r.2 in
    let same : program globals main r.0 ≡ result = cc in
    ap (λ (p : TypedProgram). is_body p.main) (sym same) ∙ is

from_main : (h : Classes) (globals : List Entry) (before : List TypedBody) (behind : List Body) (tree : Option BodyTree) (result : TypedProgram) →
    (main_of h globals tree >>> λ main. given_in_turn (body_of h globals) before behind >>> λ bodies. Ok (program globals main bodies)) ≡ Ok result → is_body result.main ≡ is_some tree
from_main h globals before behind tree result w =
    let m = then_ok (main_of h globals tree) (λ (main : Option TypedBody). given_in_turn (body_of h globals) before behind >>> λ bodies. Ok (program globals main bodies)) result w in
    behind_main h globals before behind m.0 (is_some tree) result m.2 (main_kept h globals tree m.0 m.1)

from_bodies : (h : Classes) (globals : List Entry) (front behind : List Body) (tree : Option BodyTree) (result : TypedProgram) →
    (given_in_turn (body_of h globals) [] front >>> λ before. main_of h globals tree >>> λ main. given_in_turn (body_of h globals) before behind >>> λ bodies. Ok (program globals main bodies)) ≡ Ok result → is_body result.main ≡ is_some tree
from_bodies h globals front behind tree result w =
    let b = then_ok (given_in_turn (body_of h globals) [] front)
    (λ (before : List TypedBody). main_of h globals tree >>> λ main. given_in_turn (body_of h globals) before behind >>> λ bodies. Ok (program globals main bodies)) result w in
    from_main h globals b.0 behind tree result b.2

program_main : (h : Classes) (source : SourceText) (result : TypedProgram) → program_of h source ≡ Ok result → is_body result.main ≡ is_some source.main
unfolding program_of
program_main h source result w =
    let n = source.main_place in
    let g = then_ok (given_in_turn (global_of h) [] source.globals)
    (λ (globals : List Entry). given_in_turn (body_of h globals) [] (take n source.bodies) >>> λ before. main_of h globals source.main >>> λ main. given_in_turn (body_of h globals) before (drop n source.bodies) >>> λ bodies. Ok (program globals main bodies)) result w in
    from_bodies h g.0 (take n source.bodies) (drop n source.bodies) source.main result g.2

-- what a source resolves to without a fault is typed
abbrev pub ProgramsAreTyped : Type 0
ProgramsAreTyped = (h : Classes) (source : SourceText) (program : TypedProgram) → IsSourceOf h source → program_of h source ≡ Ok program → IsTypedProgram h program

source_is : (text : List ℕ) (s : SourceText) → SpellsSource text s → faults_of s.records ≡ [] → IsSourceOf (resolved s.records) s
source_is text s is none =
    let keeps = source_keeps text s is none in
    record { keeps = keeps; classes = refl; pure = pure_are_virtual text s is.all is.rest is.reads keeps; bodies = source_bodies text s is.all is.rest is.reads }

-- the program of an accepted source is typed, and has a main exactly where the source has one
abbrev pub ProgramFits : Judgement → Type 0
ProgramFits (Stops stop) = Unit {0}
ProgramFits (Accepts source h program) = IsTypedProgram h program × (is_body program.main ≡ is_some source.main)

fits : ProgramsAreTyped → (text : List ℕ) (judgement : Judgement) → Verdict text judgement → ProgramFits judgement
fits law text _ (by_text stop is) = tt
fits law text _ (by_records s stop is first) = tt
fits law text _ (by_classes s stop is none first) = tt
fits law text _ (by_bodies s stop is none nothing resolves) = tt
fits law text _ (by_words s p is none nothing resolves many) = tt
fits law text _ (accepted s p is none nothing resolves few) =
    (law (resolved s.records) s p (source_is text s is none) resolves, program_main (resolved s.records) s p resolves)

pub accepted_typed : ProgramsAreTyped → (text : List ℕ) (s : SourceText) (h : Classes) (p : TypedProgram) → Verdict text (Accepts s h p) → IsTypedProgram h p
accepted_typed law text s h p verdict = (fits law text (Accepts s h p) verdict).0

pub accepted_main : ProgramsAreTyped → (text : List ℕ) (s : SourceText) (h : Classes) (p : TypedProgram) → Verdict text (Accepts s h p) → is_body p.main ≡ is_some s.main
accepted_main law text s h p verdict = (fits law text (Accepts s h p) verdict).1
