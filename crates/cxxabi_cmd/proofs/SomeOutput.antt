-- Words and the bytes of a source have an answer.
use Rattle.std.proofs.Common.{◌≡◌, ℕ, zero, suc, ◌<◌, ◌≤◌, ◌⊎◌, ⊎_elim, Bool, false, Option, Some, None, Result, Ok, Err, List, [], ◌∷◌, length, refl, arith}
use Rattle.std.specs.Prelude.{slice_get}
use Rattle.std.specs.Option.{is_some}
use Rattle.std.proofs.lemmas.Bool.{cases_lt}
use Rattle.cxx_grammar.specs.Lexemes.{lexemes, source_start}
use Rattle.cxx_text.proofs.SomeTokens.{some_tokens}
use Rattle.cxx_readings.proofs.Runs.{some_source}
use Rattle.cxx_hierarchy.specs.declared.records.ClassId.{ClassId}
use Rattle.cxx_hierarchy.specs.declared.stop.Stop.{Stop}
use Rattle.cxx_hierarchy.specs.declared.stop.Stop.TheVariants.{Limit as AtLimit}
use Rattle.cxx_hierarchy.specs.declared.stop.Rule.TheVariants.{UnknownName}
use Rattle.cxx_hierarchy.specs.declared.stop.LimitNo.TheVariants.{L1, L7, L9}
use Rattle.cxx_hierarchy.specs.Classes.{Classes, class_names, class_by_number}
use Rattle.cxx_hierarchy.specs.ClassPass.{faults_of, first_of}
use Rattle.cxx_hierarchy.specs.Hierarchies.{IsHierarchy}
use Rattle.cxx_hierarchy.specs.Resolved.{resolved}
use Rattle.cxx_syntax.specs.declared.source_text.SourceText.{SourceText}
use Rattle.cxx_program.specs.declared.program.TypedProgram.{TypedProgram}
use Rattle.cxx_program.specs.Typed.{IsTypedProgram}
use Rattle.cxx_resolve.specs.Programs.{program_of}
use Rattle.path_model.specs.States.{is_body}
use Rattle.abi_sound.specs.Places.{Places, places_of}
use Rattle.abi_layout.proofs.rules.SomeLayout.{some_layout}
use Rattle.abi_cookie.specs.declared.answers.ArrayAnswer.{ArrayAnswer}
use Rattle.abi_cookie.specs.Answers.{IsArrayAnswer}
use Rattle.abi_memptr.specs.Answers.{answer_of}
use Rattle.cxxabi_words.specs.declared.command.QualifiedMember.{QualifiedMember}
use Rattle.foundation.proofs.Places.{place_of}
use Rattle.cxx_overrider.proofs.FaultSearch.{class_answer}
use Rattle.abi_layout.proofs.rules.SomeAnswers.{large_decided, shared_decided}
use Rattle.cxxabi_words.specs.declared.command.Command.{Command}
use Rattle.cxxabi_words.specs.declared.command.Command.TheVariants.{Check, Run, Layout, LayoutOf, Tables, TablesOf, Paths, Gen, Array, MemberPointer, Inspect, Foreign}
use Rattle.cxxabi_words.specs.Commands.{Says, IsCommand}
use Rattle.cxxabi_words.proofs.CommandLaws.{some_command}
use Rattle.cxxabi_cmd.specs.declared.listing.Listing.{Listing}
use Rattle.cxxabi_cmd.specs.declared.listing.Listing.TheVariants.{OfLayout, OfTables}
use Rattle.cxxabi_cmd.specs.declared.status.Status.TheVariants.{Refused, Usage, Limit, BadInput}
use Rattle.cxxabi_cmd.specs.Answers.{IsArrayReply, no_element_class, elements_of, array_answer, IsMemberReply, no_class, no_whole, member_of, member_answer}
use Rattle.cxxabi_cmd.specs.Commands.{RunsMain, by_run, by_paths, by_gen, by_foreign, input_of, divided_input}
use Rattle.cxxabi_cmd.specs.Divided.{IsLayoutOf, IsDumpReply, IsListingReply, refused_listing, many_words, listing_rule, undivided_rule}
use Rattle.cxxabi_input.specs.Division.{line_count}
use Rattle.abi_sound.specs.declared.class_layout.ClassLayout.{ClassLayout}
use Rattle.abi_layout.specs.Layouts.{IsLaid}
use Rattle.abi_tables.specs.Counts.{words_of_all_classes, most_words}
use Rattle.abi_inspect.specs.Faults.{AreNamesWords}
use Rattle.cxx_syntax.specs.declared.tree.BodyTree.{BodyTree}
use Rattle.cxxabi_cmd.specs.Verdict.{AreLexemes, SpellsSource, MeetsNoFault, Judgement, Verdict, Stops, Accepts, by_text, by_records, by_classes, by_bodies, by_words, accepted}
use Rattle.text_told.specs.Told.{text_limit}
use Rattle.cxxabi_cmd.specs.Output.{Answer, AsksFor, all_layouts, one_layout, all_tables, one_tables, AsksForName, named_layout, named_tables, Lists, whole, too_much, Yields, counted, unknown_class, listed, arrayed, pointed, Output, usage, too_long, line_alone, count_answer, text_answer, status_of_stop, first_classes, no_main, inspected, no_layout}
use Rattle.cxxabi_cmd.proofs.Accepting.{ProgramsAreTyped, source_keeps, accepted_keeps, accepted_fine, accepted_names, accepted_typed, accepted_main}
use Rattle.cxxabi_cmd.proofs.Asking.{Judged, is_stopped, is_yielded, Parted, parted_output}
use Rattle.cxxabi_cmd.proofs.SourceLemmas.{parts_short}
use Rattle.cxxabi_cmd.proofs.SomeDivided.{SomeDumps, dump_replied, HasVerdict, is_sound, is_unsound, SomeListings}
use Rattle.cxxabi_cmd.proofs.LaidRows.{no_meaning, sound_rows, words_decided}
use Rattle.cxxabi_cmd.proofs.Listed.{SomeTables, AreKnown, named_below, some_texts, asked_known}
use Rattle.cxxabi_cmd.proofs.RunAnswers.{NeverWrong, yields_runs}
use Rattle.cxxabi_cmd.proofs.SameTexts.{same_text}
use Rattle.cxxabi_cmd.proofs.SomeFault.{IsDecided, some_fault}
use Rattle.foundation.specs.Limits.{source_limit, most_steps}

-- the classes of a hierarchy are decided
classes_decided : (h : Classes) → IsHierarchy h → IsDecided h
classes_decided h keeps = record { meaning = λ c. class_answer h keeps c; size = λ c known. large_decided h keeps c known; places = λ c known. shared_decided h keeps c known }

-- the first of a list, or that it is empty
data HasFirst (faults : List Stop) : Type 0 where
  is_first : (stop : Stop) → first_of faults ≡ Some stop → HasFirst faults
  is_empty : faults ≡ [] → HasFirst faults

some_first : (faults : List Stop) → HasFirst faults
some_first [] = is_empty refl
some_first (stop ∷ rest) = is_first stop refl

judged_words : (text : List ℕ) (source : SourceText) (program : TypedProgram) → SpellsSource text source → faults_of source.records ≡ [] → MeetsNoFault (resolved source.records) → program_of (resolved source.records) source ≡ Ok program → (judgement : Judgement) × Verdict text judgement
judged_words text source program is none nothing resolves =
    ⊎_elim (λ many. (Stops (AtLimit L7), by_words source program is none nothing resolves many)) (λ few. (Accepts source (resolved source.records) program, accepted source program is none nothing resolves few))
    (words_decided (resolved source.records) (source_keeps text source is none))

judged_bodies : (text : List ℕ) (source : SourceText) (answer : Result TypedProgram Stop) → SpellsSource text source → faults_of source.records ≡ [] → MeetsNoFault (resolved source.records) → program_of (resolved source.records) source ≡ answer → (judgement : Judgement) × Verdict text judgement
judged_bodies text source (Ok program) is none nothing resolves = judged_words text source program is none nothing resolves
judged_bodies text source (Err stop) is none nothing resolves = (Stops stop, by_bodies source stop is none nothing resolves)

judged_classes : (text : List ℕ) (source : SourceText) → SpellsSource text source → faults_of source.records ≡ [] → (judgement : Judgement) × Verdict text judgement
judged_classes text source is none =
    ⊎_elim (λ first. (Stops first.0, by_classes source first.0 is none first.1)) (λ nothing. judged_bodies text source (program_of (resolved source.records) source) is none nothing refl)
    (some_fault (resolved source.records) (classes_decided (resolved source.records) (source_keeps text source is none)))

judged_records : (text : List ℕ) (source : SourceText) → SpellsSource text source → HasFirst (faults_of source.records) → (judgement : Judgement) × Verdict text judgement
judged_records text source is (is_first stop first) = (Stops stop, by_records source stop is first)
judged_records text source is (is_empty none) = judged_classes text source is none

-- a text has a verdict
pub some_verdict : (text : List ℕ) → length text ≤ source_limit → (judgement : Judgement) × Verdict text judgement
some_verdict text short =
    let read = some_tokens text in
    let all = lexemes text source_start read.0 read.1 in
    let sorts : AreLexemes text all = record { tokens = read.0; bad = read.1; cover = read.2; sorted = refl } in
    ⊎_elim
    (λ said. judged_records text said.0 (record { all = all; sorts = sorts; rest = said.1; derives = said.3; reads = said.2 }) (some_first (faults_of said.0.records)))
    (λ stops. (Stops stops.0, by_text stops.0 (record { all = all; sorts = sorts; event = stops.1 })))
    (some_source text read.0 read.1 short read.2)

-- where a list has a text, or that it has it nowhere
data IsThere (names : List (List ℕ)) (name : List ℕ) : Type 0 where
  there_at : (n : ℕ) → slice_get names n ≡ Some name → IsThere names name
  nowhere : ((n : ℕ) → slice_get names n ≡ Some name → ⊥) → IsThere names name

behind : (first : List ℕ) (names : List (List ℕ)) (name : List ℕ) → (first ≡ name → ⊥) → ((n : ℕ) → slice_get names n ≡ Some name → ⊥) → (n : ℕ) → slice_get (first ∷ names) n ≡ Some name → ⊥
behind first names name other none zero at = other (cc)
behind first names name other none (suc n) at = none n at

later : (first : List ℕ) (names : List (List ℕ)) (name : List ℕ) → (first ≡ name → ⊥) → IsThere names name → IsThere (first ∷ names) name
later first names name other (there_at n at) = there_at (suc n) at
later first names name other (nowhere none) = nowhere (behind first names name other none)

some_place : (names : List (List ℕ)) (name : List ℕ) → IsThere names name
some_place [] name = nowhere (λ n at. cc)
some_place (first ∷ names) name = ⊎_elim (λ same. there_at zero (cc)) (λ other. later first names name other (some_place names name)) (same_text first name)

lists : SomeTables → (h : Classes) (listing : Listing) (classes : List ClassId) → IsHierarchy h → MeetsNoFault h → AreKnown h classes → (answer : Answer) × Lists h listing classes answer
lists law h listing classes keeps fine known =
    let laid = some_layout h keeps in
    let texts = some_texts law h laid.0 listing classes keeps (no_meaning h fine) (sound_rows h laid.0 keeps fine laid.1) known in
    ⊎_elim (λ long. (line_alone (Limit L9), too_much laid.0 texts.0 laid.1 texts.1 long)) (λ short. (text_answer texts.0, whole laid.0 texts.0 laid.1 texts.1 short))
    (cases_lt text_limit (length texts.0))

yields_list : SomeTables → (front : List ℕ) (size : ℕ) (source : SourceText) (h : Classes) (typed : TypedProgram) (command : Command) (listing : Listing) (classes : List ClassId) → IsHierarchy h → MeetsNoFault h → AsksFor h command listing classes → (answer : Answer) × Yields front size source h typed command answer
yields_list law front size source h typed command listing classes keeps fine asks =
    let is = lists law h listing classes keeps fine (asked_known h command listing classes asks) in (is.0, listed command listing classes is.0 asks is.1)

yields_named : SomeTables → (front : List ℕ) (size : ℕ) (source : SourceText) (h : Classes) (typed : TypedProgram) (command : Command) (listing : Listing) (name : List ℕ) → IsHierarchy h → MeetsNoFault h → AsksForName command name →
    ((c : ClassId) → slice_get (class_names h) c.0 ≡ Some name → AsksFor h command listing (c ∷ [])) → IsThere (class_names h) name → (answer : Answer) × Yields front size source h typed command answer
yields_named law front size source h typed command listing name keeps fine names asks (there_at n at) = yields_list law front size source h typed command listing (class_by_number n ∷ []) keeps fine (asks (class_by_number n) at)
yields_named law front size source h typed command listing name keeps fine names asks (nowhere none) =
    (line_alone (Refused UnknownName size), unknown_class command name names (λ has. let place = place_of (class_names h) name has in none place.0 place.1))

-- there is an array of each class, or a rule that refuses it
abbrev pub SomeArrays : Type 0
SomeArrays = (h : Classes) (l : Places) (c : ClassId) (n : ℕ) → IsHierarchy h → c.0 < length h → (answer : ArrayAnswer) × IsArrayAnswer h l c n answer

-- the laws of the layers below: a class has tables, there is an answer for an array of it, a dump says something or not, and a
-- listing stands for a layout or not
pub record SomeLaws : Type 0 where
  pub tables : SomeTables
  pub arrays : SomeArrays
  pub dumps : SomeDumps
  pub listings : SomeListings

some_array : SomeArrays → (size : ℕ) (h : Classes) (name : List ℕ) (n : ℕ) → IsHierarchy h → IsThere (class_names h) name → (answer : Answer) × IsArrayReply size h name n answer
some_array law size h name n keeps (there_at i at) =
    let laid = some_layout h keeps in
    let is = law h (places_of h laid.0) (class_by_number i) n keeps (named_below h i name at) in
    (array_answer is.0, elements_of (class_by_number i) laid.0 is.0 at laid.1 is.1)
some_array law size h name n keeps (nowhere none) = (line_alone (Refused UnknownName size), no_element_class (λ has. let place = place_of (class_names h) name has in none place.0 place.1))

some_member : (size : ℕ) (h : Classes) (named : QualifiedMember) → IsHierarchy h → IsThere (class_names h) named.class → IsThere (class_names h) named.whole → (answer : Answer) × IsMemberReply size h named answer
some_member size h named keeps (there_at i at) (there_at j of) =
    let laid = some_layout h keeps in
    (member_answer (answer_of h (places_of h laid.0) (class_by_number i) named.member (class_by_number j)), member_of (class_by_number i) (class_by_number j) laid.0 at of laid.1)
some_member size h named keeps (there_at i at) (nowhere none) =
    (line_alone (Refused UnknownName size), no_whole (λ has. let place = place_of (class_names h) named.whole has in none place.0 place.1))
some_member size h named keeps (nowhere none) there =
    (line_alone (Refused UnknownName size), no_class (λ has. let place = place_of (class_names h) named.class has in none place.0 place.1))

-- what is said of a dump
some_dump : SomeDumps → (dump : List ℕ) (h : Classes) → IsHierarchy h → MeetsNoFault h → AreNamesWords h → (answer : Answer) × IsDumpReply dump h answer
some_dump law dump h keeps fine words =
    let laid = some_layout h keeps in
    dump_replied dump h laid.0 laid.1 (law h laid.0 dump (record { keeps = keeps; words = words; sound = sound_rows h laid.0 keeps fine laid.1 }))

-- what is known where a command has an answer to an accepted source
record IsReadyFor (h : Classes) (typed : TypedProgram) (source : SourceText) : Type 0 where
  keeps : IsHierarchy h
  fine : MeetsNoFault h
  words : AreNamesWords h
  typed_is : IsTypedProgram h typed
  main : is_body typed.main ≡ is_some source.main

-- `foreign` has an answer where there is a `main`
foreign_by : SomeLaws → NeverWrong → (front : List ℕ) (size : ℕ) (source : SourceText) (h : Classes) (typed : TypedProgram) (steps : ℕ) (tree : BodyTree) → IsReadyFor h typed source → source.main ≡ Some tree →
    HasVerdict h front → (answer : Answer) × Yields front size source h typed (Foreign steps) answer
foreign_by law right front size source h typed steps tree ready main (is_sound rows is) =
    ⊎_elim
    (λ many. (line_alone (Limit L7), no_layout steps tree (line_alone (Limit L7)) main (many_words rows is many)))
    (λ few. yields_runs right front size source h rows typed (Foreign steps) steps false source.main (by_foreign steps) ready.keeps (no_meaning h ready.fine) (is, few) ready.typed_is ready.main refl)
    (cases_lt most_words (words_of_all_classes h (places_of h rows)))
foreign_by law right front size source h typed steps tree ready main (is_unsound rule line is) =
    let answer = line_alone (BadInput (listing_rule rule) line) in (answer, no_layout steps tree answer main (refused_listing rule line is))

some_foreign : SomeLaws → NeverWrong → (front : List ℕ) (size : ℕ) (source : SourceText) (h : Classes) (typed : TypedProgram) (steps : ℕ) (main : Option BodyTree) → IsReadyFor h typed source → source.main ≡ main →
    (answer : Answer) × Yields front size source h typed (Foreign steps) answer
some_foreign law right front size source h typed steps None ready main = (line_alone (Refused UnknownName size), no_main (Foreign steps) steps false (by_foreign steps) main)
some_foreign law right front size source h typed steps (Some tree) ready main = foreign_by law right front size source h typed steps tree ready main (law.listings h front ready.keeps)

-- a command that runs `main` over the layout of the rules has an answer
some_run : NeverWrong → (front : List ℕ) (size : ℕ) (source : SourceText) (h : Classes) (typed : TypedProgram) (command : Command) (steps : ℕ) (trace : Bool) → RunsMain command steps trace → IsReadyFor h typed source →
    ((rows : List ClassLayout) → IsLaid h rows → IsLayoutOf command front h rows) → (answer : Answer) × Yields front size source h typed command answer
some_run right front size source h typed command steps trace does ready laid_by =
    let laid = some_layout h ready.keeps in
    yields_runs right front size source h laid.0 typed command steps trace source.main does ready.keeps (no_meaning h ready.fine) (laid_by laid.0 laid.1) ready.typed_is ready.main refl

-- a command has an answer to an accepted source
some_yield : SomeLaws → NeverWrong → (front : List ℕ) (size : ℕ) (source : SourceText) (h : Classes) (typed : TypedProgram) (command : Command) → IsReadyFor h typed source → (answer : Answer) × Yields front size source h typed command answer
some_yield law right front size source h typed Check ready = (count_answer h, counted)
some_yield law right front size source h typed (Run steps trace) ready = some_run right front size source h typed (Run steps trace) steps trace (by_run steps trace) ready (λ rows laid. laid)
some_yield law right front size source h typed Layout ready = yields_list law.tables front size source h typed Layout OfLayout (first_classes (length h)) ready.keeps ready.fine all_layouts
some_yield law right front size source h typed (LayoutOf name) ready = yields_named law.tables front size source h typed (LayoutOf name) OfLayout name ready.keeps ready.fine (named_layout name) (one_layout name) (some_place (class_names h) name)
some_yield law right front size source h typed Tables ready = yields_list law.tables front size source h typed Tables OfTables (first_classes (length h)) ready.keeps ready.fine all_tables
some_yield law right front size source h typed (TablesOf name) ready = yields_named law.tables front size source h typed (TablesOf name) OfTables name ready.keeps ready.fine (named_tables name) (one_tables name) (some_place (class_names h) name)
some_yield law right front size source h typed (Paths steps) ready = some_run right front size source h typed (Paths steps) steps false (by_paths steps) ready (λ rows laid. laid)
some_yield law right front size source h typed (Gen n) ready = some_run right front size source h typed (Gen n) most_steps false (by_gen n) ready (λ rows laid. laid)
some_yield law right front size source h typed (Array name n) ready = let a = some_array law.arrays size h name n ready.keeps (some_place (class_names h) name) in (a.0, arrayed name n a.0 a.1)
some_yield law right front size source h typed (MemberPointer named) ready =
    let a = some_member size h named ready.keeps (some_place (class_names h) named.class) (some_place (class_names h) named.whole) in (a.0, pointed named a.0 a.1)
some_yield law right front size source h typed Inspect ready = let a = some_dump law.dumps front h ready.keeps ready.fine ready.words in (a.0, inspected a.0 a.1)
some_yield law right front size source h typed (Foreign steps) ready = some_foreign law right front size source h typed steps source.main ready refl

some_judged : SomeLaws → ProgramsAreTyped → NeverWrong → (c : Command) (front text : List ℕ) → (judgement : Judgement) → Verdict text judgement → (answer : Answer) × Judged c front text answer
some_judged law typing right c front text (Stops stop) verdict = (line_alone (status_of_stop stop), is_stopped stop verdict)
some_judged law typing right c front text (Accepts source h typed) verdict =
    let ready : IsReadyFor h typed source = record {
      keeps = accepted_keeps text source h typed verdict;
      fine = accepted_fine text source h typed verdict;
      words = accepted_names text source h typed verdict;
      typed_is = accepted_typed typing text source h typed verdict;
      main = accepted_main typing text source h typed verdict;
    } in
    let yields = some_yield law right front (length text) source h typed c ready in
    (yields.0, is_yielded source h typed yields.0 verdict yields.1)

some_parted : SomeLaws → ProgramsAreTyped → NeverWrong → (c : Command) (input : List ℕ) (parts : Option (List ℕ × List ℕ)) → length input ≤ source_limit → divided_input c input ≡ parts → (answer : Answer) × Parted c input parts answer
some_parted law typing right c input None short are = (line_alone (BadInput (undivided_rule c) (suc (line_count input))), refl)
some_parted law typing right c input (Some p) short are =
    let within = parts_short c input p.0 p.1 are in
    let text = p.1 in
    let judged = some_verdict text (omega (arith, within, short)) in
    some_judged law typing right c p.0 text judged.0 judged.1

-- words and bytes have an answer
pub some_output : SomeLaws → ProgramsAreTyped → NeverWrong → (words : List (List ℕ)) (bytes : List ℕ) → (answer : Answer) × Output words bytes answer
some_output law typing right words bytes =
    ⊎_elim
    (λ command. let c = command.0 in
    let input = input_of c bytes in
    ⊎_elim (λ long. (line_alone (Limit L1), too_long c command.1 long))
    (λ short. let parted = some_parted law typing right c input (divided_input c input) short refl in
    (parted.0, parted_output words bytes c (divided_input c input) parted.0 command.1 short refl parted.1))
    (cases_lt source_limit (length input)))
    (λ none. (line_alone Usage, usage none))
    (some_command words)
