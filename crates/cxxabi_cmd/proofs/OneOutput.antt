-- Words and bytes have one output.
use Rattle.std.proofs.Common.{◌≡◌, ℕ, ◌<◌, ◌≤◌, zero, suc, Bool, false, List, [], ◌∷◌, refl, sym, ◌∙◌, ap, subst, arith, length, Option, None}
use Rattle.std.specs.Prelude.{slice_get, Some, Contains}
use Rattle.cxx_hierarchy.specs.declared.records.ClassId.{ClassId}
use Rattle.cxx_hierarchy.specs.declared.stop.Stop.{Stop}
use Rattle.cxx_hierarchy.specs.declared.stop.Rule.TheVariants.{UnknownName}
use Rattle.cxx_hierarchy.specs.Classes.{Class, Classes, class_names}
use Rattle.cxx_hierarchy.specs.Hierarchies.{IsHierarchy}
use Rattle.cxx_syntax.specs.declared.tree.BodyTree.{BodyTree}
use Rattle.cxx_syntax.specs.declared.source_text.SourceText.{SourceText}
use Rattle.cxx_syntax.specs.SameSources.{SameSource}
use Rattle.cxx_program.specs.declared.program.TypedProgram.{TypedProgram}
use Rattle.abi_sound.specs.declared.class_layout.ClassLayout.{ClassLayout}
use Rattle.abi_sound.specs.Places.{Places, places_of}
use Rattle.abi_layout.specs.Layouts.{IsLaid}
use Rattle.abi_cookie.specs.declared.answers.ArrayAnswer.{ArrayAnswer}
use Rattle.abi_cookie.specs.Answers.{IsArrayAnswer}
use Rattle.abi_memptr.specs.Answers.{answer_of}
use Rattle.cxxabi_words.specs.declared.command.QualifiedMember.{QualifiedMember}
use Rattle.foundation.proofs.Places.{contains_at}
use Rattle.cxxabi_words.specs.declared.command.Command.{Command}
use Rattle.cxxabi_words.specs.declared.command.Command.TheVariants.{Check, Run, Layout, LayoutOf, Tables, TablesOf, Paths, Gen, Array, MemberPointer, Inspect, Foreign}
use Rattle.foundation.specs.Limits.{most_steps}
use Rattle.cxxabi_words.proofs.CommandLaws.{one_command}
use Rattle.cxxabi_cmd.specs.declared.listing.Listing.{Listing}
use Rattle.cxxabi_cmd.specs.declared.listing.Listing.TheVariants.{OfLayout, OfTables}
use Rattle.cxxabi_cmd.specs.Answers.{IsArrayReply, no_element_class, elements_of, array_answer, IsMemberReply, no_class, no_whole, member_of, member_answer}
use Rattle.cxxabi_cmd.specs.invariants.Listings.{ListsName, is_unknown, is_class}
use Rattle.cxxabi_cmd.specs.Commands.{RunsMain, by_run, by_paths, by_gen, by_foreign, input_of, divided_input}
use Rattle.cxxabi_cmd.specs.Divided.{IsLayoutOf, IsDumpReply, IsListingReply}
use Rattle.abi_inspect.specs.Faults.{AreNamesWords}
use Rattle.cxxabi_cmd.specs.Verdict.{Judgement, Verdict, Stops, Accepts, MeetsNoFault}
use Rattle.cxxabi_cmd.specs.declared.status.Status.TheVariants.{Refused}
use Rattle.cxxabi_cmd.specs.Output.{Output, Yields, counted, no_main, ran, IsRunAnswer, unknown_class, listed, Lists, whole, too_much, AsksFor, all_layouts, one_layout, all_tables, one_tables, AsksForName, named_layout, named_tables, AreTexts, Answer, arrayed, pointed, first_classes, line_alone, text_answer, count_answer, status_of_stop, inspected, no_layout}
use Rattle.cxxabi_cmd.proofs.OneVerdict.{one_verdict}
use Rattle.cxxabi_cmd.proofs.SameMains.{main_missing_left, main_missing_right}
use Rattle.cxxabi_cmd.proofs.Accepting.{accepted_keeps, accepted_fine, accepted_names}
use Rattle.cxxabi_cmd.proofs.Asking.{Judged, is_stopped, is_yielded, Parted, Told, is_long, is_short, Asked, is_usage, is_told, asked_by}
use Rattle.cxxabi_cmd.proofs.DividedReplies.{OneDumps, dump_same, OneListings, no_reply, listing_same}
use Rattle.cxxabi_cmd.proofs.LaidRows.{laid_is_one, sound_rows}
use Rattle.cxxabi_cmd.proofs.RunAnswers.{one_answer}
use Rattle.cxxabi_cmd.proofs.Listed.{OneTables, AreKnown, first_known, named_below, one_texts}

-- the class of a name
record IsNamed (h : Classes) (n : ℕ) (name : List ℕ) : Type 0 where
  class : Class
  there : slice_get h n ≡ Some class
  named : class.name ≡ name

named_class : (h : Classes) (n : ℕ) (name : List ℕ) → slice_get (class_names h) n ≡ Some name → IsNamed h n name
named_class [] n name at = absurd (cc)
named_class (class ∷ h) zero name at = record { class = class; there = refl; named = cc }
named_class (class ∷ h) (suc n) name at = let rest = named_class h n name at in record { class = rest.class; there = rest.there; named = rest.named }

-- what a command answers that runs `main`
data Runs (front : List ℕ) (size : ℕ) (t : SourceText) (h : Classes) (typed : TypedProgram) (c : Command) (steps : ℕ) (trace : Bool) : Answer → Type 0 where
  is_missing : t.main ≡ None → Runs front size t h typed c steps trace (line_alone (Refused UnknownName size))
  is_ended : (tree : BodyTree) (rows : List ClassLayout) (answer : Answer) → t.main ≡ Some tree → IsLayoutOf c front h rows → IsRunAnswer c h rows typed trace steps answer → Runs front size t h typed c steps trace answer

-- the command treats one layout
abbrev OneLayout : Command → List ℕ → Classes → Type 0
OneLayout c front h = (rows others : List ClassLayout) → IsLayoutOf c front h rows → IsLayoutOf c front h others → rows ≡ others

runs_same : (front : List ℕ) (size : ℕ) (s t : SourceText) (h : Classes) (typed : TypedProgram) (c : Command) (n : ℕ) (trace : Bool) (a b : Answer) → OneLayout c front h → SameSource s t → Runs front size s h typed c n trace a → Runs front size t h typed c n trace b → a ≡ b
runs_same front size s t h typed c n trace _ _ one same (is_missing none) (is_missing none') = refl
runs_same front size s t h typed c n trace _ _ one same (is_missing none) (is_ended tree rows b main laid is) = absurd (main_missing_left s.main t.main tree same.main none main)
runs_same front size s t h typed c n trace _ _ one same (is_ended tree rows a main laid is) (is_missing none) = absurd (main_missing_right s.main t.main tree same.main none main)
runs_same front size s t h typed c n trace _ _ one same (is_ended tree rows a main laid is) (is_ended tree' rows' b main' laid' is') =
    one_answer c h rows typed trace n a b is (subst (λ (r : List ClassLayout). IsRunAnswer c h r typed trace n b) (sym (one rows rows' laid laid')) is')

-- one list of classes is asked for
number_same : (a b : ClassId) → a.0 ≡ b.0 → a ≡ b
number_same a b same = ap (λ (n : ℕ). let c : ClassId = record { 0 = n } in c) same

named_once : (h : Classes) → IsHierarchy h → (c d : ClassId) (name : List ℕ) → slice_get (class_names h) c.0 ≡ Some name → slice_get (class_names h) d.0 ≡ Some name → c ≡ d
named_once h keeps c d name at other =
    let one = named_class h c.0 name at in
    let two = named_class h d.0 name other in
    number_same c d (keeps.names c d one.class two.class one.there two.there (one.named ∙ sym two.named))

-- over one layout classes have one text
texts_same : OneTables → (h : Classes) (listing : Listing) (classes : List ClassId) (rows others : List ClassLayout) (a b : List ℕ) → IsHierarchy h → MeetsNoFault h → AreKnown h classes → IsLaid h rows → IsLaid h others → AreTexts h rows listing classes a → AreTexts h others listing classes b → a ≡ b
texts_same law h listing classes rows others a b keeps fine known laid laid' are are' =
    one_texts law h rows listing classes a b keeps (sound_rows h rows keeps fine laid) known are
    (subst (λ (r : List ClassLayout). AreTexts h r listing classes b) (sym (laid_is_one h rows others keeps laid laid')) are')

no_both : (a b : List ℕ) → a ≡ b → length a ≤ 16777216 → 16777216 < length b → ⊥
no_both a b same short long = let size = ap (λ (t : List ℕ). length t) same in omega arith

lists_same : OneTables → (h : Classes) (listing : Listing) (classes : List ClassId) (a b : Answer) → IsHierarchy h → MeetsNoFault h → AreKnown h classes → Lists h listing classes a → Lists h listing classes b → a ≡ b
lists_same law h listing classes _ _ keeps fine known (whole rows text laid are short) (whole rows' text' laid' are' short') =
    ap (λ (t : List ℕ). text_answer t) (texts_same law h listing classes rows rows' text text' keeps fine known laid laid' are are')
lists_same law h listing classes _ _ keeps fine known (whole rows text laid are short) (too_much rows' text' laid' are' long) =
    absurd (no_both text text' (texts_same law h listing classes rows rows' text text' keeps fine known laid laid' are are') short long)
lists_same law h listing classes _ _ keeps fine known (too_much rows text laid are long) (whole rows' text' laid' are' short) =
    absurd (no_both text' text (texts_same law h listing classes rows' rows text' text keeps fine known laid' laid are' are) short long)
lists_same law h listing classes _ _ keeps fine known (too_much rows text laid are long) (too_much rows' text' laid' are' long') = refl

-- a class that has a name, and none that has it
no_such : (h : Classes) (c : ClassId) (name : List ℕ) → slice_get (class_names h) c.0 ≡ Some name → (Contains (class_names h) name → ⊥) → ⊥
no_such h c name at none = none (contains_at (class_names h) c.0 name at)

name_same : OneTables → (size : ℕ) (h : Classes) (listing : Listing) (name : List ℕ) (a b : Answer) → IsHierarchy h → MeetsNoFault h → ListsName size h listing name a → ListsName size h listing name b → a ≡ b
name_same law size h listing name _ _ keeps fine (is_unknown none) (is_unknown none') = refl
name_same law size h listing name _ _ keeps fine (is_unknown none) (is_class c b at lists) = absurd (no_such h c name at none)
name_same law size h listing name _ _ keeps fine (is_class c a at lists) (is_unknown none) = absurd (no_such h c name at none)
name_same law size h listing name _ _ keeps fine (is_class c a at lists) (is_class d b at' lists') =
    lists_same law h listing (c ∷ []) a b keeps fine (named_below h c.0 name at, tt) lists
    (subst (λ (x : ClassId). Lists h listing (x ∷ []) b) (sym (named_once h keeps c d name at at')) lists')

-- an array of the class of a name has one reply
abbrev pub OneArrays : Type 0
OneArrays = (h : Classes) (l : Places) (c : ClassId) (n : ℕ) (one other : ArrayAnswer) → IsArrayAnswer h l c n one → IsArrayAnswer h l c n other → one ≡ other

array_same : OneArrays → (size : ℕ) (h : Classes) (name : List ℕ) (n : ℕ) (a b : Answer) → IsHierarchy h → IsArrayReply size h name n a → IsArrayReply size h name n b → a ≡ b
array_same law size h name n _ _ keeps (no_element_class none) (no_element_class none') = refl
array_same law size h name n _ _ keeps (no_element_class none) (elements_of c rows x at laid is) = absurd (no_such h c name at none)
array_same law size h name n _ _ keeps (elements_of c rows x at laid is) (no_element_class none) = absurd (no_such h c name at none)
array_same law size h name n _ _ keeps (elements_of c rows x at laid is) (elements_of d rows' y at' laid' is') =
    let one = named_once h keeps c d name at at' in
    let layout = laid_is_one h rows rows' keeps laid laid' in
    ap array_answer
    (law h (places_of h rows) c n x y is
    (subst (λ (e : ClassId). IsArrayAnswer h (places_of h rows) e n y) (sym one) (subst (λ (r : List ClassLayout). IsArrayAnswer h (places_of h r) d n y) (sym layout) is')))

-- and so has a pointer to a member
member_same : (size : ℕ) (h : Classes) (named : QualifiedMember) (a b : Answer) → IsHierarchy h → IsMemberReply size h named a → IsMemberReply size h named b → a ≡ b
member_same size h named _ _ keeps (no_class none) (no_class none') = refl
member_same size h named _ _ keeps (no_class none) (no_whole none') = refl
member_same size h named _ _ keeps (no_class none) (member_of k d rows at of laid) = absurd (no_such h k named.class at none)
member_same size h named _ _ keeps (no_whole none) (no_class none') = refl
member_same size h named _ _ keeps (no_whole none) (no_whole none') = refl
member_same size h named _ _ keeps (no_whole none) (member_of k d rows at of laid) = absurd (no_such h d named.whole of none)
member_same size h named _ _ keeps (member_of k d rows at of laid) (no_class none) = absurd (no_such h k named.class at none)
member_same size h named _ _ keeps (member_of k d rows at of laid) (no_whole none) = absurd (no_such h d named.whole of none)
member_same size h named _ _ keeps (member_of k d rows at of laid) (member_of k' d' rows' at' of' laid') =
    ap (λ (e : ClassId). member_answer (answer_of h (places_of h rows) e named.member d)) (named_once h keeps k k' named.class at at')
    ∙ ap (λ (e : ClassId). member_answer (answer_of h (places_of h rows) k' named.member e)) (named_once h keeps d d' named.whole of of')
    ∙ ap (λ (r : List ClassLayout). member_answer (answer_of h (places_of h r) k' named.member d')) (laid_is_one h rows rows' keeps laid laid')

-- what `foreign` answers: to a run over the layout of its listing, or why there is none
data RunsForeign (front : List ℕ) (size : ℕ) (t : SourceText) (h : Classes) (typed : TypedProgram) (steps : ℕ) : Answer → Type 0 where
  is_run : (answer : Answer) → Runs front size t h typed (Foreign steps) steps false answer → RunsForeign front size t h typed steps answer
  is_refused : (tree : BodyTree) (answer : Answer) → t.main ≡ Some tree → IsListingReply front h answer → RunsForeign front size t h typed steps answer

-- a listing has a run or a reply
run_or_reply : OneListings → (front : List ℕ) (size : ℕ) (s t : SourceText) (h : Classes) (typed : TypedProgram) (steps : ℕ) (tree : BodyTree) (a b : Answer) → IsHierarchy h → SameSource s t →
    Runs front size s h typed (Foreign steps) steps false a → t.main ≡ Some tree → IsListingReply front h b → ⊥
run_or_reply law front size s t h typed steps tree _ b keeps same (is_missing none) main reply = main_missing_left s.main t.main tree same.main none main
run_or_reply law front size s t h typed steps tree a b keeps same (is_ended tree' rows _ main' laid is) main reply = no_reply law front h rows b keeps laid reply

reply_or_run : OneListings → (front : List ℕ) (size : ℕ) (s t : SourceText) (h : Classes) (typed : TypedProgram) (steps : ℕ) (tree : BodyTree) (a b : Answer) → IsHierarchy h → SameSource s t →
    s.main ≡ Some tree → IsListingReply front h a → Runs front size t h typed (Foreign steps) steps false b → ⊥
reply_or_run law front size s t h typed steps tree a _ keeps same main reply (is_missing none) = main_missing_right s.main t.main tree same.main none main
reply_or_run law front size s t h typed steps tree a b keeps same main reply (is_ended tree' rows _ main' laid is) = no_reply law front h rows a keeps laid reply

foreign_same : OneListings → (front : List ℕ) (size : ℕ) (s t : SourceText) (h : Classes) (typed : TypedProgram) (steps : ℕ) (a b : Answer) → IsHierarchy h → SameSource s t → RunsForeign front size s h typed steps a → RunsForeign front size t h typed steps b → a ≡ b
foreign_same law front size s t h typed steps _ _ keeps same (is_run a one) (is_run b other) =
    runs_same front size s t h typed (Foreign steps) steps false a b (λ rows others laid laid'. law.layout h front rows others keeps laid.0 laid'.0) same one other
foreign_same law front size s t h typed steps _ _ keeps same (is_run a one) (is_refused tree b main reply) = absurd (run_or_reply law front size s t h typed steps tree a b keeps same one main reply)
foreign_same law front size s t h typed steps _ _ keeps same (is_refused tree a main reply) (is_run b other) = absurd (reply_or_run law front size s t h typed steps tree a b keeps same main reply other)
foreign_same law front size s t h typed steps _ _ keeps same (is_refused tree a main reply) (is_refused tree' b main' reply') = listing_same law front h a b keeps reply reply'

-- what each command answers
abbrev Replies : List ℕ → ℕ → SourceText → Classes → TypedProgram → Command → Answer → Type 0
Replies front size t h typed Check a = count_answer h ≡ a
Replies front size t h typed (Run steps trace) a = Runs front size t h typed (Run steps trace) steps trace a
Replies front size t h typed Layout a = Lists h OfLayout (first_classes (length h)) a
Replies front size t h typed (LayoutOf name) a = ListsName size h OfLayout name a
Replies front size t h typed Tables a = Lists h OfTables (first_classes (length h)) a
Replies front size t h typed (TablesOf name) a = ListsName size h OfTables name a
Replies front size t h typed (Paths steps) a = Runs front size t h typed (Paths steps) steps false a
Replies front size t h typed (Gen n) a = Runs front size t h typed (Gen n) most_steps false a
Replies front size t h typed (Array name n) a = IsArrayReply size h name n a
Replies front size t h typed (MemberPointer named) a = IsMemberReply size h named a
Replies front size t h typed Inspect a = IsDumpReply front h a
Replies front size t h typed (Foreign steps) a = RunsForeign front size t h typed steps a

runs : (front : List ℕ) (size : ℕ) (t : SourceText) (h : Classes) (typed : TypedProgram) (c : Command) (steps : ℕ) (trace : Bool) (a : Answer) → RunsMain c steps trace → Runs front size t h typed c steps trace a → Replies front size t h typed c a
runs front size t h typed _ _ _ a (by_run steps trace) is = is
runs front size t h typed _ _ _ a (by_paths steps) is = is
runs front size t h typed _ _ _ a (by_gen n) is = is
runs front size t h typed _ _ _ a (by_foreign steps) is = is_run a is

lists : (front : List ℕ) (size : ℕ) (t : SourceText) (h : Classes) (typed : TypedProgram) (c : Command) (l : Listing) (xs : List ClassId) (a : Answer) → AsksFor h c l xs → Lists h l xs a → Replies front size t h typed c a
lists front size t h typed _ _ _ a all_layouts is = is
lists front size t h typed _ _ _ a (one_layout name c at) is = is_class c a at is
lists front size t h typed _ _ _ a all_tables is = is
lists front size t h typed _ _ _ a (one_tables name c at) is = is_class c a at is

names : (front : List ℕ) (size : ℕ) (t : SourceText) (h : Classes) (typed : TypedProgram) (c : Command) (name : List ℕ) → AsksForName c name → (Contains (class_names h) name → ⊥) → Replies front size t h typed c (line_alone (Refused UnknownName size))
names front size t h typed _ _ (named_layout name) none = is_unknown none
names front size t h typed _ _ (named_tables name) none = is_unknown none

replies : (front : List ℕ) (size : ℕ) (t : SourceText) (h : Classes) (typed : TypedProgram) (c : Command) (a : Answer) → Yields front size t h typed c a → Replies front size t h typed c a
replies front size t h typed _ _ counted = refl
replies front size t h typed _ _ (no_main command steps trace does none) = runs front size t h typed command steps trace _ does (is_missing none)
replies front size t h typed _ _ (ran command steps trace tree rows answer does main laid is) = runs front size t h typed command steps trace answer does (is_ended tree rows answer main laid is)
replies front size t h typed _ _ (unknown_class command name asks none) = names front size t h typed command name asks none
replies front size t h typed _ _ (listed command listing classes answer asks is) = lists front size t h typed command listing classes answer asks is
replies front size t h typed _ _ (arrayed name n answer is) = is
replies front size t h typed _ _ (pointed named answer is) = is
replies front size t h typed _ _ (inspected answer is) = is
replies front size t h typed _ _ (no_layout steps tree answer main is) = is_refused tree answer main is

-- the laws of the layers below: the tables of a class, an array of one, what a dump says, and the layout of a listing
pub record OneLaws : Type 0 where
  pub tables : OneTables
  pub arrays : OneArrays
  pub dumps : OneDumps
  pub listings : OneListings

-- each command has one
reply_same : OneLaws → (front : List ℕ) (size : ℕ) (s t : SourceText) (h : Classes) (typed : TypedProgram) (c : Command) (a b : Answer) → IsHierarchy h → MeetsNoFault h → AreNamesWords h → SameSource s t → Replies front size s h typed c a → Replies front size t h typed c b → a ≡ b
reply_same law front size s t h typed Check a b keeps fine words same one other = sym one ∙ other
reply_same law front size s t h typed (Run steps trace) a b keeps fine words same one other = runs_same front size s t h typed (Run steps trace) steps trace a b (λ rows others. laid_is_one h rows others keeps) same one other
reply_same law front size s t h typed Layout a b keeps fine words same one other = lists_same law.tables h OfLayout (first_classes (length h)) a b keeps fine (first_known h (length h) (omega arith)) one other
reply_same law front size s t h typed (LayoutOf name) a b keeps fine words same one other = name_same law.tables size h OfLayout name a b keeps fine one other
reply_same law front size s t h typed Tables a b keeps fine words same one other = lists_same law.tables h OfTables (first_classes (length h)) a b keeps fine (first_known h (length h) (omega arith)) one other
reply_same law front size s t h typed (TablesOf name) a b keeps fine words same one other = name_same law.tables size h OfTables name a b keeps fine one other
reply_same law front size s t h typed (Paths steps) a b keeps fine words same one other = runs_same front size s t h typed (Paths steps) steps false a b (λ rows others. laid_is_one h rows others keeps) same one other
reply_same law front size s t h typed (Gen n) a b keeps fine words same one other = runs_same front size s t h typed (Gen n) most_steps false a b (λ rows others. laid_is_one h rows others keeps) same one other
reply_same law front size s t h typed (Array name n) a b keeps fine words same one other = array_same law.arrays size h name n a b keeps one other
reply_same law front size s t h typed (MemberPointer named) a b keeps fine words same one other = member_same size h named a b keeps one other
reply_same law front size s t h typed Inspect a b keeps fine words same one other = dump_same law.dumps front h a b keeps fine words one other
reply_same law front size s t h typed (Foreign steps) a b keeps fine words same one other = foreign_same law.listings front size s t h typed steps a b keeps same one other

-- what a command answers to a source, behind a front
judged_same : OneLaws → (c : Command) (front text : List ℕ) (a b : Answer) → Judged c front text a → Judged c front text b → a ≡ b
judged_same law c front text _ _ (is_stopped d verdict) (is_stopped e verdict') = ap (λ (s : Stop). line_alone (status_of_stop s)) (one_verdict text (Stops d) (Stops e) verdict verdict')
judged_same law c front text _ _ (is_stopped d verdict) (is_yielded t k q b verdict' yields) = absurd (one_verdict text (Stops d) (Accepts t k q) verdict verdict')
judged_same law c front text _ _ (is_yielded s h p a verdict yields) (is_stopped e verdict') = absurd (one_verdict text (Accepts s h p) (Stops e) verdict verdict')
judged_same law c front text _ _ (is_yielded s h p a verdict yields) (is_yielded t k q b verdict' yields') =
    let same = one_verdict text (Accepts s h p) (Accepts t k q) verdict verdict' in
    let classes : Yields front (length text) t h q c b = subst (λ (x : Classes). Yields front (length text) t x q c b) (sym same.1) yields' in
    let programs : Yields front (length text) t h p c b = subst (λ (x : TypedProgram). Yields front (length text) t h x c b) (sym same.2) classes in
    reply_same law front (length text) s t h p c a b (accepted_keeps text s h p verdict) (accepted_fine text s h p verdict) (accepted_names text s h p verdict) same.0
    (replies front (length text) s h p c a yields) (replies front (length text) t h p c b programs)

parted_same : OneLaws → (c : Command) (input : List ℕ) (parts : Option (List ℕ × List ℕ)) (a b : Answer) → Parted c input parts a → Parted c input parts b → a ≡ b
parted_same law c input None a b one other = sym one ∙ other
parted_same law c input (Some parts) a b one other = judged_same law c parts.0 parts.1 a b one other

told_same : OneLaws → (c : Command) (input : List ℕ) (a b : Answer) → Told c input a → Told c input b → a ≡ b
told_same law c input _ _ (is_long long) (is_long long') = refl
told_same law c input _ _ (is_long long) (is_short b short is) = absurd (omega (arith, long, short))
told_same law c input _ _ (is_short a short is) (is_long long) = absurd (omega (arith, long, short))
told_same law c input _ _ (is_short a short is) (is_short b short' is') = parted_same law c input (divided_input c input) a b is is'

asked_same : OneLaws → (words : List (List ℕ)) (bytes : List ℕ) (a b : Answer) → Asked words bytes a → Asked words bytes b → a ≡ b
asked_same law words bytes _ _ (is_usage none) (is_usage none') = refl
asked_same law words bytes _ _ (is_usage none) (is_told c b says told) = absurd (none (c, says))
asked_same law words bytes _ _ (is_told c a says told) (is_usage none) = absurd (none (c, says))
asked_same law words bytes _ _ (is_told c a says told) (is_told d b says' told') =
    told_same law c (input_of c bytes) a b told (subst (λ (x : Command). Told x (input_of x bytes) b) (sym (one_command words c d says says')) told')

-- words and bytes have one answer
pub one_output : OneLaws → (words : List (List ℕ)) (bytes : List ℕ) (a b : Answer) → Output words bytes a → Output words bytes b → a ≡ b
one_output law words bytes a b one other = asked_same law words bytes a b (asked_by words bytes a one) (asked_by words bytes b other)
