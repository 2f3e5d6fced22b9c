-- What the parts of the answer yield.
use Rattle.std.proofs.Common.{◌≡◌, ℕ, suc, ◌≤◌, ◌⊎◌, ⊎_elim, Bool, true, false, not, Option, Some, None, Result, Ok, Err, List, [], ◌∷◌, length, refl, sym, ◌∙◌, ap, subst}
use Rattle.std.specs.Prelude.{IfOk, slice_get, nat_le, if◌then◌else◌}
use Rattle.std.specs.Option.{is_some}
use Rattle.foundation.specs.declared.memory.NoMemory.{NoMemory as Want}
use Rattle.foundation.specs.Limits.{source_limit}
use Rattle.cxx_hierarchy.specs.declared.records.ClassId.{ClassId}
use Rattle.cxx_hierarchy.specs.declared.stop.Stop.{Stop}
use Rattle.cxx_hierarchy.specs.declared.stop.Stop.TheVariants as stop
use Rattle.cxx_hierarchy.specs.Classes.{Classes, class_names}
use Rattle.cxx_syntax.specs.declared.tree.BodyTree.{BodyTree}
use Rattle.cxx_syntax.specs.declared.source_text.SourceText.{SourceText}
use Rattle.cxx_program.specs.declared.program.TypedProgram.{TypedProgram}
use Rattle.foundation.proofs.Truth.{split}
use Rattle.cxx_hierarchy.specs.declared.stop.LimitNo.TheVariants.{L9}
use Rattle.abi_sound.specs.Places.{places_of}
use Rattle.abi_cookie.specs.declared.answers.ArrayAnswer.{ArrayAnswer}
use Rattle.abi_cookie.specs.declared.answers.ArrayAnswer.TheVariants.{Abstract, TooLarge, Text}
use Rattle.abi_memptr.specs.Pointers.{MemberOutcome, refused, given as given_text}
use Rattle.abi_memptr.specs.Answers.{answer_of as answer_of_member}
use Rattle.cxxabi_words.specs.declared.command.QualifiedMember.{QualifiedMember}
use Rattle.cxxabi_words.specs.declared.command.Command.{Command}
use Rattle.cxxabi_cmd.specs.declared.status.Status.TheVariants.{Limit, BadInput}
use Rattle.cxxabi_cmd.specs.declared.status.InputRule.{InputRule}
use Rattle.cxxabi_input.specs.Division.{line_count}
use Rattle.abi_sound.specs.declared.class_layout.ClassLayout.{ClassLayout}
use Rattle.abi_inspect.specs.Sayings.{seen_text}
use Rattle.cxxabi_cmd.specs.Divided.{IsLayoutOf, IsDumpReply, dump_says, names_no_class, no_dump, IsListingReply, refused_listing, many_words, undivided_rule}
use Rattle.cxxabi_cmd.specs.Answers.{IsArrayReply, no_element_class, elements_of, array_answer, IsMemberReply, no_class, no_whole, member_of, member_answer, limited_answer}
use Rattle.cxxabi_words.specs.Commands.{Says}
use Rattle.cxxabi_words.proofs.CommandLaws.{one_command}
use Rattle.cxxabi_cmd.specs.declared.reply.Reply.{Reply}
use Rattle.cxxabi_cmd.specs.Commands.{IsOnBytes, RunsMain, input_of, divided_input}
use Rattle.cxxabi_cmd.specs.Verdict.{Verdict, Stops, Accepts}
use Rattle.cxxabi_cmd.specs.Handed.{SeenMachine, HandsOut, RunsSource}
use Rattle.text_told.specs.Told.{text_limit}
use Rattle.cxxabi_cmd.specs.Output.{Answer, AsksFor, AsksForName, Output, undivided, stopped, yielded, Yields, counted, no_main, ran, unknown_class, listed, arrayed, pointed, inspected, no_layout, Lists, whole, too_much, text_answer, IsAnswerWritten, line_alone, status_of_stop}
use Rattle.cxxabi_cmd.specs.declared.listing.Listing.{Listing}
use Rattle.cxxabi_cmd.specs.invariants.Listings.{ListsName, is_unknown, is_class}
use Rattle.cxxabi_cmd.specs.invariants.Replies.{as_answer, machine_of, HandsBy}
use Rattle.cxxabi_cmd.proofs.RunAnswers.{run_answered}
use Rattle.cxxabi_cmd.proofs.SameMains.{HasTree, main_there}
use Rattle.cxxabi_cmd.proofs.OneVerdict.{one_verdict}
use Rattle.cxxabi_cmd.proofs.SourceLemmas.{some_parts, parts_are}

-- the listing of all classes, and of the class of a name
pub yields_all : (r : Result Reply Want) (front : List ℕ) (size : ℕ) (source : SourceText) (h : Classes) (typed : TypedProgram) (command : Command) (listing : Listing) (classes : List ClassId) → AsksFor h command listing classes → IfOk r (λ reply. Lists h listing classes (as_answer reply)) →
    IfOk r (λ reply. Yields front size source h typed command (as_answer reply))
yields_all (Ok reply) front size source h typed command listing classes asks is = listed command listing classes (as_answer reply) asks is
yields_all (Err w) front size source h typed command listing classes asks is = tt

yields_name : (front : List ℕ) (size : ℕ) (source : SourceText) (h : Classes) (typed : TypedProgram) (command : Command) (listing : Listing) (name : List ℕ) (a : Answer) → AsksForName command name → ((c : ClassId) → slice_get (class_names h) c.0 ≡ Some name → AsksFor h command listing (c ∷ [])) →
    ListsName size h listing name a → Yields front size source h typed command a
yields_name front size source h typed command listing name _ names asks (is_unknown none) = unknown_class command name names none
yields_name front size source h typed command listing name _ names asks (is_class c a at lists) = listed command listing (c ∷ []) a (asks c at) lists

pub yields_one : (r : Result Reply Want) (front : List ℕ) (size : ℕ) (source : SourceText) (h : Classes) (typed : TypedProgram) (command : Command) (listing : Listing) (name : List ℕ) → AsksForName command name → ((c : ClassId) → slice_get (class_names h) c.0 ≡ Some name → AsksFor h command listing (c ∷ [])) →
    IfOk r (λ reply. ListsName size h listing name (as_answer reply)) → IfOk r (λ reply. Yields front size source h typed command (as_answer reply))
yields_one (Ok reply) front size source h typed command listing name names asks is = yields_name front size source h typed command listing name (as_answer reply) names asks is
yields_one (Err w) front size source h typed command listing name names asks is = tt

-- a main that is not there, and one that is
pub is_missing : (m : Option BodyTree) (b : Bool) → is_some m ≡ not b → b ≡ true → m ≡ None
is_missing None b is on = refl
is_missing (Some tree) b is on = absurd (let clash : true ≡ false = is ∙ ap not on in cc)

pub is_there : (m : Option BodyTree) (b : Bool) → is_some m ≡ not b → b ≡ false → HasTree m
is_there None b is off = absurd (let clash : false ≡ true = is ∙ ap not off in cc)
is_there (Some tree) b is off = record { tree = tree; is = refl }

-- an answer to an accepted source is an answer
lists_answered : (h : Classes) (listing : Listing) (classes : List ClassId) (a : Answer) → Lists h listing classes a → IsAnswerWritten a.status
lists_answered h listing classes _ (whole rows text laid are short) = tt
lists_answered h listing classes _ (too_much rows text laid are long) = tt

limited_answered : (text : List ℕ) → IsAnswerWritten (limited_answer text).status
limited_answered text = split (nat_le (length text) text_limit) (λ b. IsAnswerWritten (if b then text_answer text else line_alone (Limit L9)).status) (λ short. tt) (λ long. tt)

array_answered : (answer : ArrayAnswer) → IsAnswerWritten (array_answer answer).status
array_answered Abstract = tt
array_answered TooLarge = tt
array_answered (Text text) = limited_answered text

array_replied : (size : ℕ) (h : Classes) (name : List ℕ) (n : ℕ) (a : Answer) → IsArrayReply size h name n a → IsAnswerWritten a.status
array_replied size h name n _ (no_element_class none) = tt
array_replied size h name n _ (elements_of c rows answer at laid is) = array_answered answer

member_answered : (outcome : MemberOutcome (List ℕ)) → IsAnswerWritten (member_answer outcome).status
member_answered (refused rule) = tt
member_answered (given_text text) = limited_answered text

member_replied : (size : ℕ) (h : Classes) (named : QualifiedMember) (a : Answer) → IsMemberReply size h named a → IsAnswerWritten a.status
member_replied size h named _ (no_class none) = tt
member_replied size h named _ (no_whole none) = tt
member_replied size h named _ (member_of k d rows at of laid) = member_answered (answer_of_member h (places_of h rows) k named.member d)

dump_replied : (dump : List ℕ) (h : Classes) (a : Answer) → IsDumpReply dump h a → IsAnswerWritten a.status
dump_replied dump h _ (dump_says rows seen laid is) = limited_answered (seen_text h (places_of h rows) seen)
dump_replied dump h _ (names_no_class unknown) = tt
dump_replied dump h _ (no_dump rows line laid is) = tt

listing_replied : (listing : List ℕ) (h : Classes) (a : Answer) → IsListingReply listing h a → IsAnswerWritten a.status
listing_replied listing h _ (refused_listing rule line stops) = tt
listing_replied listing h _ (many_words rows is many) = tt

yields_answered : (front : List ℕ) (size : ℕ) (source : SourceText) (h : Classes) (typed : TypedProgram) (command : Command) (a : Answer) → Yields front size source h typed command a → IsAnswerWritten a.status
yields_answered front size source h typed _ _ counted = tt
yields_answered front size source h typed _ _ (no_main command steps trace runs empty) = tt
yields_answered front size source h typed _ _ (ran command steps trace tree rows answer runs main laid is) = run_answered command h rows typed trace steps answer is
yields_answered front size source h typed _ _ (unknown_class command name names empty) = tt
yields_answered front size source h typed _ _ (listed command listing classes answer asks lists) = lists_answered h listing classes answer lists
yields_answered front size source h typed _ _ (arrayed name n answer is) = array_replied size h name n answer is
yields_answered front size source h typed _ _ (pointed named answer is) = member_replied size h named answer is
yields_answered front size source h typed _ _ (inspected answer is) = dump_replied front h answer is
yields_answered front size source h typed _ _ (no_layout steps tree answer main is) = listing_replied front h answer is

pub reply_answered : (r : Result Reply Want) (front : List ℕ) (size : ℕ) (source : SourceText) (h : Classes) (typed : TypedProgram) (command : Command) → IfOk r (λ reply. Yields front size source h typed command (as_answer reply)) → IfOk r (λ reply. IsAnswerWritten reply.status)
reply_answered (Ok reply) front size source h typed command is = yields_answered front size source h typed command (as_answer reply) is
reply_answered (Err w) front size source h typed command is = is

-- what is known of the input of an accepted source or of one that stops: its length, and its parts
pub record IsDivided (command : Command) (bytes front text : List ℕ) : Type 0 where
  pub short : length bytes ≤ source_limit
  pub parts : divided_input command bytes ≡ Some (front, text)

-- the output for an accepted source
pub accepted_output : (r : Result Reply Want) (bytes front text : List ℕ) (source : SourceText) (h : Classes) (typed : TypedProgram) (command : Command) → IfOk r (λ reply. Yields front (length text) source h typed command (as_answer reply)) → IsDivided command bytes front text →
    Verdict text (Accepts source h typed) → IfOk r (λ reply. (words : List (List ℕ)) (given : List ℕ) → Says words command → bytes ≡ input_of command given → Output words given (as_answer reply))
accepted_output (Ok reply) bytes front text source h typed command is divided verdict =
    λ words given says treats.
    let d = subst (λ (b : List ℕ). IsDivided command b front text) treats divided in
    yielded command front text source h typed (as_answer reply) says d.short d.parts verdict is
accepted_output (Err w) bytes front text source h typed command is divided verdict = is

-- the parts of a run are those of the input
same_parts : {command : Command} {input front text : List ℕ} {h : Classes} {rows : List ClassLayout} {program : TypedProgram} (is : RunsSource command input h rows program) → divided_input command input ≡ Some (front, text) → (is.front ≡ front) × (is.text ≡ text)
same_parts {front = front} {text = text} is parts = parts_are is.front is.text front text (sym is.parts ∙ parts)

-- the machine for an accepted source
hands : (words : List (List ℕ)) (given front text : List ℕ) (source : SourceText) (h : Classes) (typed : TypedProgram) (command : Command) (m : Option SeenMachine) → HandsBy command front source h typed m → IsDivided command (input_of command given) front text → Verdict text (Accepts source h typed) → Says words command →
    HandsOut words given m
hands words given front text source h typed command None nothing divided verdict says = λ k rows program trace steps has.
    let one : has.command ≡ command = one_command words has.command command has.asked says in
    let is : RunsSource command (input_of command given) k rows program = subst (λ (c : Command). RunsSource c (input_of c given) k rows program) one has.is_run in
    let parts = same_parts is divided.parts in
    let same = one_verdict text (Accepts source h typed) (Accepts is.source k program) verdict (subst (λ (t : List ℕ). Verdict t (Accepts is.source k program)) parts.1 is.accepted) in
    let there = main_there source.main is.source.main is.tree same.0.main is.main in
    let over : IsLayoutOf command front k rows = subst (λ (f : List ℕ). IsLayoutOf command f k rows) parts.0 is.laid in
    nothing trace steps there.tree rows (subst (λ (c : Command). RunsMain c steps trace) one has.runs) (subst IsOnBytes one has.on_bytes) there.is (subst (λ (k' : Classes). IsLayoutOf command front k' rows) (sym same.1) over)
hands words given front text source h typed command (Some m) run divided verdict says = record {
  h = h;
  rows = run.rows;
  program = typed;
  trace = run.trace;
  steps = run.steps;
  has_run = record {
    command = command;
    asked = says;
    runs = run.runs;
    on_bytes = run.on_bytes;
    short = divided.short;
    is_run = record { front = front; text = text; parts = divided.parts; source = source; accepted = verdict; tree = run.tree; main = run.main; laid = run.laid };
  };
  is_machine = run.is_machine;
}

pub accepted_machine : (r : Result Reply Want) (bytes front text : List ℕ) (source : SourceText) (h : Classes) (typed : TypedProgram) (command : Command) → IfOk r (λ reply. HandsBy command front source h typed (machine_of reply)) → IsDivided command bytes front text → Verdict text (Accepts source h typed) →
    IfOk r (λ reply. (words : List (List ℕ)) (given : List ℕ) → Says words command → bytes ≡ input_of command given → HandsOut words given (machine_of reply))
accepted_machine (Ok reply) bytes front text source h typed command is divided verdict =
    λ words given says treats. hands words given front text source h typed command (machine_of reply) is (subst (λ (b : List ℕ). IsDivided command b front text) treats divided) verdict says
accepted_machine (Err w) bytes front text source h typed command is divided verdict = is

-- the output for a source that stops
abbrev pub IsStopped : Stop → Reply → Type 0
IsStopped s reply = (s ≡ stop.NoMemory → ⊥) × (as_answer reply ≡ line_alone (status_of_stop s))

pub stopped_output : (r : Result Reply Want) (bytes front text : List ℕ) (command : Command) (s : Stop) → IfOk r (λ reply. IsStopped s reply) → (s ≡ stop.NoMemory) ⊎ Verdict text (Stops s) → IsDivided command bytes front text →
    IfOk r (λ reply. (words : List (List ℕ)) (given : List ℕ) → Says words command → bytes ≡ input_of command given → Output words given (as_answer reply))
stopped_output (Ok reply) bytes front text command s is either divided =
    ⊎_elim (λ memory. absurd (is.0 memory))
    (λ verdict. λ words given says treats.
    let d = subst (λ (b : List ℕ). IsDivided command b front text) treats divided in
    subst (λ (a : Answer). Output words given a) (sym is.1) (stopped command front text s says d.short d.parts verdict)) either
stopped_output (Err w) bytes front text command s is either divided = is

stopped_hands : (words : List (List ℕ)) (given front text : List ℕ) (command : Command) (s : Stop) (m : Option SeenMachine) → m ≡ None → Says words command → divided_input command (input_of command given) ≡ Some (front, text) → Verdict text (Stops s) → HandsOut words given m
stopped_hands words given front text command s m same says parts verdict =
    subst (λ (n : Option SeenMachine). HandsOut words given n) (sym same)
    (λ h rows program trace steps has.
    let one : has.command ≡ command = one_command words has.command command has.asked says in
    let is : RunsSource command (input_of command given) h rows program = subst (λ (c : Command). RunsSource c (input_of c given) h rows program) one has.is_run in
    let text_is = (same_parts is parts).1 in
    one_verdict text (Stops s) (Accepts is.source h program) verdict (subst (λ (t : List ℕ). Verdict t (Accepts is.source h program)) text_is is.accepted))

pub stopped_machine : (r : Result Reply Want) (bytes front text : List ℕ) (command : Command) (s : Stop) → IfOk r (λ reply. IsStopped s reply) → IfOk r (λ reply. machine_of reply ≡ None) → (s ≡ stop.NoMemory) ⊎ Verdict text (Stops s) → IsDivided command bytes front text →
    IfOk r (λ reply. (words : List (List ℕ)) (given : List ℕ) → Says words command → bytes ≡ input_of command given → HandsOut words given (machine_of reply))
stopped_machine (Ok reply) bytes front text command s is same either divided =
    ⊎_elim (λ memory. absurd (is.0 memory))
    (λ verdict. λ words given says treats. stopped_hands words given front text command s (machine_of reply) same says (subst (λ (b : List ℕ). IsDivided command b front text) treats divided).parts verdict) either
stopped_machine (Err w) bytes front text command s is same either divided = is

-- the output for an input that no line divides
pub undivided_output : (r : Result Reply Want) (bytes : List ℕ) (command : Command) (rule : InputRule) (line : ℕ) → IfOk r (λ reply. as_answer reply ≡ line_alone (BadInput rule line)) → rule ≡ undivided_rule command → line ≡ suc (line_count bytes) → divided_input command bytes ≡ None → length bytes ≤ source_limit →
    IfOk r (λ reply. (words : List (List ℕ)) (given : List ℕ) → Says words command → bytes ≡ input_of command given → Output words given (as_answer reply))
undivided_output (Ok reply) bytes command rule line is rule_is line_is none short =
    λ words given says treats.
    let same : as_answer reply ≡ line_alone (BadInput (undivided_rule command) (suc (line_count (input_of command given)))) =
    is ∙ (ap (λ (x : InputRule). line_alone (BadInput x line)) rule_is ∙ (ap (λ (n : ℕ). line_alone (BadInput (undivided_rule command) n)) line_is ∙ ap (λ (b : List ℕ). line_alone (BadInput (undivided_rule command) (suc (line_count b)))) treats)) in
    subst (λ (a : Answer). Output words given a) (sym same)
    (undivided command says (subst (λ (b : List ℕ). length b ≤ source_limit) treats short) (subst (λ (b : List ℕ). divided_input command b ≡ None) treats none))
undivided_output (Err w) bytes command rule line is rule_is line_is none short = is

undivided_hands : (words : List (List ℕ)) (given : List ℕ) (command : Command) (m : Option SeenMachine) → m ≡ None → Says words command → divided_input command (input_of command given) ≡ None → HandsOut words given m
undivided_hands words given command m same says none =
    subst (λ (n : Option SeenMachine). HandsOut words given n) (sym same)
    (λ h rows program trace steps has.
    let one : has.command ≡ command = one_command words has.command command has.asked says in
    let is : RunsSource command (input_of command given) h rows program = subst (λ (c : Command). RunsSource c (input_of c given) h rows program) one has.is_run in
    let clash : None ≡ some_parts is.front is.text = sym none ∙ is.parts in cc)

pub undivided_machine : (r : Result Reply Want) (bytes : List ℕ) (command : Command) → IfOk r (λ reply. machine_of reply ≡ None) → divided_input command bytes ≡ None →
    IfOk r (λ reply. (words : List (List ℕ)) (given : List ℕ) → Says words command → bytes ≡ input_of command given → HandsOut words given (machine_of reply))
undivided_machine (Ok reply) bytes command same none =
    λ words given says treats. undivided_hands words given command (machine_of reply) same says (subst (λ (b : List ℕ). divided_input command b ≡ None) treats none)
undivided_machine (Err w) bytes command same none = same

pub undivided_answered : (r : Result Reply Want) (rule : InputRule) (line : ℕ) → IfOk r (λ reply. as_answer reply ≡ line_alone (BadInput rule line)) → IfOk r (λ reply. IsAnswerWritten reply.status)
undivided_answered (Ok reply) rule line is = let same : reply.status ≡ BadInput rule line = ap (λ (a : Answer). a.status) is in subst IsAnswerWritten (sym same) tt
undivided_answered (Err w) rule line is = is

stop_answered : (s : Stop) → (s ≡ stop.NoMemory → ⊥) → IsAnswerWritten (status_of_stop s)
stop_answered (stop.Refused rule at) never = tt
stop_answered (stop.Limit limit) never = tt
stop_answered stop.NoMemory never = absurd (never refl)

pub stopped_answered : (r : Result Reply Want) (s : Stop) → IfOk r (λ reply. IsStopped s reply) → IfOk r (λ reply. IsAnswerWritten reply.status)
stopped_answered (Ok reply) s is = let same : reply.status ≡ status_of_stop s = ap (λ (a : Answer). a.status) is.1 in subst IsAnswerWritten (sym same) (stop_answered s is.0)
stopped_answered (Err w) s is = is
