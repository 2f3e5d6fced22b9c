-- Which text and which status belong to words and the bytes of an input.
use Rattle.std.specs.Prelude.{◌≡◌, ℕ, zero, suc, ◌<◌, ◌≤◌, Bool, Contains, slice_get, List, [], ◌∷◌, ◌++◌, length, map, codes, Option, Some, None, IfSome, string_bytes, String}
use Rattle.std.specs.Fmt.{decimal}
use Rattle.foundation.specs.Limits.{source_limit}
use Rattle.cxx_hierarchy.specs.declared.records.ClassId.{ClassId}
use Rattle.cxx_hierarchy.specs.declared.stop.Rule.TheVariants.{UnknownName}
use Rattle.cxx_hierarchy.specs.declared.stop.LimitNo.TheVariants.{L1, L9}
use Rattle.cxx_hierarchy.specs.declared.stop.Stop.{Stop}
use Rattle.cxx_hierarchy.specs.declared.stop.Stop.TheVariants as stop
use Rattle.cxx_hierarchy.specs.Classes.{Classes, class_names, class_by_number}
use Rattle.cxx_syntax.specs.declared.tree.BodyTree.{BodyTree}
use Rattle.cxx_syntax.specs.declared.source_text.SourceText.{SourceText}
use Rattle.cxx_program.specs.declared.program.TypedProgram.{TypedProgram}
use Rattle.cxx_gen.specs.Summary.{lines_in, last_line as last_line_of, summary}
use Rattle.path_rules.specs.Rules.{undefined_no}
use Rattle.path_model.specs.Runs.{run_of}
use Rattle.text_told.specs.declared.ending.End.{End}
use Rattle.text_told.specs.declared.ending.End.TheVariants as ends
use Rattle.text_told.specs.Told.{told, told_ending, text_limit}
use Rattle.abi_sound.specs.declared.class_layout.ClassLayout.{ClassLayout}
use Rattle.abi_sound.specs.Places.{places_of}
use Rattle.abi_tables.specs.declared.tables.ClassTables.{ClassTables}
use Rattle.abi_tables.specs.Tables.{AreClassTables}
use Rattle.abi_layout.specs.Layouts.{IsLaid}
use Rattle.abi_print.specs.LayoutTexts.{layout_text}
use Rattle.abi_print.specs.TableTexts.{tables_text}
use Rattle.cxxabi_words.specs.declared.command.QualifiedMember.{QualifiedMember}
use Rattle.cxxabi_words.specs.declared.command.Command.{Command}
use Rattle.cxxabi_words.specs.declared.command.Command.TheVariants.{Check, Layout, LayoutOf, Tables, TablesOf, Array, MemberPointer, Inspect, Foreign}
use Rattle.cxxabi_words.specs.Commands.{Says, IsCommand}
use Rattle.cxxabi_cmd.specs.declared.listing.Listing.{Listing}
use Rattle.cxxabi_cmd.specs.declared.listing.Listing.TheVariants.{OfLayout, OfTables}
use Rattle.cxxabi_cmd.specs.declared.status.Status.{Status}
use Rattle.cxxabi_cmd.specs.declared.status.Status.TheVariants.{Done, Refused, BadInput, Usage, Undefined, OutOfSteps, Limit, ReadFault, WriteFault, NoMemory}
use Rattle.cxxabi_cmd.specs.Commands.{RunsMain, SumsUp, input_of, divided_input}
use Rattle.cxxabi_cmd.specs.Divided.{IsDumpReply, IsLayoutOf, IsListingReply, undivided_rule}
use Rattle.cxxabi_input.specs.Division.{line_count}
pub use Rattle.cxxabi_cmd.specs.Answers.{Answer, line_alone, text_answer}
use Rattle.cxxabi_cmd.specs.Answers.{IsArrayReply, IsMemberReply}
use Rattle.cxxabi_cmd.specs.Statuses.{status_line}
use Rattle.cxxabi_streams.specs.Streams.{AddsFrontOf}
use Rattle.cxxabi_cmd.specs.Verdict.{Verdict, Stops, Accepts}

-- the bytes of each word
abbrev pub texts_of : {Z : Type 0} → List (String Z) → List (List ℕ)
texts_of words = map string_bytes words

-- the status of a run's end
abbrev pub status_of : End → Status
status_of ends.Done = Done
status_of (ends.Undefined rule line) = Undefined (undefined_no rule) line
status_of ends.OutOfSteps = OutOfSteps
status_of (ends.Limit limit) = Limit limit

-- a text of a run, and then the last line of its end
abbrev pub ended_answer : List ℕ → End → ℕ → Answer
ended_answer text e steps = record { text = text ++ status_line (status_of e) steps; status = status_of e }

-- the summary of a run: the classes of its source, its steps, the lines that it printed and the last of them
abbrev pub summary_answer : Classes → ℕ → List ℕ → Answer
summary_answer h steps text = text_answer (summary (length h) steps (lines_in text) (last_line_of text))

-- what a run told, with the places of the layout, and how it ended; or its summary, where the command sums it up
pub data IsRunAnswer (command : Command) (h : Classes) (rows : List ClassLayout) (typed : TypedProgram) (trace : Bool) (steps : ℕ) : Answer → Type 0 where
  ends_with : (e : End) → told_ending e ≡ (told h (places_of h rows) typed trace steps).ending → (SumsUp command e → ⊥) →
      IsRunAnswer command h rows typed trace steps (ended_answer (told h (places_of h rows) typed trace steps).text e steps)
  summed_up : (e : End) → told_ending e ≡ (told h (places_of h rows) typed trace steps).ending → SumsUp command e →
      IsRunAnswer command h rows typed trace steps (summary_answer h (run_of h (places_of h rows).size typed steps).steps (told h (places_of h rows) typed trace steps).text)

-- the status of a source that is not accepted
abbrev pub status_of_stop : Stop → Status
status_of_stop (stop.Refused rule at) = Refused rule at
status_of_stop (stop.Limit limit) = Limit limit
status_of_stop stop.NoMemory = NoMemory

-- how many classes there are
abbrev pub count_answer : Classes → Answer
count_answer h = text_answer (decimal (length h) ++ codes " classes\n")

-- the first classes of a source in their order, as many as are asked for
abbrev pub first_classes : ℕ → List ClassId
first_classes zero = []
first_classes (suc n) = first_classes n ++ class_by_number n ∷ []

-- what a command asks for, and of which classes
pub data AsksFor (h : Classes) : Command → Listing → List ClassId → Type 0 where
  all_layouts : AsksFor h Layout OfLayout (first_classes (length h))
  one_layout : (name : List ℕ) (c : ClassId) → slice_get (class_names h) c.0 ≡ Some name → AsksFor h (LayoutOf name) OfLayout (c ∷ [])
  all_tables : AsksFor h Tables OfTables (first_classes (length h))
  one_tables : (name : List ℕ) (c : ClassId) → slice_get (class_names h) c.0 ≡ Some name → AsksFor h (TablesOf name) OfTables (c ∷ [])

-- the command asks for the class of a name
pub data AsksForName : Command → List ℕ → Type 0 where
  named_layout : (name : List ℕ) → AsksForName (LayoutOf name) name
  named_tables : (name : List ℕ) → AsksForName (TablesOf name) name

-- the text of a class's tables, over these rows
pub record IsTablesText (h : Classes) (rows : List ClassLayout) (c : ClassId) (text : List ℕ) : Type 0 where
  pub tables : ClassTables
  pub made : AreClassTables h (places_of h rows) c tables
  pub is : text ≡ tables_text h (places_of h rows).place c tables.groups tables.vtt tables.info

-- the text of a class, over these rows
abbrev pub IsClassText : Classes → List ClassLayout → Listing → ClassId → List ℕ → Type 0
IsClassText h rows OfLayout c text = text ≡ layout_text h rows (places_of h rows).place c
IsClassText h rows OfTables c text = IsTablesText h rows c text

-- the texts of classes, one after the other
pub data AreTexts (h : Classes) (rows : List ClassLayout) (listing : Listing) : List ClassId → List ℕ → Type 0 where
  no_texts : AreTexts h rows listing [] []
  more_texts : (c : ClassId) (classes : List ClassId) (text rest : List ℕ) → IsClassText h rows listing c text → AreTexts h rows listing classes rest → AreTexts h rows listing (c ∷ classes) (text ++ rest)

-- what is answered where these classes are listed
pub data Lists (h : Classes) (listing : Listing) (classes : List ClassId) : Answer → Type 0 where
  whole : (rows : List ClassLayout) (text : List ℕ) → IsLaid h rows → AreTexts h rows listing classes text → length text ≤ text_limit → Lists h listing classes (text_answer text)
  too_much : (rows : List ClassLayout) (text : List ℕ) → IsLaid h rows → AreTexts h rows listing classes text → text_limit < length text → Lists h listing classes (line_alone (Limit L9))

-- what a command answers to an accepted source of so many bytes, which resolves to this program, behind this front
pub data Yields (front : List ℕ) (size : ℕ) (source : SourceText) (h : Classes) (typed : TypedProgram) : Command → Answer → Type 0 where
  counted : Yields front size source h typed Check (count_answer h)
  no_main : (command : Command) (steps : ℕ) (trace : Bool) → RunsMain command steps trace → source.main ≡ None → Yields front size source h typed command (line_alone (Refused UnknownName size))
  ran : (command : Command) (steps : ℕ) (trace : Bool) (tree : BodyTree) (rows : List ClassLayout) (answer : Answer) → RunsMain command steps trace → source.main ≡ Some tree → IsLayoutOf command front h rows →
      IsRunAnswer command h rows typed trace steps answer → Yields front size source h typed command answer
  unknown_class : (command : Command) (name : List ℕ) → AsksForName command name → (Contains (class_names h) name → ⊥) → Yields front size source h typed command (line_alone (Refused UnknownName size))
  listed : (command : Command) (listing : Listing) (classes : List ClassId) (answer : Answer) → AsksFor h command listing classes → Lists h listing classes answer → Yields front size source h typed command answer
  arrayed : (name : List ℕ) (n : ℕ) (answer : Answer) → IsArrayReply size h name n answer → Yields front size source h typed (Array name n) answer
  pointed : (named : QualifiedMember) (answer : Answer) → IsMemberReply size h named answer → Yields front size source h typed (MemberPointer named) answer
  inspected : (answer : Answer) → IsDumpReply front h answer → Yields front size source h typed Inspect answer
  no_layout : (steps : ℕ) (tree : BodyTree) (answer : Answer) → source.main ≡ Some tree → IsListingReply front h answer → Yields front size source h typed (Foreign steps) answer

-- what is answered to words and an input, which a command treats or has no use for
pub data Output (words : List (List ℕ)) (bytes : List ℕ) : Answer → Type 0 where
  usage : (IsCommand words → ⊥) → Output words bytes (line_alone Usage)
  too_long : (command : Command) → Says words command → source_limit < length (input_of command bytes) → Output words bytes (line_alone (Limit L1))
  undivided : (command : Command) → Says words command → length (input_of command bytes) ≤ source_limit → divided_input command (input_of command bytes) ≡ None →
      Output words bytes (line_alone (BadInput (undivided_rule command) (suc (line_count (input_of command bytes)))))
  stopped : (command : Command) (front text : List ℕ) (stop : Stop) → Says words command → length (input_of command bytes) ≤ source_limit → divided_input command (input_of command bytes) ≡ Some (front, text) →
      Verdict text (Stops stop) → Output words bytes (line_alone (status_of_stop stop))
  yielded : (command : Command) (front text : List ℕ) (source : SourceText) (h : Classes) (typed : TypedProgram) (answer : Answer) → Says words command → length (input_of command bytes) ≤ source_limit →
      divided_input command (input_of command bytes) ≡ Some (front, text) → Verdict text (Accepts source h typed) → Yields front (length text) source h typed command answer → Output words bytes answer

-- an answer was written: neither a fault nor want of memory
abbrev pub IsAnswerWritten : Status → Type 0
IsAnswerWritten Done = Unit {0}
IsAnswerWritten (Refused rule at) = Unit {0}
IsAnswerWritten (BadInput rule line) = Unit {0}
IsAnswerWritten Usage = Unit {0}
IsAnswerWritten (Undefined number line) = Unit {0}
IsAnswerWritten OutOfSteps = Unit {0}
IsAnswerWritten (Limit limit) = Unit {0}
IsAnswerWritten ReadFault = ⊥
IsAnswerWritten WriteFault = ⊥
IsAnswerWritten NoMemory = ⊥

-- nothing was written: a fault of the source, or want of memory
abbrev pub IsSilent : Status → Type 0
IsSilent Done = ⊥
IsSilent (Refused rule at) = ⊥
IsSilent (BadInput rule line) = ⊥
IsSilent Usage = ⊥
IsSilent (Undefined number line) = ⊥
IsSilent OutOfSteps = ⊥
IsSilent (Limit limit) = ⊥
IsSilent ReadFault = Unit {0}
IsSilent WriteFault = ⊥
IsSilent NoMemory = Unit {0}

-- the sink took the whole text of the answer, and the status is the answer's
pub record WritesAnswer (words : List (List ℕ)) (bytes : List ℕ) (before after : Option (List ℕ)) (status : Status) : Type 0 where
  pub answer : Answer
  pub output : Output words bytes answer
  pub same : status ≡ answer.status
  pub text : IfSome before (λ taken. after ≡ Some (taken ++ answer.text))

-- the sink took a front of the text of the answer
pub record BreaksOff (words : List (List ℕ)) (bytes : List ℕ) (before after : Option (List ℕ)) : Type 0 where
  pub answer : Answer
  pub output : Output words bytes answer
  pub part : IfSome before (λ taken. AddsFrontOf taken answer.text after)
