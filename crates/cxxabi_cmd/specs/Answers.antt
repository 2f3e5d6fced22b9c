-- Answers, and what is answered where an array of a class or a pointer to a member is asked for.
use Rattle.text_told.specs.Told.{text_limit}
use Rattle.std.specs.Prelude.{◌≡◌, ℕ, Contains, slice_get, nat_le, List, length, Some, if◌then◌else◌}
use Rattle.cxx_hierarchy.specs.declared.records.ClassId.{ClassId}
use Rattle.cxx_hierarchy.specs.declared.stop.Rule.TheVariants.{UnknownName}
use Rattle.cxx_hierarchy.specs.declared.stop.LimitNo.TheVariants.{L9}
use Rattle.cxx_hierarchy.specs.Classes.{Classes, class_names}
use Rattle.abi_sound.specs.declared.class_layout.ClassLayout.{ClassLayout}
use Rattle.abi_sound.specs.Places.{places_of}
use Rattle.abi_layout.specs.Layouts.{IsLaid}
use Rattle.abi_cookie.specs.declared.answers.ArrayAnswer.{ArrayAnswer}
use Rattle.abi_cookie.specs.declared.answers.ArrayAnswer.TheVariants.{Abstract, TooLarge, Text}
use Rattle.abi_cookie.specs.Answers.{IsArrayAnswer}
use Rattle.abi_memptr.specs.declared.pointers.MemberRule.{MemberRule}
use Rattle.abi_memptr.specs.declared.pointers.MemberRule.TheVariants.{NoSuchMember, BitField, NotBase, AmbiguousBase, VirtualBase}
use Rattle.abi_memptr.specs.Pointers.{MemberOutcome, refused, given}
use Rattle.abi_memptr.specs.Answers.{answer_of}
use Rattle.cxxabi_words.specs.declared.command.QualifiedMember.{QualifiedMember}
use Rattle.cxxabi_words.specs.Commands.{budget}
use Rattle.cxxabi_cmd.specs.declared.status.InputRule.{InputRule}
use Rattle.cxxabi_cmd.specs.declared.status.InputRule.TheVariants.{M1, M2, M3, M4, M5, A1, A2}
use Rattle.cxxabi_cmd.specs.declared.status.Status.{Status}
use Rattle.cxxabi_cmd.specs.declared.status.Status.TheVariants.{Done, Refused, BadInput, Limit}
use Rattle.cxxabi_cmd.specs.Statuses.{status_line}

-- the text and the status of an answer
pub record Answer : Type 0 where
  pub text : List ℕ
  pub status : Status

-- an answer that is its last line alone
abbrev pub line_alone : Status → Answer
line_alone status = record { text = status_line status budget; status = status }

-- an answer that is a text alone
abbrev pub text_answer : List ℕ → Answer
text_answer text = record { text = text; status = Done }

-- a text, or the limit that it passes
abbrev pub limited_answer : List ℕ → Answer
limited_answer text = if nat_le (length text) text_limit then text_answer text else line_alone (Limit L9)

-- an array, or the rule that refuses it
abbrev pub array_answer : ArrayAnswer → Answer
array_answer Abstract = line_alone (BadInput A1 0)
array_answer TooLarge = line_alone (BadInput A2 0)
array_answer (Text text) = limited_answer text

-- what is answered to a source of so many bytes where n elements of the class of a name are asked for
pub data IsArrayReply (size : ℕ) (h : Classes) (name : List ℕ) (n : ℕ) : Answer → Type 0 where
  no_element_class : (Contains (class_names h) name → ⊥) → IsArrayReply size h name n (line_alone (Refused UnknownName size))
  elements_of : (c : ClassId) (rows : List ClassLayout) (answer : ArrayAnswer) → slice_get (class_names h) c.0 ≡ Some name → IsLaid h rows → IsArrayAnswer h (places_of h rows) c n answer →
      IsArrayReply size h name n (array_answer answer)

-- the number of a rule on pointers to members
abbrev pub member_rule : MemberRule → InputRule
member_rule NoSuchMember = M1
member_rule BitField = M2
member_rule NotBase = M3
member_rule AmbiguousBase = M4
member_rule VirtualBase = M5

-- a pointer to a member, or the rule that refuses it
abbrev pub member_answer : MemberOutcome (List ℕ) → Answer
member_answer (refused rule) = line_alone (BadInput (member_rule rule) 0)
member_answer (given text) = limited_answer text

-- what is answered to a source of so many bytes where a pointer to a member is asked for
pub data IsMemberReply (size : ℕ) (h : Classes) (named : QualifiedMember) : Answer → Type 0 where
  no_class : (Contains (class_names h) named.class → ⊥) → IsMemberReply size h named (line_alone (Refused UnknownName size))
  no_whole : (Contains (class_names h) named.whole → ⊥) → IsMemberReply size h named (line_alone (Refused UnknownName size))
  member_of : (k d : ClassId) (rows : List ClassLayout) → slice_get (class_names h) k.0 ≡ Some named.class → slice_get (class_names h) d.0 ≡ Some named.whole → IsLaid h rows →
      IsMemberReply size h named (member_answer (answer_of h (places_of h rows) k named.member d))
