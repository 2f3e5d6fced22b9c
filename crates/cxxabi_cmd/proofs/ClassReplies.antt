-- What is answered for an array of a class, and for a pointer to a member.
use Rattle.std.proofs.Common.{◌≡◌, ◌≢◌, ℕ, ◌<◌, ◌≤◌, Option, Some, None, Result, Ok, Err, List, length, slice_get, refl, sym, ◌∙◌, ap, subst, arith}
use Rattle.std.specs.Prelude.{IfOk, Contains}
use Rattle.foundation.specs.declared.memory.NoMemory.{NoMemory as Want}
use Rattle.cxx_hierarchy.specs.declared.records.ClassId.{ClassId}
use Rattle.cxx_hierarchy.specs.Classes.{Classes, class_names}
use Rattle.cxx_syntax.specs.declared.source_text.SourceText.{SourceText}
use Rattle.cxx_program.specs.declared.program.TypedProgram.{TypedProgram}
use Rattle.abi_sound.specs.declared.class_layout.ClassLayout.{ClassLayout}
use Rattle.abi_sound.specs.Places.{align_in, places_of}
use Rattle.abi_layout.specs.AbiLayouts.{IsAbiLayout}
use Rattle.abi_layout.specs.Layouts.{IsLaid}
use Rattle.abi_layout.specs.Limits.{IsAlignment, byte, two_bytes, four_bytes, eight_bytes}
use Rattle.abi_cookie.specs.declared.answers.ArrayAnswer.{ArrayAnswer}
use Rattle.abi_cookie.specs.Answers.{IsArrayAnswer}
use Rattle.abi_memptr.specs.Pointers.{MemberOutcome}
use Rattle.abi_memptr.specs.Answers.{answer_of as answer_of_member}
use Rattle.cxxabi_words.specs.declared.command.QualifiedMember.{QualifiedMember}
use Rattle.cxxabi_words.specs.declared.command.Command.TheVariants.{Array, MemberPointer, Inspect}
use Rattle.cxxabi_cmd.specs.declared.reply.Reply.{Reply}
use Rattle.cxxabi_cmd.specs.Answers.{Answer, IsArrayReply, elements_of, array_answer, IsMemberReply, member_of, member_answer}
use Rattle.cxxabi_cmd.specs.Divided.{IsDumpReply}
use Rattle.cxxabi_cmd.specs.Output.{Yields, arrayed, pointed, inspected}
use Rattle.cxxabi_cmd.specs.invariants.Replies.{as_answer}

-- an answer that was made is one
pub replied : (r : Result Reply Want) (P : Answer → Type 0) (a : Answer) → IfOk r (λ reply. as_answer reply ≡ a) → P a → IfOk r (λ reply. P (as_answer reply))
replied (Ok reply) P a same is = subst P (sym same) is
replied (Err w) P a same is = same

pub array_replied : (r : Result Reply Want) (size : ℕ) (h : Classes) (rows : List ClassLayout) (name : List ℕ) (n : ℕ) (c : ClassId) (answer : ArrayAnswer) (a : Answer) → slice_get (class_names h) c.0 ≡ Some name → IsLaid h rows →
    IsArrayAnswer h (places_of h rows) c n answer → array_answer answer ≡ a → IfOk r (λ reply. as_answer reply ≡ a) → IfOk r (λ reply. IsArrayReply size h name n (as_answer reply))
array_replied r size h rows name n c answer a at laid is same made = replied r (IsArrayReply size h name n) a made (subst (IsArrayReply size h name n) same (elements_of c rows answer at laid is))

pub member_replied : (r : Result Reply Want) (size : ℕ) (h : Classes) (rows : List ClassLayout) (named : QualifiedMember) (k d : ClassId) (outcome : MemberOutcome (List ℕ)) (a : Answer) → slice_get (class_names h) k.0 ≡ Some named.class →
    slice_get (class_names h) d.0 ≡ Some named.whole → IsLaid h rows → outcome ≡ answer_of_member h (places_of h rows) k named.member d → member_answer outcome ≡ a → IfOk r (λ reply. as_answer reply ≡ a) → IfOk r (λ reply. IsMemberReply size h named (as_answer reply))
member_replied r size h rows named k d outcome a at of laid is same made =
    replied r (IsMemberReply size h named) a made (subst (IsMemberReply size h named) (ap member_answer (sym is) ∙ same) (member_of k d rows at of laid))

-- what the commands yield
pub yields_array : (r : Result Reply Want) (front : List ℕ) (size : ℕ) (source : SourceText) (h : Classes) (typed : TypedProgram) (name : List ℕ) (n : ℕ) → IfOk r (λ reply. IsArrayReply size h name n (as_answer reply)) → IfOk r (λ reply. Yields front size source h typed (Array name n) (as_answer reply))
yields_array (Ok reply) front size source h typed name n is = arrayed name n (as_answer reply) is
yields_array (Err w) front size source h typed name n is = is

pub yields_member : (r : Result Reply Want) (front : List ℕ) (size : ℕ) (source : SourceText) (h : Classes) (typed : TypedProgram) (named : QualifiedMember) → IfOk r (λ reply. IsMemberReply size h named (as_answer reply)) → IfOk r (λ reply. Yields front size source h typed (MemberPointer named) (as_answer reply))
yields_member (Ok reply) front size source h typed named is = pointed named (as_answer reply) is
yields_member (Err w) front size source h typed named is = is

pub yields_dump : (r : Result Reply Want) (front : List ℕ) (size : ℕ) (source : SourceText) (h : Classes) (typed : TypedProgram) → IfOk r (λ reply. IsDumpReply front h (as_answer reply)) → IfOk r (λ reply. Yields front size source h typed Inspect (as_answer reply))
yields_dump (Ok reply) front size source h typed is = inspected (as_answer reply) is
yields_dump (Err w) front size source h typed is = is

-- the alignment of a class by the rules is 8 bytes at most
most : (a : ℕ) → IsAlignment a → a ≤ 8
most _ byte = omega arith
most _ two_bytes = omega arith
most _ four_bytes = omega arith
most _ eight_bytes = omega arith

pub align_most : (h : Classes) (rows : List ClassLayout) (c : ClassId) → IsAbiLayout h rows → (places_of h rows).align c ≤ 8
align_most h rows c is = by_row (slice_get rows c.0) refl
  where
    by_row : (row : Option ClassLayout) → slice_get rows c.0 ≡ row → align_in row ≤ 8
    by_row None at = omega arith
    by_row (Some row) at = most row.align (is.aligned c.0 row at).align

-- a class by a name that is written otherwise
pub class_found : (h : Classes) (name given : List ℕ) (c : ClassId) → given ≡ name → slice_get (class_names h) c.0 ≡ Some given → slice_get (class_names h) c.0 ≡ Some name
class_found h name given c same at = at ∙ ap Some same

pub class_missing : (h : Classes) (name given : List ℕ) → given ≡ name → (Contains (class_names h) given → ⊥) → Contains (class_names h) name → ⊥
class_missing h name given same none = λ has. none (subst (λ (n : List ℕ). Contains (class_names h) n) (sym same) has)
