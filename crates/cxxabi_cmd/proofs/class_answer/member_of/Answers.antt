use Rattle.std.proofs.Common.{◌≡◌, sym, ◌∙◌, ap, List, ℕ}
use Rattle.cxx_hierarchy.specs.declared.stop.Rule.TheVariants.{UnknownName}
use Rattle.abi_memptr.specs.declared.answers.MemberAnswer.{MemberAnswer}
use Rattle.abi_memptr.specs.Answers.{answer_of as answer_of_member, said}
use Rattle.abi_sound.specs.Places.{places_of}
use Rattle.cxxabi_cmd.specs.declared.status.InputRule.{InputRule}
use Rattle.cxxabi_cmd.specs.declared.status.Status.TheVariants.{BadInput, Refused}
use Rattle.cxxabi_cmd.specs.Answers.{IsMemberReply, no_class, no_whole, member_answer, limited_answer, line_alone}
use Rattle.cxxabi_cmd.proofs.ClassReplies.{class_found, class_missing, member_replied, replied}
use Rattle.cxxabi_cmd.proofs.LaidRows.{is_laid}
use Rattle.cxxabi_cmd.proofs.Listed.{named_below}
use Rattle.cxxabi_cmd.proofs.class_answer.member_of.Goals as goal

pub returns-in_default-clause-reply : goal.returns-in_default-clause-reply
returns-in_default-clause-reply c =
    let h = c.args.accepted.now.hierarchy in
    replied c.line_alone.result (IsMemberReply c.args.size h c.args.named.now) (line_alone (Refused UnknownName c.args.size)) c.line_alone.ensures.answer (no_class (class_missing h _ _ c.as_slice.ensures c.in_default.ensures))

pub returns-in_default-find-clause-reply : goal.returns-in_default-find-clause-reply
returns-in_default-find-clause-reply c =
    let h = c.args.accepted.now.hierarchy in
    replied c.line_alone-in_default-find.result (IsMemberReply c.args.size h c.args.named.now) (line_alone (Refused UnknownName c.args.size)) c.line_alone-in_default-find.ensures.answer
    (no_whole (class_missing h _ _ c.as_slice-2.ensures c.in_default-find.ensures))

pub member_answer-requires-clause-class : goal.member_answer-requires-clause-class
member_answer-requires-clause-class c = named_below c.args.accepted.now.hierarchy c.in-Some.class.0 c.as_slice.result.now c.in-Some.ensures

pub member_answer-requires-clause-object : goal.member_answer-requires-clause-object
member_answer-requires-clause-object c = named_below c.args.accepted.now.hierarchy c.in-Some-find.whole.0 c.as_slice-2.result.now c.in-Some-find.ensures

pub returns-in-Refused-clause-reply : goal.returns-in-Refused-clause-reply
returns-in-Refused-clause-reply c =
    let h = c.args.accepted.now.hierarchy in
    let rows = c.args.accepted.now.layout in
    let k = c.in-Some.class in
    let d = c.in-Some-find.whole in
    member_replied c.line_alone-in-Refused.result c.args.size h rows c.args.named.now k d (said c.in_ok-answer.answer) (line_alone (BadInput c.member_rule.result 0)) (class_found h _ _ k c.as_slice.ensures c.in-Some.ensures) (class_found h _ _ d c.as_slice-2.ensures c.in-Some-find.ensures)
    (is_laid h rows c.requires.ready.layout) (c.in_ok-answer.ensures ∙ ap (λ (name : List ℕ). answer_of_member h (places_of h rows) k name d) c.as_slice-3.ensures)
    (ap (λ (a : MemberAnswer). member_answer (said a)) c.in-Refused.is ∙ ap (λ (r : InputRule). line_alone (BadInput r 0)) (sym c.member_rule.ensures)) c.line_alone-in-Refused.ensures.answer

pub returns-in-Text-clause-reply : goal.returns-in-Text-clause-reply
returns-in-Text-clause-reply c =
    let h = c.args.accepted.now.hierarchy in
    let rows = c.args.accepted.now.layout in
    let k = c.in-Some.class in
    let d = c.in-Some-find.whole in
    member_replied c.limited.result c.args.size h rows c.args.named.now k d (said c.in_ok-answer.answer) (limited_answer c.in-Text.text.items) (class_found h _ _ k c.as_slice.ensures c.in-Some.ensures) (class_found h _ _ d c.as_slice-2.ensures c.in-Some-find.ensures)
    (is_laid h rows c.requires.ready.layout) (c.in_ok-answer.ensures ∙ ap (λ (name : List ℕ). answer_of_member h (places_of h rows) k name d) c.as_slice-3.ensures)
    (ap (λ (a : MemberAnswer). member_answer (said a)) c.in-Text.is) c.limited.ensures.answer
