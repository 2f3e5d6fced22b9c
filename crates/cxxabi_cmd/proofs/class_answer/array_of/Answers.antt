use Rattle.std.proofs.Common.{◌≡◌, refl, sym, ◌∙◌, ap, List, ℕ}
use Rattle.cxx_hierarchy.specs.declared.stop.Rule.TheVariants.{UnknownName}
use Rattle.abi_cookie.specs.declared.answers.ArrayAnswer.{ArrayAnswer}
use Rattle.abi_sound.specs.Places.{places_of}
use Rattle.cxxabi_cmd.specs.declared.status.Status.TheVariants.{Refused}
use Rattle.cxxabi_cmd.specs.Answers.{IsArrayReply, no_element_class, array_answer, limited_answer, line_alone}
use Rattle.cxxabi_cmd.proofs.ClassReplies.{align_most, array_replied, replied}
use Rattle.cxxabi_cmd.proofs.LaidRows.{is_laid}
use Rattle.cxxabi_cmd.proofs.Listed.{named_below}
use Rattle.cxxabi_cmd.proofs.class_answer.array_of.Goals as goal

pub returns-in_default-clause-reply : goal.returns-in_default-clause-reply
returns-in_default-clause-reply c =
    let h = c.args.accepted.now.hierarchy in
    replied c.line_alone.result (IsArrayReply c.args.size h c.args.name.now c.args.count) (line_alone (Refused UnknownName c.args.size)) c.line_alone.ensures.answer (no_element_class c.in_default.ensures)

pub array_answer-requires-clause-known : goal.array_answer-requires-clause-known
array_answer-requires-clause-known c = named_below c.args.accepted.now.hierarchy c.in-Some.class.0 c.args.name.now c.in-Some.ensures

pub array_answer-requires-clause-align : goal.array_answer-requires-clause-align
array_answer-requires-clause-align c = align_most c.args.accepted.now.hierarchy c.args.accepted.now.layout c.in-Some.class c.requires.ready.layout

pub returns-in-Abstract-clause-reply : goal.returns-in-Abstract-clause-reply
returns-in-Abstract-clause-reply c =
    let h = c.args.accepted.now.hierarchy in
    let rows = c.args.accepted.now.layout in
    array_replied c.line_alone-in-Abstract.result c.args.size h rows c.args.name.now c.args.count c.in-Some.class c.in_ok-answer.answer _ c.in-Some.ensures (is_laid h rows c.requires.ready.layout) c.in_ok-answer.ensures
    (ap array_answer c.in-Abstract.is) c.line_alone-in-Abstract.ensures.answer

pub returns-in-TooLarge-clause-reply : goal.returns-in-TooLarge-clause-reply
returns-in-TooLarge-clause-reply c =
    let h = c.args.accepted.now.hierarchy in
    let rows = c.args.accepted.now.layout in
    array_replied c.line_alone-in-TooLarge.result c.args.size h rows c.args.name.now c.args.count c.in-Some.class c.in_ok-answer.answer _ c.in-Some.ensures (is_laid h rows c.requires.ready.layout) c.in_ok-answer.ensures
    (ap array_answer c.in-TooLarge.is) c.line_alone-in-TooLarge.ensures.answer

pub returns-in-Text-clause-reply : goal.returns-in-Text-clause-reply
returns-in-Text-clause-reply c =
    let h = c.args.accepted.now.hierarchy in
    let rows = c.args.accepted.now.layout in
    array_replied c.limited.result c.args.size h rows c.args.name.now c.args.count c.in-Some.class c.in_ok-answer.answer (limited_answer c.into_vec.result.items) c.in-Some.ensures (is_laid h rows c.requires.ready.layout) c.in_ok-answer.ensures
    (ap array_answer c.in-Text.is ∙ ap (λ (t : List ℕ). limited_answer t) (sym c.into_vec.ensures)) c.limited.ensures.answer
