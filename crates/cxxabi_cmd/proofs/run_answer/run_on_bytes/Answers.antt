use Rattle.std.proofs.Common.{[], sym, ◌∙◌}
use Rattle.std.specs.Option.{is_some}
use Rattle.cxx_hierarchy.specs.declared.stop.Rule.TheVariants.{UnknownName}
use Rattle.path_model.specs.States.{is_body}
use Rattle.cxxabi_words.specs.declared.command.Command.TheVariants.{Run}
use Rattle.cxxabi_cmd.specs.declared.status.Status.TheVariants.{Refused}
use Rattle.cxxabi_cmd.specs.Commands.{by_run}
use Rattle.cxxabi_cmd.specs.Output.{Yields, line_alone, no_main}
use Rattle.cxxabi_cmd.specs.invariants.Replies.{as_answer, machine_of, HandsBy}
use Rattle.cxxabi_cmd.proofs.AnswerLemmas.{for_each, yields, hands_none, hands_machine}
use Rattle.cxxabi_cmd.proofs.LaidRows.{is_laid}
use Rattle.cxxabi_cmd.proofs.ReplyLemmas.{is_missing, is_there}
use Rattle.cxxabi_cmd.proofs.RunAnswers.{has_main, at_command, yields_ended}
use Rattle.cxxabi_cmd.proofs.run_answer.run_on_bytes.Goals as goal

pub returns-then-is_none-clause-yields : goal.returns-then-is_none-clause-yields
returns-then-is_none-clause-yields c =
    let h = c.args.accepted.now.hierarchy in
    let source = c.args.accepted.now.source in
    let command = Run c.args.steps c.args.trace in
    for_each c.line_alone.result [] (λ front reply. Yields front c.args.size source h c.args.accepted.now.program command (as_answer reply))
    (λ front. yields c.line_alone.result front c.args.size source h c.args.accepted.now.program command (line_alone (Refused UnknownName c.args.size)) c.line_alone.ensures.answer
    (no_main command c.args.steps c.args.trace (by_run c.args.steps c.args.trace) (is_missing source.main c.is_none.result c.is_none.ensures c.if-is_none.true)))

pub returns-then-is_none-clause-machine : goal.returns-then-is_none-clause-machine
returns-then-is_none-clause-machine c =
    let source = c.args.accepted.now.source in
    let missing = is_missing source.main c.is_none.result c.is_none.ensures c.if-is_none.true in
    let command = Run c.args.steps c.args.trace in
    for_each c.line_alone.result [] (λ front reply. HandsBy command front source c.args.accepted.now.hierarchy c.args.accepted.now.program (machine_of reply))
    (λ front. hands_none c.line_alone.result command front source c.args.accepted.now.hierarchy c.args.accepted.now.program c.line_alone.ensures.machine
    (λ trace steps tree rows runs bytes main laid. let clash = sym missing ∙ main in cc))

pub run_by_bytes-requires-clause-main : goal.run_by_bytes-requires-clause-main
run_by_bytes-requires-clause-main c =
    has_main (is_body c.args.accepted.now.program.main) (is_some c.args.accepted.now.source.main) c.is_none.result c.requires.ready.main c.is_none.ensures c.if-is_none.false

pub returns-clause-yields : goal.returns-clause-yields
returns-clause-yields c =
    let h = c.args.accepted.now.hierarchy in
    let rows = c.args.accepted.now.layout in
    let source = c.args.accepted.now.source in
    let typed = c.args.accepted.now.program in
    let command = Run c.args.steps c.args.trace in
    let there = is_there source.main c.is_none.result c.is_none.ensures c.if-is_none.false in
    let answered = at_command c.run_by_bytes.result command h rows typed c.args.trace c.args.steps (λ e sums. sums) c.run_by_bytes.ensures.answer in
    for_each c.run_by_bytes.result [] (λ front reply. Yields front c.args.size source h typed command (as_answer reply))
    (λ front. yields_ended c.run_by_bytes.result front c.args.size source h rows typed command c.args.steps c.args.trace there.tree (by_run c.args.steps c.args.trace) answered there.is (is_laid h rows c.requires.ready.layout))

pub returns-clause-machine : goal.returns-clause-machine
returns-clause-machine c =
    let h = c.args.accepted.now.hierarchy in
    let rows = c.args.accepted.now.layout in
    let source = c.args.accepted.now.source in
    let typed = c.args.accepted.now.program in
    let command = Run c.args.steps c.args.trace in
    let there = is_there source.main c.is_none.result c.is_none.ensures c.if-is_none.false in
    for_each c.run_by_bytes.result [] (λ front reply. HandsBy command front source h typed (machine_of reply))
    (λ front. hands_machine c.run_by_bytes.result command front source h typed rows c.args.trace c.args.steps there.tree (by_run c.args.steps c.args.trace) tt there.is (is_laid h rows c.requires.ready.layout) c.run_by_bytes.ensures.machine)
