use Rattle.std.proofs.Common.{[]}
use Rattle.std.specs.Prelude.{false}
use Rattle.std.specs.Option.{is_some}
use Rattle.cxx_hierarchy.specs.declared.stop.Rule.TheVariants.{UnknownName}
use Rattle.path_model.specs.States.{is_body}
use Rattle.cxxabi_words.specs.declared.command.Command.TheVariants.{Paths}
use Rattle.cxxabi_cmd.specs.declared.status.Status.TheVariants.{Refused}
use Rattle.cxxabi_cmd.specs.Commands.{by_paths}
use Rattle.cxxabi_cmd.specs.Output.{Yields, line_alone, no_main}
use Rattle.cxxabi_cmd.specs.invariants.Replies.{as_answer}
use Rattle.cxxabi_cmd.proofs.AnswerLemmas.{for_each, yields}
use Rattle.cxxabi_cmd.proofs.LaidRows.{is_laid}
use Rattle.cxxabi_cmd.proofs.ReplyLemmas.{is_missing, is_there}
use Rattle.cxxabi_cmd.proofs.RunAnswers.{has_main, yields_ended}
use Rattle.cxxabi_cmd.proofs.run_answer.run_on_paths.Goals as goal

pub returns-then-is_none-clause-yields : goal.returns-then-is_none-clause-yields
returns-then-is_none-clause-yields c =
    let h = c.args.accepted.now.hierarchy in
    let source = c.args.accepted.now.source in
    let command = Paths c.args.steps in
    for_each c.line_alone.result [] (λ front reply. Yields front c.args.size source h c.args.accepted.now.program command (as_answer reply))
    (λ front. yields c.line_alone.result front c.args.size source h c.args.accepted.now.program command (line_alone (Refused UnknownName c.args.size)) c.line_alone.ensures.answer
    (no_main command c.args.steps false (by_paths c.args.steps) (is_missing source.main c.is_none.result c.is_none.ensures c.if-is_none.true)))

pub run_by_paths-requires-clause-main : goal.run_by_paths-requires-clause-main
run_by_paths-requires-clause-main c =
    has_main (is_body c.args.accepted.now.program.main) (is_some c.args.accepted.now.source.main) c.is_none.result c.requires.ready.main c.is_none.ensures c.if-is_none.false

pub returns-clause-yields : goal.returns-clause-yields
returns-clause-yields c =
    let h = c.args.accepted.now.hierarchy in
    let rows = c.args.accepted.now.layout in
    let source = c.args.accepted.now.source in
    let typed = c.args.accepted.now.program in
    let command = Paths c.args.steps in
    let there = is_there source.main c.is_none.result c.is_none.ensures c.if-is_none.false in
    for_each c.run_by_paths.result [] (λ front reply. Yields front c.args.size source h typed command (as_answer reply))
    (λ front. yields_ended c.run_by_paths.result front c.args.size source h rows typed command c.args.steps false there.tree (by_paths c.args.steps) c.run_by_paths.ensures.answer there.is (is_laid h rows c.requires.ready.layout))
