use Rattle.std.proofs.Common.{ℕ, List, [], sym, ◌∙◌}
use Rattle.std.specs.Prelude.{false}
use Rattle.std.specs.Option.{is_some}
use Rattle.cxx_hierarchy.specs.declared.stop.Rule.TheVariants.{UnknownName}
use Rattle.path_model.specs.States.{is_body}
use Rattle.cxxabi_words.specs.declared.command.Command.TheVariants.{Gen}
use Rattle.foundation.specs.Limits.{most_steps}
use Rattle.cxxabi_cmd.specs.declared.status.Status.TheVariants.{Refused}
use Rattle.cxxabi_cmd.specs.Commands.{by_gen}
use Rattle.cxxabi_cmd.specs.Output.{IsRunAnswer, Yields, line_alone, no_main}
use Rattle.cxxabi_cmd.specs.invariants.Replies.{as_answer, machine_of, HandsBy}
use Rattle.cxxabi_cmd.proofs.AnswerLemmas.{for_each, at_each, yields, hands_none, hands_machine}
use Rattle.cxxabi_cmd.proofs.LaidRows.{is_laid}
use Rattle.cxxabi_cmd.proofs.ReplyLemmas.{is_missing, is_there}
use Rattle.cxxabi_cmd.proofs.RunAnswers.{has_main, yields_ended}
use Rattle.cxxabi_cmd.proofs.run_answer.run_generated.Goals as goal

pub returns-then-is_none-clause-yields : goal.returns-then-is_none-clause-yields
returns-then-is_none-clause-yields c =
    let h = c.args.accepted.now.hierarchy in
    let source = c.args.accepted.now.source in
    let typed = c.args.accepted.now.program in
    for_each c.line_alone.result 0 (λ n reply. (front : List ℕ) → Yields front c.args.size source h typed (Gen n) (as_answer reply))
    (λ n. for_each c.line_alone.result [] (λ front reply. Yields front c.args.size source h typed (Gen n) (as_answer reply))
    (λ front. yields c.line_alone.result front c.args.size source h typed (Gen n) (line_alone (Refused UnknownName c.args.size)) c.line_alone.ensures.answer
    (no_main (Gen n) most_steps false (by_gen n) (is_missing source.main c.is_none.result c.is_none.ensures c.if-is_none.true))))

pub returns-then-is_none-clause-machine : goal.returns-then-is_none-clause-machine
returns-then-is_none-clause-machine c =
    let h = c.args.accepted.now.hierarchy in
    let source = c.args.accepted.now.source in
    let typed = c.args.accepted.now.program in
    let missing = is_missing source.main c.is_none.result c.is_none.ensures c.if-is_none.true in
    for_each c.line_alone.result 0 (λ n reply. (front : List ℕ) → HandsBy (Gen n) front source h typed (machine_of reply))
    (λ n. for_each c.line_alone.result [] (λ front reply. HandsBy (Gen n) front source h typed (machine_of reply))
    (λ front. hands_none c.line_alone.result (Gen n) front source h typed c.line_alone.ensures.machine
    (λ trace steps tree rows runs bytes main laid. let clash = sym missing ∙ main in cc)))

pub generated_by_bytes-requires-clause-main : goal.generated_by_bytes-requires-clause-main
generated_by_bytes-requires-clause-main c =
    has_main (is_body c.args.accepted.now.program.main) (is_some c.args.accepted.now.source.main) c.is_none.result c.requires.ready.main c.is_none.ensures c.if-is_none.false

pub returns-clause-yields : goal.returns-clause-yields
returns-clause-yields c =
    let h = c.args.accepted.now.hierarchy in
    let rows = c.args.accepted.now.layout in
    let typed = c.args.accepted.now.program in
    let source = c.args.accepted.now.source in
    let there = is_there source.main c.is_none.result c.is_none.ensures c.if-is_none.false in
    for_each c.generated_by_bytes.result 0 (λ n reply. (front : List ℕ) → Yields front c.args.size source h typed (Gen n) (as_answer reply))
    (λ n. for_each c.generated_by_bytes.result [] (λ front reply. Yields front c.args.size source h typed (Gen n) (as_answer reply))
    (λ front. yields_ended c.generated_by_bytes.result front c.args.size source h rows typed (Gen n) most_steps false there.tree (by_gen n)
    (at_each c.generated_by_bytes.result (λ k reply. IsRunAnswer (Gen k) h rows typed false most_steps (as_answer reply)) n c.generated_by_bytes.ensures.answer) there.is (is_laid h rows c.requires.ready.layout)))

pub returns-clause-machine : goal.returns-clause-machine
returns-clause-machine c =
    let h = c.args.accepted.now.hierarchy in
    let rows = c.args.accepted.now.layout in
    let typed = c.args.accepted.now.program in
    let source = c.args.accepted.now.source in
    let there = is_there source.main c.is_none.result c.is_none.ensures c.if-is_none.false in
    for_each c.generated_by_bytes.result 0 (λ n reply. (front : List ℕ) → HandsBy (Gen n) front source h typed (machine_of reply))
    (λ n. for_each c.generated_by_bytes.result [] (λ front reply. HandsBy (Gen n) front source h typed (machine_of reply))
    (λ front. hands_machine c.generated_by_bytes.result (Gen n) front source h typed rows false most_steps there.tree (by_gen n) tt there.is (is_laid h rows c.requires.ready.layout) c.generated_by_bytes.ensures.machine))
