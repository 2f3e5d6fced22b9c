use Rattle.std.proofs.Common.{sym, ◌∙◌}
use Rattle.std.specs.Prelude.{false}
use Rattle.std.specs.Option.{is_some}
use Rattle.cxx_hierarchy.specs.declared.stop.Rule.TheVariants.{UnknownName}
use Rattle.path_model.specs.States.{is_body}
use Rattle.cxxabi_words.specs.declared.command.Command.TheVariants.{Foreign}
use Rattle.cxxabi_cmd.specs.declared.status.Status.TheVariants.{Refused}
use Rattle.cxxabi_cmd.specs.Commands.{by_foreign}
use Rattle.cxxabi_cmd.specs.Output.{line_alone, no_main}
use Rattle.cxxabi_cmd.proofs.AnswerLemmas.{yields, hands_none}
use Rattle.cxxabi_cmd.proofs.DividedAnswers.{foreign_given, foreign_handed, listing_yields, listing_hands}
use Rattle.cxxabi_cmd.proofs.ReplyLemmas.{is_missing, is_there}
use Rattle.cxxabi_cmd.proofs.RunAnswers.{has_main}
use Rattle.cxxabi_cmd.proofs.divided_answer.run_foreign.Goals as goal

pub returns-then-is_none-clause-yields : goal.returns-then-is_none-clause-yields
returns-then-is_none-clause-yields c =
    let source = c.args.accepted.now.source in
    yields c.line_alone.result c.args.listing.now c.args.size source c.args.accepted.now.hierarchy c.args.accepted.now.program (Foreign c.args.steps) (line_alone (Refused UnknownName c.args.size)) c.line_alone.ensures.answer
    (no_main (Foreign c.args.steps) c.args.steps false (by_foreign c.args.steps) (is_missing source.main c.is_none.result c.is_none.ensures c.if-is_none.true))

pub returns-then-is_none-clause-machine : goal.returns-then-is_none-clause-machine
returns-then-is_none-clause-machine c =
    let source = c.args.accepted.now.source in
    let missing = is_missing source.main c.is_none.result c.is_none.ensures c.if-is_none.true in
    hands_none c.line_alone.result (Foreign c.args.steps) c.args.listing.now source c.args.accepted.now.hierarchy c.args.accepted.now.program c.line_alone.ensures.machine
    (λ trace steps tree rows runs bytes main laid. let clash = sym missing ∙ main in cc)

pub run_over-requires-clause-main : goal.run_over-requires-clause-main
run_over-requires-clause-main c =
    has_main (is_body c.args.accepted.now.program.main) (is_some c.args.accepted.now.source.main) c.is_none.result c.requires.ready.main c.is_none.ensures c.if-is_none.false

pub returns-in-Ok-clause-yields : goal.returns-in-Ok-clause-yields
returns-in-Ok-clause-yields c =
    let source = c.args.accepted.now.source in
    let there = is_there source.main c.is_none.result c.is_none.ensures c.if-is_none.false in
    foreign_given c.run_over.result c.args.listing.now c.args.size source c.args.accepted.now.hierarchy c.in-Ok.layout c.args.accepted.now.program c.args.steps there.tree c.in-Ok.ensures.ok there.is c.run_over.ensures.yields

pub returns-in-Ok-clause-machine : goal.returns-in-Ok-clause-machine
returns-in-Ok-clause-machine c =
    let source = c.args.accepted.now.source in
    let there = is_there source.main c.is_none.result c.is_none.ensures c.if-is_none.false in
    foreign_handed c.run_over.result c.args.listing.now source c.args.accepted.now.hierarchy c.in-Ok.layout c.args.accepted.now.program c.args.steps there.tree c.in-Ok.ensures.ok there.is c.run_over.ensures.machine

pub returns-in-Err-clause-yields : goal.returns-in-Err-clause-yields
returns-in-Err-clause-yields c =
    let source = c.args.accepted.now.source in
    let there = is_there source.main c.is_none.result c.is_none.ensures c.if-is_none.false in
    listing_yields c.listing_refused.result c.args.listing.now c.args.size source c.args.accepted.now.hierarchy c.args.accepted.now.program c.args.steps there.tree c.in-Err.stop there.is c.in-Err.ensures.err c.listing_refused.ensures.some c.listing_refused.ensures.reply

pub returns-in-Err-clause-machine : goal.returns-in-Err-clause-machine
returns-in-Err-clause-machine c =
    listing_hands c.listing_refused.result c.args.listing.now c.args.accepted.now.source c.args.accepted.now.hierarchy c.args.accepted.now.program c.args.steps c.in-Err.stop (record { layout = c.one_listing.ensures; apart = c.one_refusal.ensures.apart; stop = c.one_refusal.ensures.one }) c.keeps.ensures
    c.in-Err.ensures.err c.listing_refused.ensures.some c.listing_refused.ensures.machine
