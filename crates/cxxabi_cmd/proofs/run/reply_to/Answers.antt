use Rattle.std.proofs.Common.{◌+◌, suc, length, refl, arith, ap, ◌∙◌, ℕ}
use Rattle.cxxabi_cmd.proofs.ReplyLemmas.{IsDivided, accepted_output, accepted_machine, reply_answered, stopped_output, stopped_machine, stopped_answered, undivided_output, undivided_machine, undivided_answered}
use Rattle.cxxabi_cmd.proofs.SourceLemmas.{few_lines, parts_short}
use Rattle.cxxabi_cmd.proofs.run.reply_to.Goals as goal

pub overflow_add-line : goal.overflow_add-line
overflow_add-line c =
    let few = few_lines c.args.bytes.now in
    let is = c.line_count-line.ensures in
    let short = c.requires.short in
    omega (arith, few, is, short)

pub returns-in_default-clause-output : goal.returns-in_default-clause-output
returns-in_default-clause-output c =
    let is = c.line_count-line.ensures in
    undivided_output c.line_alone.result c.args.bytes.now c.args.command.now c.undivided_rule.result (c.line_count-line.result + 1) c.line_alone.ensures.answer c.undivided_rule.ensures (omega (arith, is)) c.in_default.ensures c.requires.short

pub returns-in_default-clause-machine : goal.returns-in_default-clause-machine
returns-in_default-clause-machine c = undivided_machine c.line_alone.result c.args.bytes.now c.args.command.now c.line_alone.ensures.machine c.in_default.ensures

pub returns-in_default-clause-answered : goal.returns-in_default-clause-answered
returns-in_default-clause-answered c = undivided_answered c.line_alone.result c.undivided_rule.result (c.line_count-line.result + 1) c.line_alone.ensures.answer

pub judge-requires : goal.judge-requires
judge-requires c =
    let within = parts_short c.args.command.now c.args.bytes.now c.in-Some.parts.front.now c.in-Some.parts.source.now c.in-Some.ensures in
    let short = c.requires.short in
    omega (arith, within, short)

pub overflow_cast-size : goal.overflow_cast-size
overflow_cast-size c =
    let within = parts_short c.args.command.now c.args.bytes.now c.in-Some.parts.front.now c.in-Some.parts.source.now c.in-Some.ensures in
    let short = c.requires.short in
    omega (arith, within, short)

pub answer-requires-clause-short : goal.answer-requires-clause-short
answer-requires-clause-short c =
    let within = parts_short c.args.command.now c.args.bytes.now c.in-Some.parts.front.now c.in-Some.parts.source.now c.in-Some.ensures in
    let short = c.requires.short in
    omega (arith, within, short)

pub returns-in-Ok-clause-output : goal.returns-in-Ok-clause-output
returns-in-Ok-clause-output c =
    let front = c.in-Some.parts.front.now in
    let text = c.in-Some.parts.source.now in
    let divided : IsDivided c.args.command.now c.args.bytes.now front text = record { short = c.requires.short; parts = c.in-Some.ensures } in
    accepted_output c.answer.result c.args.bytes.now front text c.in-Ok.accepted.source c.in-Ok.accepted.hierarchy c.in-Ok.accepted.program c.args.command.now c.answer.ensures.yields divided c.in-Ok.ensures.ok

pub returns-in-Ok-clause-machine : goal.returns-in-Ok-clause-machine
returns-in-Ok-clause-machine c =
    let front = c.in-Some.parts.front.now in
    let text = c.in-Some.parts.source.now in
    let divided : IsDivided c.args.command.now c.args.bytes.now front text = record { short = c.requires.short; parts = c.in-Some.ensures } in
    accepted_machine c.answer.result c.args.bytes.now front text c.in-Ok.accepted.source c.in-Ok.accepted.hierarchy c.in-Ok.accepted.program c.args.command.now c.answer.ensures.machine divided c.in-Ok.ensures.ok

pub returns-in-Ok-clause-answered : goal.returns-in-Ok-clause-answered
returns-in-Ok-clause-answered c =
    reply_answered c.answer.result c.in-Some.parts.front.now (length c.in-Some.parts.source.now) c.in-Ok.accepted.source c.in-Ok.accepted.hierarchy c.in-Ok.accepted.program c.args.command.now c.answer.ensures.yields

pub returns-in-Err-clause-output : goal.returns-in-Err-clause-output
returns-in-Err-clause-output c =
    let divided : IsDivided c.args.command.now c.args.bytes.now c.in-Some.parts.front.now c.in-Some.parts.source.now = record { short = c.requires.short; parts = c.in-Some.ensures } in
    stopped_output c.stopped.result c.args.bytes.now c.in-Some.parts.front.now c.in-Some.parts.source.now c.args.command.now c.in-Err.stop c.stopped.ensures.answer c.in-Err.ensures.err divided

pub returns-in-Err-clause-machine : goal.returns-in-Err-clause-machine
returns-in-Err-clause-machine c =
    let divided : IsDivided c.args.command.now c.args.bytes.now c.in-Some.parts.front.now c.in-Some.parts.source.now = record { short = c.requires.short; parts = c.in-Some.ensures } in
    stopped_machine c.stopped.result c.args.bytes.now c.in-Some.parts.front.now c.in-Some.parts.source.now c.args.command.now c.in-Err.stop c.stopped.ensures.answer c.stopped.ensures.machine c.in-Err.ensures.err divided

pub returns-in-Err-clause-answered : goal.returns-in-Err-clause-answered
returns-in-Err-clause-answered c = stopped_answered c.stopped.result c.in-Err.stop c.stopped.ensures.answer
