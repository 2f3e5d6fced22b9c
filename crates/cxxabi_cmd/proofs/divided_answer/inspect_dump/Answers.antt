use Rattle.cxxabi_cmd.proofs.DividedAnswers.{dump_told, dump_refused}
use Rattle.cxxabi_cmd.proofs.LaidRows.{is_laid}
use Rattle.cxxabi_cmd.proofs.divided_answer.inspect_dump.Goals as goal

pub returns-in_ok-text-in-Ok-clause-reply : goal.returns-in_ok-text-in-Ok-clause-reply
returns-in_ok-text-in-Ok-clause-reply c =
    let h = c.args.accepted.now.hierarchy in
    let rows = c.args.accepted.now.layout in
    dump_told c.limited.result c.args.dump.now h rows c.in-Ok.seen c.in_ok-text-in-Ok.text.items (is_laid h rows c.requires.ready.layout) c.in-Ok.ensures.found c.in_ok-text-in-Ok.ensures c.limited.ensures.answer

pub returns-in-Err-clause-reply : goal.returns-in-Err-clause-reply
returns-in-Err-clause-reply c =
    let h = c.args.accepted.now.hierarchy in
    let rows = c.args.accepted.now.layout in
    dump_refused c.dump_fault.result c.args.dump.now h rows c.in-Err.fault (is_laid h rows c.requires.ready.layout) (c.in-Err.ensures.fault c.requires.ready.words) c.dump_fault.ensures.reply
