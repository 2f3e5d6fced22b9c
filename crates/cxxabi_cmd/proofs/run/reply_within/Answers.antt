use Rattle.cxxabi_cmd.proofs.OutputLemmas.{limit_output, read_output, limit_machine, read_machine}
use Rattle.cxxabi_cmd.proofs.run.reply_within.Goals as goal

pub returns-then-bytes-gt-SOURCE_LIMIT-clause-output : goal.returns-then-bytes-gt-SOURCE_LIMIT-clause-output
returns-then-bytes-gt-SOURCE_LIMIT-clause-output c = limit_output c.line_alone.result c.args.bytes.now c.args.command.now c.line_alone.ensures.answer c.if-bytes-gt-SOURCE_LIMIT.true

pub returns-then-bytes-gt-SOURCE_LIMIT-clause-machine : goal.returns-then-bytes-gt-SOURCE_LIMIT-clause-machine
returns-then-bytes-gt-SOURCE_LIMIT-clause-machine c = limit_machine c.line_alone.result c.args.bytes.now c.args.command.now c.line_alone.ensures.machine c.if-bytes-gt-SOURCE_LIMIT.true

pub returns-clause-output : goal.returns-clause-output
returns-clause-output c = read_output c.reply_to.result c.args.bytes.now c.args.command.now c.reply_to.ensures.output c.if-bytes-gt-SOURCE_LIMIT.false

pub returns-clause-machine : goal.returns-clause-machine
returns-clause-machine c = read_machine c.reply_to.result c.args.bytes.now c.args.command.now c.reply_to.ensures.machine c.if-bytes-gt-SOURCE_LIMIT.false
