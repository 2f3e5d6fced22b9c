use Rattle.std.proofs.Common.{string_bytes, map}
use Rattle.cxxabi_cmd.specs.invariants.Replies.{as_answer}
use Rattle.cxxabi_cmd.proofs.OutputLemmas.{answers, broken_off, written_or_broken_off}
use Rattle.cxxabi_cmd.proofs.run.run_cxxabi.Goals as goal

pub returns-clause-answered : goal.returns-clause-answered
returns-clause-answered g c = λ bytes told answered.
    answers (map string_bytes c.args.words.now) bytes _ _ c.deliver-status.result (as_answer c.in-Ok.reply) c.deref.result.now (c.in-Ok.ensures.output bytes told) c.deref.ensures.value c.deliver-status.ensures.either c.deliver-status.ensures.whole answered

pub returns-clause-breaks_off : goal.returns-clause-breaks_off
returns-clause-breaks_off g c = λ bytes told fault.
    broken_off (map string_bytes c.args.words.now) bytes _ _ (as_answer c.in-Ok.reply) c.deref.result.now (c.in-Ok.ensures.output bytes told) c.deref.ensures.value (c.deliver-status.ensures.part fault)

pub returns-clause-last : goal.returns-clause-last
returns-clause-last g c = λ bytes told loud. c.in-Ok.ensures.machine bytes told

pub returns-clause-silent : goal.returns-clause-silent
returns-clause-silent g c = λ silent. absurd (written_or_broken_off c.deliver-status.result c.in-Ok.reply.status c.in-Ok.ensures.answered c.deliver-status.ensures.either silent)

pub returns-clause-no_machine : goal.returns-clause-no_machine
returns-clause-no_machine g c = λ silent. absurd (written_or_broken_off c.deliver-status.result c.in-Ok.reply.status c.in-Ok.ensures.answered c.deliver-status.ensures.either silent)
