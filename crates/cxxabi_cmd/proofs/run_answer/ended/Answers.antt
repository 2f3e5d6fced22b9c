use Rattle.std.proofs.Common.{◌++◌, ◌∙◌, ap, List, ℕ}
use Rattle.cxxabi_cmd.proofs.RunAnswers.{ended_is}
use Rattle.cxxabi_cmd.proofs.run_answer.ended.Goals as goal

pub returns-clause-answer : goal.returns-clause-answer
returns-clause-answer c =
    ended_is c.args.text c.as_bytes.result.now c.extend_from_slice.new.self.items c.args.end c.args.steps c.status_of-status.result
    (c.in_ok-extend_from_slice.ensures.items ∙ ap (λ (t : List ℕ). t ++ c.as_bytes.result.now) c.into_vec-text.ensures) (c.as_bytes.ensures.value ∙ c.in_ok-last_line_of.ensures) c.status_of-status.ensures
