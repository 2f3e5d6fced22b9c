use Rattle.std.specs.Option.{is_some}
use Rattle.path_model.specs.States.{is_body}
use Rattle.cxxabi_cmd.proofs.RunAnswers.{has_main}
use Rattle.worked_cases.proofs.hinted_calls.visits_text.Goals as goal

pub image_of-requires-clause-main : goal.image_of-requires-clause-main
image_of-requires-clause-main c =
    has_main (is_body c.in_ok-accepted.accepted.program.main) (is_some c.in_ok-accepted.accepted.source.main) c.is_none.result c.in_ok-accepted.ensures.ready.main c.is_none.ensures c.if-is_none.false
