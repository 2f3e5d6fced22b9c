use Rattle.std.proofs.Common.{◌∙◌}
use Rattle.cxxabi_cmd.proofs.ListLemmas.{all_known}
use Rattle.cxxabi_cmd.proofs.list_answer.list_all.Goals as goal

pub list-requires-clause-known : goal.list-requires-clause-known
list-requires-clause-known c = all_known c.args.accepted.now.hierarchy c.deref.result.now (c.deref.ensures.value ∙ c.in_ok-classes.ensures)
