use Rattle.agree_views.proofs.Telling.{told_result, plain_result}
use Rattle.agree_views.proofs.laws.results_of_parts.Goals as goal

pub returns-clause-plain : goal.returns-clause-plain
returns-clause-plain _ w g memory p n f e i world laid made r root = plain_result w g memory p n f e i world laid made r root

pub returns-clause-shared : goal.returns-clause-shared
returns-clause-shared _ w g memory q class d s n f e v i view there of_class r root = told_result w g memory q class d view s n f e v i there of_class r root
