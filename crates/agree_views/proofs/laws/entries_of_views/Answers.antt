use Rattle.agree_views.proofs.Telling.{told_entry}
use Rattle.agree_views.proofs.laws.entries_of_views.Goals as goal

pub returns : goal.returns
returns _ w g memory q class d s k o view there of_class own found = told_entry w g memory q class d view s k o there of_class own found
