use Rattle.agree_views.proofs.Telling.{told_vbase, told_top, told_type}
use Rattle.agree_views.proofs.laws.words_of_views.Goals as goal

pub returns-clause-vbase : goal.returns-clause-vbase
returns-clause-vbase _ w g memory q class d s e v view there of_class has = told_vbase w g memory q class d view s e v there of_class has

pub returns-clause-top : goal.returns-clause-top
returns-clause-top _ w g memory q class d s e view there of_class dynamic = told_top w g memory q class d view s e there of_class dynamic

pub returns-clause-type_of : goal.returns-clause-type_of
returns-clause-type_of _ w g memory q class d s e view there of_class dynamic = told_type w g memory q class d view s e there of_class dynamic
