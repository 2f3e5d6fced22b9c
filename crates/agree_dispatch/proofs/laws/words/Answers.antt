use Rattle.agree_dispatch.proofs.Reading.{to_vbase, to_top, to_type}
use Rattle.agree_dispatch.proofs.laws.words.Goals as goal

pub returns-clause-vbase : goal.returns-clause-vbase
returns-clause-vbase _ h rows image memory d at y x placed s class v stands there of_class has = to_vbase h rows image memory d at y x placed stands s class v there of_class has

pub returns-clause-top : goal.returns-clause-top
returns-clause-top _ h rows image memory d at y x placed s class stands there of_class dynamic = to_top h rows image memory d at y x placed stands s class there of_class dynamic

pub returns-clause-type_of : goal.returns-clause-type_of
returns-clause-type_of _ h rows image memory d at y x placed s class type_info stands there of_class dynamic info = to_type h rows image memory d at y x placed stands s class type_info there of_class dynamic info
