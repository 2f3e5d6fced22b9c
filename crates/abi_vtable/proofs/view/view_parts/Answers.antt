use Rattle.std.proofs.Common.{arith}
use Rattle.cxx_subobject.proofs.PathLemmas.{class_inside, class_there}
use Rattle.abi_vtable.proofs.view.view_parts.Goals as goal

pub class_at-class-requires : goal.class_at-class-requires
class_at-class-requires g c = class_there c.args.h.now c.args.name.now.complete c.args.name.now.view c.requires.view

pub list_subobjects-requires : goal.list_subobjects-requires
list_subobjects-requires g c = class_inside c.args.h.now c.keeps.ensures c.args.name.now.complete c.class_at-class.result c.args.name.now.view c.requires.complete c.requires.view c.class_at-class.ensures

pub starts_of-requires : goal.starts_of-requires
starts_of-requires g c =
    let known = class_inside c.args.h.now c.keeps.ensures c.args.name.now.complete c.class_at-class.result c.args.name.now.view c.requires.complete c.requires.view c.class_at-class.ensures in
    let few = c.keeps.ensures.few in
    omega arith
