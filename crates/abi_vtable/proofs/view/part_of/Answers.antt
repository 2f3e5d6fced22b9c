use Rattle.cxx_subobject.proofs.PathLemmas.{class_there}
use Rattle.abi_vtable.specs.invariants.Parts.{view_of_parts}
use Rattle.abi_vtable.proofs.Parts.{class_known}
use Rattle.abi_vtable.proofs.view.part_of.Goals as goal

pub class_at-class-requires : goal.class_at-class-requires
class_at-class-requires c = class_there c.args.h.now c.args.x.now.class c.args.s c.requires.valid

pub is_dynamic-requires : goal.is_dynamic-requires
is_dynamic-requires c = class_known c.args.h.now c.keeps.ensures (view_of_parts c.args.x.now) c.requires.view c.args.s c.class_at-class.result c.requires.valid c.class_at-class.ensures
