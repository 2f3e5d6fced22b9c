use Rattle.path_tables.proofs.Answering.{copied_first}
use Rattle.cxx_subobject.specs.Subobjects.{is_of_class}
use Rattle.path_tables.proofs.answers.base_copied.Goals as goal

pub returns-in_ok-subobject_below-in-Some : goal.returns-in_ok-subobject_below-in-Some
returns-in_ok-subobject_below-in-Some c = copied_first c.args.h.now c.args.c (is_of_class c.args.d) c.args.list.now c.as_slice-parts.result.now c.in-Some.place c.index-parts-place.result c.in_ok-subobject_below-in-Some.field-0 c.requires c.as_slice-parts.ensures c.in-Some.ensures
    c.index-parts-place.is c.in_ok-subobject_below-in-Some.ensures
