use Rattle.cxx_subobject.proofs.PathLemmas.{class_inside, class_there}
use Rattle.abi_vtt.proofs.KnownParts.{subobject_known}
use Rattle.code_plans.proofs.pointers.visit.Goals as goal

pub class_at-d-requires : goal.class_at-d-requires
class_at-d-requires g c = class_there c.args.site.now.h.now c.args.c c.args.s.now c.requires.valid

pub is_set_apart-requires-clause-known : goal.is_set_apart-requires-clause-known
is_set_apart-requires-clause-known g c = class_inside c.args.site.now.h.now c.requires.site.site.keeps c.args.c c.class_at-d.result c.args.s.now c.requires.known c.requires.valid c.class_at-d.ensures

pub is_set_apart-requires-clause-path : goal.is_set_apart-requires-clause-path
is_set_apart-requires-clause-path g c = subobject_known c.args.site.now.h.now c.requires.site.site.keeps c.args.c c.args.s.now c.requires.known c.requires.valid

pub point_of-point-requires-clause-class_known : goal.point_of-point-requires-clause-class_known
point_of-point-requires-clause-class_known g c = class_inside c.args.site.now.h.now c.requires.site.site.keeps c.args.c c.class_at-d.result c.args.s.now c.requires.known c.requires.valid c.class_at-d.ensures

pub passed-requires-clause-class_known : goal.passed-requires-clause-class_known
passed-requires-clause-class_known g c = class_inside c.args.site.now.h.now c.requires.site.site.keeps c.args.c c.class_at-d.result c.args.s.now c.requires.known c.requires.valid c.class_at-d.ensures
