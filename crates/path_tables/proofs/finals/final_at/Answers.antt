use Rattle.std.proofs.Common.{◌≡◌, rules}
use Rattle.std.specs.Prelude.{Some}
use Rattle.cxx_subobject.specs.Subobjects.{class_of}
use Rattle.path_tables.proofs.Targets.{told_false}
use Rattle.path_tables.proofs.Within.{final_outside, final_inside, class_known, part_class}
use Rattle.path_tables.proofs.finals.final_at.Goals as goal

pub returns-then-not-contains : goal.returns-then-not-contains
returns-then-not-contains c = final_outside c.args.call.now.h.now c.keeps.ensures c.args.call.now.c c.args.call.now.view.now c.args.call.now.source.now c.args.call.now.f c.requires.call.view (told_false c.contains.result c.contains.ensures c.if-not-contains.true)

pub final_overrider-requires-clause-known : goal.final_overrider-requires-clause-known
final_overrider-requires-clause-known c =
    let class : class_of c.args.call.now.view.now ≡ Some c.in-Some.d = search rules in
    class_known c.args.call.now.h.now c.keeps.ensures c.args.call.now.c c.in-Some.d _ c.args.call.now.view.now c.requires.call.view class c.requires.call.known

pub final_overrider-requires-clause-of_class : goal.final_overrider-requires-clause-of_class
final_overrider-requires-clause-of_class c =
    let class : class_of c.args.call.now.view.now ≡ Some c.in-Some.d = search rules in
    let part = c.in_ok-inner.ensures in
    part_class c.args.call.now.h.now c.in-Some.d c.args.call.now.view.now c.args.call.now.source.now c.in_ok-inner.inner (Some c.args.call.now.f.class) class part.0 part.1 c.requires.call.of_class

pub returns : goal.returns
returns c =
    let class : class_of c.args.call.now.view.now ≡ Some c.in-Some.d = search rules in
    let part = c.in_ok-inner.ensures in
    final_inside c.args.call.now.h.now c.keeps.ensures c.args.call.now.c c.in-Some.d c.args.call.now.view.now c.args.call.now.source.now c.in_ok-inner.inner c.args.call.now.f c.in_ok-overrider.overrider c.in_ok-at.at c.number_in.result c.requires.call.view class part.1 c.in_ok-overrider.ensures c.in_ok-at.ensures.joined c.number_in.ensures
