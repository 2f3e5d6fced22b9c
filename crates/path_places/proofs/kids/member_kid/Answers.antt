use Rattle.std.proofs.Common.{None, subst}
use Rattle.cxx_hierarchy.specs.declared.records.ClassId.{ClassId}
use Rattle.cxx_hierarchy.specs.declared.records.Member.{Member}
use Rattle.cxx_hierarchy.specs.Classes.{members_of}
use Rattle.path_numbers.proofs.Rows.{members_are}
use Rattle.path_places.specs.invariants.Kids.{IsMemberRest}
use Rattle.path_places.proofs.Holding.{none_next, none_all}
use Rattle.path_places.proofs.kids.member_kid.Goals as goal

pub loop-m-preserved : goal.loop-m-preserved
loop-m-preserved c = none_next (λ m (x : Member ClassId). IsMemberRest c.args.world.now.h.now c.args.c c.args.n m x None) c.as_slice-members.result.now c.loop-m.m c.index-members-m.result c.loop-m-test.true c.loop-m.invariant
    (subst (λ (x : Member ClassId). IsMemberRest c.args.world.now.h.now c.args.c c.args.n c.loop-m.m x None) c.index-members-m.is c.in-None.ensures)

pub returns : goal.returns
returns c =
    let e = members_are c.args.world.now.h.now c.args.c c.class.result.now c.as_slice-members.result.now c.class.ensures c.as_slice-members.ensures in
    none_all (λ m (x : Member ClassId). IsMemberRest c.args.world.now.h.now c.args.c c.args.n m x None) c.as_slice-members.result.now (members_of c.args.world.now.h.now c.args.c) c.loop-m.m e c.loop-m-test.false c.loop-m.invariant
