use Rattle.std.proofs.Common.{None, false}
use Rattle.cxx_hierarchy.specs.declared.records.ClassId.{ClassId}
use Rattle.cxx_hierarchy.specs.declared.records.Base.{Base}
use Rattle.cxx_hierarchy.specs.Classes.{bases_of}
use Rattle.path_numbers.proofs.Rows.{bases_are}
use Rattle.path_places.specs.invariants.Kids.{IsBaseRest}
use Rattle.path_places.proofs.Holding.{none_next, none_all}
use Rattle.path_places.proofs.kids.base_kid.Goals as goal

abbrev no_base : Base ClassId
no_base = record { class = record { 0 = 0 }; is_virtual = false; is_public = false; at = 0 }

pub loop-i-preserved : goal.loop-i-preserved
loop-i-preserved c = none_next (λ i (b : Base ClassId). IsBaseRest c.args.world.now.h.now c.args.c c.args.n i b None) c.as_slice-bases.result.now c.loop-i.i no_base c.loop-i-test.true c.loop-i.invariant c.in-None.ensures

pub returns : goal.returns
returns c =
    let e = bases_are c.args.world.now.h.now c.args.c c.class.result.now c.as_slice-bases.result.now c.class.ensures c.as_slice-bases.ensures in
    none_all (λ i (b : Base ClassId). IsBaseRest c.args.world.now.h.now c.args.c c.args.n i b None) c.as_slice-bases.result.now (bases_of c.args.world.now.h.now c.args.c) c.loop-i.i e c.loop-i-test.false c.loop-i.invariant
