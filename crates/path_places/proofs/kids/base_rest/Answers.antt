use Rattle.std.proofs.Common.{arith}
use Rattle.foundation.proofs.Places.{contains_at}
use Rattle.std.proofs.lemmas.Option.{slice_get_within}
use Rattle.cxx_hierarchy.specs.Classes.{bases_of}
use Rattle.path_places.proofs.Holding.{base_rest_is}
use Rattle.path_places.proofs.kids.base_rest.Goals as goal

pub as_base-requires : goal.as_base-requires
as_base-requires c =
    let less = c.keeps.ensures.bases c.args.c c.args.base.now (contains_at (bases_of c.args.world.now.h.now c.args.c) c.args.i c.args.base.now c.requires.listed) in
    let size = c.requires.world.are_numbers.size in
    let known = c.requires.known in
    omega arith

pub returns : goal.returns
returns c =
    let h = c.args.world.now.h.now in
    base_rest_is h c.args.c c.args.n c.args.i c.args.base.now c.if-base.false c.base_offset.result c.as_base.result
    (c.base_offset.ensures h c.requires.world.are_numbers (slice_get_within (bases_of h c.args.c) c.args.i c.args.base.now c.requires.listed)) (c.as_base.ensures h c.requires.world.are_numbers) c.rest_of.result c.rest_of.ensures
