use Rattle.abi_primary.proofs.KindLemmas.{base_within}
use Rattle.abi_primary.proofs.nearly_empty.is_nearly_empty.Goals as goal

pub are_light-requires : goal.are_light-requires
are_light-requires c = base_within c.args.h.now c.args.c c.class-class.result.now c.as_slice-bases.result.now c.keeps.ensures c.requires.known c.class-class.ensures c.as_slice-bases.ensures
