use Rattle.std.proofs.Common.{refl, ap, ◌+◌, ◌%◌, ◌^◌}
use Rattle.std.proofs.lemmas.Option.{slice_get_within}
use Rattle.cxx_hierarchy.specs.Classes.{bases_of}
use Rattle.path_events.proofs.Inside.{base_stands}
use Rattle.path_events.proofs.kids.base_kid.Goals as goal

pub returns-clause-part : goal.returns-clause-part
returns-clause-part c = λ classes form p stands direct.
    base_stands c.args.h.now c.keeps.ensures classes c.args.part form p stands c.args.i c.args.base.now c.requires.listed direct _ refl refl refl
    (ap (λ n. (c.args.part.number + n) % 2 ^ 64) (c.base_offset.ensures c.args.h.now c.requires.numbers (slice_get_within (bases_of c.args.h.now c.args.part.class) c.args.i c.args.base.now c.requires.listed)))
