use Rattle.std.proofs.Common.{◌∙◌, ap}
use Rattle.foundation.proofs.Truth.{always}
use Rattle.cxx_subobject.proofs.PathLemmas.{class_found, class_inside}
use Rattle.abi_sound.specs.Places.{places_of, primary_in}
use Rattle.abi_judge.proofs.Judged.{lies_alone, direct_lies, held_told}
use Rattle.abi_judge.proofs.Known.{row_known}
use Rattle.abi_judge.proofs.draft.Draft.lies_at_primary.Goals as goal

pub row-requires : goal.row-requires
row-requires c =
    let h = c.args.self.now.h.now in
    let class = class_found h c.args.c c.class_or_first-d.result c.args.s.now c.requires.subobject c.class_or_first-d.ensures in
    row_known c.args.self.now c.requires.draft c.class_or_first-d.result (class_inside h c.requires.draft.keeps c.args.c c.class_or_first-d.result c.args.s.now c.requires.known c.requires.subobject class)

pub returns-in-None : goal.returns-in-None
returns-in-None c =
    let h = c.args.self.now.h.now in
    let class = class_found h c.args.c c.class_or_first-d.result c.args.s.now c.requires.subobject c.class_or_first-d.ensures in
    always (lies_alone (places_of h c.args.self.now.rows.now) c.args.c c.class_or_first-d.result c.args.s.now class (ap primary_in c.row.ensures ∙ c.in-None.is))

pub returns-in-Direct : goal.returns-in-Direct
returns-in-Direct c =
    let h = c.args.self.now.h.now in
    let class = class_found h c.args.c c.class_or_first-d.result c.args.s.now c.requires.subobject c.class_or_first-d.ensures in
    direct_lies h c.args.self.now.rows.now c.args.c c.class_or_first-d.result c.in-Direct.b c.args.s.now c.base_place.result class (ap primary_in c.row.ensures ∙ c.in-Direct.is) c.base_place.ensures.is

pub returns-in-Virtual : goal.returns-in-Virtual
returns-in-Virtual c =
    let h = c.args.self.now.h.now in
    let class = class_found h c.args.c c.class_or_first-d.result c.args.s.now c.requires.subobject c.class_or_first-d.ensures in
    held_told h c.args.self.now.rows.now c.args.c c.class_or_first-d.result c.in-Virtual.v c.args.s.now c.lies_at_held.result class (ap primary_in c.row.ensures ∙ c.in-Virtual.is) c.lies_at_held.ensures
