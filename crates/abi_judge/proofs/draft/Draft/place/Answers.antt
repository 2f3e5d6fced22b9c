use Rattle.std.proofs.Common.{◌≡◌, List, length, ap, arith}
use Rattle.cxx_hierarchy.specs.declared.records.ClassId.{ClassId}
use Rattle.abi_judge.proofs.Known.{path_short}
use Rattle.abi_judge.proofs.draft.Draft.place.Goals as goal

pub place_from-requires-clause-short : goal.place_from-requires-clause-short
place_from-requires-clause-short c =
    let short = path_short c.args.self.now.h.now c.requires.draft.keeps c.args.c c.args.s.now c.requires.known c.requires.subobject in
    let few = c.requires.draft.keeps.few in
    let same : length c.as_slice.result.now ≡ length c.args.s.now.path = ap (λ (l : List ClassId). length l) c.as_slice.ensures in
    omega (arith, short, few, same)
