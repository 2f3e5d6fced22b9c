use Rattle.cxx_subobject.proofs.PathLemmas.{class_inside}
use Rattle.abi_judge.proofs.draft.Draft.part.Goals as goal

pub align_of-requires-clause-known : goal.align_of-requires-clause-known
align_of-requires-clause-known c = class_inside c.args.self.now.h.now c.keeps.ensures c.args.e c.args.d c.args.s.now c.requires.known c.requires.subobject c.requires.class
