use Rattle.cxx_hierarchy.proofs.Returns.{return_known}
use Rattle.path_effects.proofs.results.pointee.Goals as goal

pub returns-in-Pointer-clause-known : goal.returns-in-Pointer-clause-known
returns-in-Pointer-clause-known c = return_known c.args.h.now c.keeps.ensures c.args.f.class c.in-Pointer.class c.args.f.index c.in-Some.function.now c.in-Value.value c.in-Some.ensures c.in-Value.is c.in-Pointer.is
