use Rattle.std.proofs.Common.{◌≡◌, ◌++◌, drop}
use Rattle.std.specs.List.{flat_map}
use Rattle.abi_rtti.specs.TypeInfos.{named_virtual}
use Rattle.abi_rtti.proofs.walk.virtual_edges.Given as goal

abbrev pub invariant-loop-d : goal.invariant-loop-d
invariant-loop-d l = l.edges.items ++ flat_map (named_virtual l.h) (drop l.d-index l.classes) ≡ flat_map (named_virtual l.h) l.classes
