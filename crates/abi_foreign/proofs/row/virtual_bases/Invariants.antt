use Rattle.std.proofs.Common.{◌≡◌, take}
use Rattle.std.specs.List.{filter_map}
use Rattle.cxx_subobject.specs.VirtualBases.{shared_class}
use Rattle.abi_foreign.proofs.row.virtual_bases.Given as goal

-- the virtual bases among the subobjects so far
abbrev pub invariant-loop-s : goal.invariant-loop-s
invariant-loop-s l = l.bases ≡ filter_map shared_class (take l.s-index l.list)
