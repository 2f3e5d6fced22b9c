use Rattle.std.proofs.Common.{◌≡◌, ◌++◌, drop}
use Rattle.std.specs.List.{filter_map}
use Rattle.cxx_subobject.specs.Subobjects.{class_of}
use Rattle.abi_rtti.proofs.walk.classes_in.Given as goal

abbrev pub invariant-loop-s : goal.invariant-loop-s
invariant-loop-s l = l.classes.items ++ filter_map class_of (drop l.s-index l.s-items) ≡ filter_map class_of l.s-items
