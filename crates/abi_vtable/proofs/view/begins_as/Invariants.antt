use Rattle.std.proofs.Common.{◌≡◌, take}
use Rattle.cxx_subobject.specs.Subobjects.{same_path}
use Rattle.abi_vtable.proofs.view.begins_as.Given as goal

-- the classes so far are the same
abbrev pub invariant-loop-i : goal.invariant-loop-i
invariant-loop-i l = l.same ≡ same_path (take l.i l.path) (take l.i l.front)
