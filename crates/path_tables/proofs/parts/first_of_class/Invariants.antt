use Rattle.std.proofs.Common.{◌≡◌, drop}
use Rattle.std.specs.Prelude.{find}
use Rattle.cxx_subobject.specs.Subobjects.{is_of_class}
use Rattle.path_tables.proofs.parts.first_of_class.Given as goal

-- none so far is of the class
abbrev pub invariant-loop-i : goal.invariant-loop-i
invariant-loop-i l = find (is_of_class l.d) l.parts ≡ find (is_of_class l.d) (drop l.i l.parts)
