use Rattle.std.proofs.Common.{◌≡◌, ◌<◌, ℕ}
use Rattle.std.specs.Prelude.{Some, slice_get}
use Rattle.cxx_subobject.specs.declared.Subobject.{Subobject}
use Rattle.path_tables.specs.invariants.Targets.{IsWanted, IsOther}
use Rattle.path_tables.proofs.casts.other_wanted.Given as goal

-- none so far is another one
abbrev pub invariant-loop-i : goal.invariant-loop-i
invariant-loop-i l = (j : ℕ) (t : Subobject) → j < l.i → slice_get l.cast.parts.now j ≡ Some t → IsOther (IsWanted l.cast.h.now l.cast.target l.cast.view.now l.cast.source.now l.over) l.skip j t → ⊥
