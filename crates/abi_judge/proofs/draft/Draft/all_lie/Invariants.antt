use Rattle.std.proofs.Common.{◌≡◌, ℕ, ◌<◌, Some}
use Rattle.std.specs.List.{slice_get}
use Rattle.cxx_subobject.specs.declared.Subobject.{Subobject}
use Rattle.abi_sound.specs.Places.{places_of}
use Rattle.abi_judge.specs.invariants.Places.{LiesAtPrimary}
use Rattle.abi_judge.proofs.draft.Draft.all_lie.Given as goal

abbrev pub invariant-loop-s : goal.invariant-loop-s
invariant-loop-s l = (i : ℕ) (s : Subobject) → i < l.s-index → slice_get l.list i ≡ Some s → LiesAtPrimary (places_of l.self.h.now l.self.rows.now) l.c s
