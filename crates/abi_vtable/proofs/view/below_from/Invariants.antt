use Rattle.std.proofs.Common.{◌∷◌, [], ◌++◌, ◌≡◌, ◌<◌, ◌≤◌, ℕ, Some}
use Rattle.std.specs.List.{slice_get}
use Rattle.cxx_subobject.specs.Subobjects.{subobject}
use Rattle.abi_vtable.proofs.view.below_from.Given as goal

-- none from there so far is the one
abbrev pub invariant-loop-n : goal.invariant-loop-n
invariant-loop-n l = (k : ℕ) → k < l.n → l.from ≤ k → slice_get l.list k ≡ Some (subobject l.s.root (l.s.path ++ l.b ∷ [])) → ⊥
