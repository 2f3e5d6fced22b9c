use Rattle.std.proofs.Common.{◌<◌, ℕ}
use Rattle.cxx_subobject.specs.declared.Root.TheVariants.{Whole}
use Rattle.cxx_overrider.specs.Functions.{Signature}
use Rattle.cxx_overrider.specs.invariants.Numbers.{IsNumberOf}
use Rattle.cxx_overrider.specs.invariants.Abstract.{HasPureAt}
use Rattle.cxx_overrider.proofs.abstracts.has_pure_whole.Given as goal

-- no signature so far
abbrev pub invariant-loop-n : goal.invariant-loop-n
invariant-loop-n l = (m : ℕ) (s : Signature) → m < l.n → IsNumberOf l.site.h.now l.site.tables.now.numbering.rows.items m s → HasPureAt l.site.h.now l.site.c Whole s → ⊥
