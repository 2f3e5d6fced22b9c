use Rattle.std.proofs.Common.{◌≡◌, ◌<◌, ℕ, Some}
use Rattle.std.specs.List.{slice_get}
use Rattle.cxx_subobject.specs.declared.Root.TheVariants.{Shared}
use Rattle.cxx_overrider.specs.Functions.{Signature}
use Rattle.cxx_overrider.specs.invariants.Numbers.{row_of, IsNumberOf}
use Rattle.cxx_overrider.specs.invariants.Abstract.{HasPureAt}
use Rattle.cxx_overrider.proofs.abstracts.has_pure_base.Given as goal

-- no signature so far
abbrev pub invariant-loop-n : goal.invariant-loop-n
invariant-loop-n l = record {
  items : l.n-items ≡ row_of l.site.tables.now.within.items l.fn.v;
  none : (i n : ℕ) (s : Signature) → i < l.n-index → slice_get l.n-items i ≡ Some n → IsNumberOf l.site.h.now l.site.tables.now.numbering.rows.items n s → HasPureAt l.site.h.now l.site.c (Shared l.fn.v) s → ⊥;
}
