use Rattle.std.proofs.Common.{◌<◌}
use Rattle.cxx_hierarchy.specs.declared.records.ClassId.{ClassId}
use Rattle.cxx_subobject.specs.declared.Root.TheVariants.{Shared}
use Rattle.cxx_overrider.specs.Functions.{Signature}
use Rattle.cxx_overrider.specs.invariants.Abstract.{HasPureAt}
use Rattle.cxx_overrider.proofs.abstracts.is_abstract_class.Given as goal

-- no virtual base so far
abbrev pub invariant-loop-number : goal.invariant-loop-number
invariant-loop-number l = (v : ClassId) (s : Signature) → v.0 < l.number → HasPureAt l.site.h.now l.site.c (Shared v) s → ⊥
