use Rattle.std.proofs.Common.{◌≡◌}
use Rattle.cxx_hierarchy.specs.Classes.{bases_of}
use Rattle.cxx_overrider.specs.Functions.{Signature}
use Rattle.cxx_overrider.specs.invariants.Numbers.{IsNumberOf}
use Rattle.cxx_overrider.specs.invariants.Settling.{TellsBefore, AreCandidates}
use Rattle.cxx_overrider.proofs.settling.candidates.Given as goal

-- the entries of the bases so far
abbrev pub invariant-loop-base : goal.invariant-loop-base
invariant-loop-base l = record {
  items : l.base-items ≡ bases_of l.site.h.now l.site.c;
  found : (s : Signature) → IsNumberOf l.site.h.now l.site.tables.now.numbering.rows.items l.n s → TellsBefore l.site.h.now l.entries l.site.c l.v l.n s → AreCandidates l.site.h.now l.site.c l.v s l.base-index l.found.items;
}
