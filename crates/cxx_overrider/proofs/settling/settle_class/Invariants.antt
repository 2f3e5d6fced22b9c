use Rattle.cxx_overrider.specs.invariants.EntryTables.{KeepsBefore}
use Rattle.cxx_overrider.specs.invariants.Settling.{IsMade}
use Rattle.cxx_overrider.proofs.settling.settle_class.Given as goal

abbrev pub invariant-loop-number : goal.invariant-loop-number
invariant-loop-number l = record {
  made : IsMade l.site.h.now l.site.tables.now.numbering.rows.items l.entries l.site.c.0 l.number 0;
  kept : KeepsBefore l.site.c l.fn.entries l.entries;
}
