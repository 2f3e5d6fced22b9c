use Rattle.std.proofs.Common.{◌≡◌}
use Rattle.cxx_overrider.specs.invariants.Numbers.{row_of}
use Rattle.cxx_overrider.specs.invariants.EntryTables.{KeepsBefore}
use Rattle.cxx_overrider.proofs.Made.{IsMadeTo}
use Rattle.cxx_overrider.proofs.settling.settle_base.Given as goal

-- the table is made up to the next number of the base
abbrev pub invariant-loop-n : goal.invariant-loop-n
invariant-loop-n l = record {
  items : l.n-items ≡ row_of l.site.tables.now.within.items l.fn.v;
  kept : KeepsBefore l.site.c l.fn.entries l.entries;
  made : IsMadeTo l.site.h.now l.site.tables.now.numbering.rows.items l.entries l.site.c.0 l.fn.v.0 (row_of l.site.tables.now.within.items l.fn.v) l.n-index;
}
