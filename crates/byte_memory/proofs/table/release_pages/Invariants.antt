use Rattle.std.proofs.Common.{◌≡◌, ℕ}
use Rattle.std.specs.Prelude.{if◌then◌else◌}
use Rattle.std.specs.List.{find}
use Rattle.byte_memory.specs.Bits.{is_among_places}
use Rattle.byte_memory.specs.Pages.{numbered, released}
use Rattle.byte_memory.proofs.Tables.{AreOrdered}
use Rattle.byte_memory.proofs.table.release_pages.Given as goal

abbrev pub invariant-loop-k : goal.invariant-loop-k
invariant-loop-k l = record {
  ascending : AreOrdered l.pages.items;
  released : (other : ℕ) → find (numbered other) l.pages.items ≡ (if is_among_places l.first l.k other then released (find (numbered other) l.initial.pages.items) else find (numbered other) l.initial.pages.items);
}
