use Rattle.std.proofs.Common.{◌≡◌, ℕ, ◌+◌, ◌-◌, length}
use Rattle.std.specs.Prelude.{slice_index_or}
use Rattle.path_columns.proofs.pages.reach.Given as goal

abbrev pub invariant-loop-blank : goal.invariant-loop-blank
invariant-loop-blank g l = (i : ℕ) → slice_index_or l.list.items i l.blank ≡ slice_index_or l.initial.list.items i l.blank

abbrev pub decreases-loop-blank : goal.decreases-loop-blank
decreases-loop-blank g l = l.place + 1 - length l.list.items
