use Rattle.std.proofs.Common.{◌≡◌, ◌+◌, ◌*◌, length, take}
use Rattle.abi_slots.specs.Images.{all_words}
use Rattle.abi_image.specs.invariants.Points.{ArePointsOf}
use Rattle.abi_image.proofs.points.points_of_tables.Given as goal

abbrev pub invariant-loop-table : goal.invariant-loop-table
invariant-loop-table l = record {
  points : ArePointsOf l.at (take l.table-index l.tables) l.points;
  here : l.here ≡ l.at + 8 * length (all_words (take l.table-index l.tables));
}
