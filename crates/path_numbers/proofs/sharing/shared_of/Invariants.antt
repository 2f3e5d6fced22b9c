use Rattle.std.proofs.Common.{◌≡◌, [], length, drop}
use Rattle.std.specs.List.{flat_map}
use Rattle.path_numbers.specs.Sizes.{sizes_of}
use Rattle.path_numbers.specs.invariants.Sharing.{meet_all, brings, IsSharing}
use Rattle.path_numbers.proofs.sharing.shared_of.Given as goal

-- what the bases so far bring was met, and the rest is still to be met
abbrev pub invariant-loop-base : goal.invariant-loop-base
invariant-loop-base l = record {
  sharing : IsSharing (sizes_of l.h) l.sharing;
  order : meet_all l.sharing.order.items (flat_map (brings l.h) (drop l.base-index l.bases)) ≡ meet_all [] (flat_map (brings l.h) l.bases);
  start : l.sharing.start ≡ l.start;
  places : length l.sharing.offsets.items ≡ length l.rows;
}
