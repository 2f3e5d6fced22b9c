use Rattle.std.proofs.Common.{◌≡◌, length, drop}
use Rattle.path_numbers.specs.Sizes.{sizes_of}
use Rattle.path_numbers.specs.invariants.Sharing.{meet_all, IsSharing}
use Rattle.path_numbers.proofs.sharing.Sharing.meet_all.Given as goal

-- those so far were met, and the rest is still to be met
abbrev pub invariant-loop-v : goal.invariant-loop-v
invariant-loop-v l = record {
  sharing : IsSharing (sizes_of l.h) l.self;
  order : meet_all l.self.order.items (drop l.v-index l.list) ≡ meet_all l.fn.self.order.items l.list;
  start : l.self.start ≡ l.fn.self.start;
  places : length l.self.offsets.items ≡ length l.fn.self.offsets.items;
}
