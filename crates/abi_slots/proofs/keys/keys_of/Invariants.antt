use Rattle.std.proofs.Common.{◌≡◌, ◌++◌, drop}
use Rattle.std.specs.List.{flat_map}
use Rattle.abi_slots.specs.Listing.{keys_of}
use Rattle.abi_slots.proofs.keys.keys_of.Given as goal

abbrev pub invariant-loop-f : goal.invariant-loop-f
invariant-loop-f l = l.keys.items ++ flat_map (keys_of l.h) (drop l.f-index l.own) ≡ flat_map (keys_of l.h) l.own
