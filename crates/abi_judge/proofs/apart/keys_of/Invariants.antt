use Rattle.std.proofs.Common.{◌≡◌, take}
use Rattle.std.specs.List.{filter_map}
use Rattle.abi_judge.specs.invariants.Things.{key_in}
use Rattle.abi_judge.proofs.apart.keys_of.Given as goal

abbrev pub invariant-loop-thing : goal.invariant-loop-thing
invariant-loop-thing l = l.keys.items ≡ filter_map key_in (take l.thing-index l.things)
