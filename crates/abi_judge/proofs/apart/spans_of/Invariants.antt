use Rattle.std.proofs.Common.{◌≡◌, take}
use Rattle.std.specs.List.{filter_map}
use Rattle.abi_judge.specs.invariants.Things.{span_in}
use Rattle.abi_judge.proofs.apart.spans_of.Given as goal

abbrev pub invariant-loop-thing : goal.invariant-loop-thing
invariant-loop-thing l = l.spans.items ≡ filter_map span_in (take l.thing-index l.things)
