use Rattle.std.proofs.Common.{◌≡◌, ◌++◌, drop}
use Rattle.std.specs.List.{filter}
use Rattle.cxx_overrider.specs.Virtuals.{is_virtual}
use Rattle.abi_slots.proofs.functions.own_functions.Given as goal

abbrev pub invariant-loop-f : goal.invariant-loop-f
invariant-loop-f l = l.list.items ++ filter (is_virtual l.h) (drop l.f-index l.f-items) ≡ filter (is_virtual l.h) l.f-items
