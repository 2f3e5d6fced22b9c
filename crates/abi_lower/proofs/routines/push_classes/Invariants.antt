use Rattle.std.proofs.Common.{◌≡◌, ◌++◌, ◌-◌, length}
use Rattle.std.specs.List.{flat_map}
use Rattle.abi_lower.specs.invariants.Numbers.{plan_routines, class_ids}
use Rattle.abi_lower.specs.invariants.Codes.{routines_from, class_ids_from}
use Rattle.abi_lower.proofs.routines.push_classes.Given as goal

abbrev pub invariant-loop-n : goal.invariant-loop-n
invariant-loop-n l =
    routines_from l.list ++ flat_map plan_routines (class_ids_from l.n (length l.h - l.n))
    ≡ routines_from l.initial.list ++ flat_map plan_routines (class_ids (length l.h))
