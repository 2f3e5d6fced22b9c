-- What a piece of a statement comes to by itself.
use Rattle.std.specs.Prelude.{Result, List, []}
use Rattle.cxx_hierarchy.specs.declared.stop.Stop.{Stop}
use Rattle.cxx_expression.specs.Checked.{Checked}
use Rattle.cxx_expression.specs.Faults.{least, settled}

-- the fault that counts, or what is typed
abbrev pub settle : {X : Type 0} → Checked X → Result X Stop
settle p = settled (least (p.faults [])) p.typed
