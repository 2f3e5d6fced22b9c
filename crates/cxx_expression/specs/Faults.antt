-- The refusals of a statement, and the least of them.
use Rattle.std.specs.Prelude.{Bool, true, false, nat_lt, if◌then◌else◌, Option, Some, None, Result, Ok, Err, List, [], ◌∷◌}
use Rattle.cxx_hierarchy.specs.Stops.{rule_no}
use Rattle.cxx_hierarchy.specs.declared.stop.Stop.{Stop}
use Rattle.cxx_hierarchy.specs.declared.stop.Stop.TheVariants.{Refused}
use Rattle.cxx_expression.specs.declared.faults.Fault.{Fault}

-- the least number counts, and of one number the first place
abbrev pub is_before : Fault → Fault → Bool
is_before f g = if nat_lt (rule_no f.rule) (rule_no g.rule) then true else if nat_lt (rule_no g.rule) (rule_no f.rule) then false else nat_lt f.at g.at

-- of two faults the one that counts
abbrev pub lesser : Fault → Option Fault → Fault
lesser f None = f
lesser f (Some g) = if is_before g f then g else f

-- the fault that counts
abbrev pub least : List Fault → Option Fault
least [] = None
least (f ∷ fs) = Some (lesser f (least fs))

-- what a source is refused with
abbrev pub stopped_by : Fault → Stop
stopped_by f = Refused f.rule f.at

-- the fault that counts, or what is typed
abbrev pub settled : {X : Type 0} → Option Fault → Result X Fault → Result X Stop
settled (Some f) typed = Err (stopped_by f)
settled None (Err f) = Err (stopped_by f)
settled None (Ok x) = Ok x
