-- How a run ends, and the answer of the machine's last turn.
use Rattle.std.specs.Prelude.{ℕ, ◌+◌}
use Rattle.cxx_hierarchy.specs.Stops.{limit_no}
use Rattle.path_rules.specs.Rules.{undefined_no}
use Rattle.byte_machine.specs.declared.turn.MachineTurn.{MachineTurn}
use Rattle.byte_machine.specs.declared.turn.MachineTurn.TheVariants.{Ended, Refused, OutOfSteps as NoSteps, Limit as LimitTurn}
use Rattle.text_told.specs.declared.ending.End.{End}
use Rattle.text_told.specs.declared.ending.End.TheVariants.{Done, Undefined, OutOfSteps, Limit}

-- the answer of the turn that ended the run
abbrev pub turn_of : End → MachineTurn
turn_of Done = Ended
turn_of (Undefined rule line) = Refused (undefined_no rule) line
turn_of OutOfSteps = NoSteps
turn_of (Limit limit) = LimitTurn (limit_no limit)

-- the steps of a run that ends behind so many: the end of `main` is one more
abbrev pub counted_by : ℕ → End → ℕ
counted_by n Done = n + 1
counted_by n (Undefined rule line) = n
counted_by n OutOfSteps = n
counted_by n (Limit limit) = n
