-- The plan frame that was taken from the top.
use Rattle.std.specs.Prelude.{Option, Some, None}
use Rattle.path_machine.specs.declared.frames.PlanFrame.{PlanFrame}
use Rattle.path_machine.specs.declared.frames.Frame.{Frame}
use Rattle.path_machine.specs.declared.frames.Frame.TheVariants.{Body, Plan}

-- a frame that may be there, where it is that of a plan
abbrev pub plan_in : Option Frame → Option PlanFrame
plan_in None = None
plan_in (Some (Body f)) = None
plan_in (Some (Plan f)) = Some f
