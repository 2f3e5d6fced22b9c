use Rattle.std.proofs.Common.{◌≡◌, ◌++◌, map, take}
use Rattle.byte_code.specs.declared.op.Op.TheVariants.{SetTable}
use Rattle.code_plans.proofs.pointers.push_settings.Given as goal

abbrev pub invariant-loop-setting : goal.invariant-loop-setting
invariant-loop-setting l = l.ops ≡ l.fn.ops ++ map SetTable (take l.setting-index l.settings)
