use Rattle.std.proofs.Common.{refl}
use Rattle.abi_foreign.proofs.Found.{none_then}
use Rattle.abi_foreign.proofs.class_lines.whole_at.Goals as goal

pub returns-in_err-place : goal.returns-in_err-place
returns-in_err-place c = none_then c.from_residual.result _ _ c.from_residual.ensures c.in_err-place.ensures

pub returns : goal.returns
returns c = (c.in_ok-place.ensures, refl)
