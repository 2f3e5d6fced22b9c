use Rattle.cxx_overrider.proofs.PureLemmas.{blank_pure}
use Rattle.cxx_overrider.proofs.within.pure_rows.Goals as goal

pub returns-in_ok-blank-clause-marks : goal.returns-in_ok-blank-clause-marks
returns-in_ok-blank-clause-marks c = blank_pure _ _ _ c.in_ok-blank.ensures.blank (c.has_pure_function.ensures c.if-has_pure_function.false)
