use Rattle.agree_dispatch.proofs.Joining.{cast_can, cast_answers}
use Rattle.agree_dispatch.proofs.Hinting.{standing_hint}
use Rattle.agree_dispatch.proofs.cast_laws.casts.Goals as goal

pub returns-clause-can : goal.returns-clause-can
returns-clause-can _ h rows x placed memory start parts s c stands few there class dynamic = cast_can h rows x placed memory start stands parts s c few there class dynamic

pub returns-clause-answer : goal.returns-clause-answer
returns-clause-answer _ h rows x placed memory start s c target result stands there class dynamic casts = cast_answers h rows x placed memory start stands s c target result there class dynamic casts

pub returns-clause-hint : goal.returns-clause-hint
returns-clause-hint _ h rows x placed memory start s c target b stands there class dynamic base = standing_hint h rows x placed memory start stands s c c target b there class dynamic base
