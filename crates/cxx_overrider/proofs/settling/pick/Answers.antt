use Rattle.cxx_overrider.proofs.SettlingLemmas.{two_tops}
use Rattle.cxx_overrider.proofs.settling.pick.Goals as goal

pub returns-in-Some : goal.returns-in-Some
returns-in-Some c = λ o. two_tops c.args.h.now c.args.xs.now _ c.highest-best.result c.in-Some.other c.highest.result o c.in-Some.ensures.0 c.in-Some.ensures.1 (c.highest-best.ensures.above o) (c.highest.ensures.above o)
