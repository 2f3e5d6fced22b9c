use Rattle.std.proofs.Common.{refl}
use Rattle.agree_dispatch.proofs.Viewing.{lie_alone, seen_placed}
use Rattle.agree_dispatch.proofs.laws.views_stand.Goals as goal

pub returns-clause-itself : goal.returns-clause-itself
returns-clause-itself _ h rows d class at y = record { start = at; each = λ s there. refl }

pub returns-clause-alone : goal.returns-clause-alone
returns-clause-alone _ h rows d class at y keeps valid of_class none = lie_alone h rows d class at y keeps valid of_class none

pub returns-clause-seen : goal.returns-clause-seen
returns-clause-seen _ h rows group x placed keeps fine sound of complete view class tables stands = seen_placed h rows group x placed keeps fine sound of complete view class tables stands
