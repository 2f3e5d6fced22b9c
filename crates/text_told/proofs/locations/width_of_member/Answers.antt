use Rattle.std.proofs.Common.{◌∙◌, ap, sym}
use Rattle.cxx_hierarchy.specs.Classes.{width_in}
use Rattle.text_told.proofs.Leading.{width_near}
use Rattle.text_told.proofs.locations.width_of_member.Goals as goal

pub returns-in-Some-clause-few : goal.returns-in-Some-clause-few
returns-in-Some-clause-few c = λ n e. (width_near c.args.h.now c.keeps.ensures c.args.d c.args.m n (ap width_in (sym c.in-Some.ensures) ∙ e)).1
