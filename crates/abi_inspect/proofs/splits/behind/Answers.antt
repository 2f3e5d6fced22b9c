use Rattle.std.proofs.Common.{◌∙◌, length, take, ap}
use Rattle.std.proofs.lemmas.Bool.Decides.{Decides-eqb}
use Rattle.std.proofs.lemmas.Slice.Eq.{slice_eq-Decides}
use Rattle.foundation.proofs.Truth.{not_both}
use Rattle.abi_inspect.proofs.Cuts.{front_is}
use Rattle.abi_inspect.proofs.splits.behind.Goals as goal

pub returns-else-eq : goal.returns-else-eq
returns-else-eq c = λ rest e.
    not_both ((slice_eq-Decides Decides-eqb c.split_at.result.0.now c.args.front.now c.eq.result c.eq.ensures).1
    (c.split_at.ensures.front ∙ (ap (take (length c.args.front.now)) e ∙ front_is c.args.front.now rest))) c.if-eq.false
