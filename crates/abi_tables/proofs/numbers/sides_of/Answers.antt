use Rattle.std.proofs.Common.{subst, sym}
use Rattle.abi_sound.specs.Places.{places_of}
use Rattle.abi_tables.specs.invariants.Weights.{AreNumbers, sides}
use Rattle.abi_tables.proofs.numbers.sides_of.Goals as goal

pub returns : goal.returns
returns g c = λ f are.
    let h = c.args.h.now in
    let l = places_of h (g.L.SoundLayout.rows c.args.layout.now) in
    c.in_ok-sums.ensures (sides h l f) (subst (AreNumbers h (sides h l f)) (sym c.deref.ensures.value) (c.in_ok-sides.ensures f are))
