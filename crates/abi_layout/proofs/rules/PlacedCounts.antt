-- How many places there are, and a single copy.
use Rattle.std.proofs.Common.{◌≡◌, ℕ, ◌*◌, List, [], ◌∷◌, length, refl, arith}
use Rattle.abi_layout.specs.declared.component.Component.{Component}
use Rattle.abi_layout.specs.declared.component.Stage.{Stage}
use Rattle.abi_layout.specs.Placements.{stage_after, ArePlaced}

pub no_copies : (e s : ℕ) → e ≡ 0 → e * s ≡ 0
no_copies e s z = rw z (omega arith)

pub placed_length : (st : Stage) (cs : List Component) (ps : List ℕ) → ArePlaced st cs ps → length ps ≡ length cs
placed_length st [] [] l = refl
placed_length st [] (p ∷ ps) l = absurd l
placed_length st (c ∷ cs) [] l = absurd l
placed_length st (c ∷ cs) (p ∷ ps) l = let r = placed_length (stage_after st c p) cs ps l.1 in omega arith
