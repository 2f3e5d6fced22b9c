use Rattle.std.proofs.Common.{◌∙◌, ℕ, List, ◌∷◌, refl, sym, subst, inl}
use Rattle.foundation.proofs.Members.{Has, contains_from_has, has_right}
use Rattle.abi_inspect.proofs.Cuts.{same_cut}
use Rattle.abi_inspect.proofs.splits.before_byte.Goals as goal

pub returns-in-Some : goal.returns-in-Some
returns-in-Some c = λ front rest is before.
    (same_cut c.in-Some.front.now c.in-Some.field-0-1.now front rest c.args.byte (sym c.in-Some.ensures.0 ∙ is)
    (λ has. c.in-Some.ensures.1 (contains_from_has c.in-Some.front.now c.args.byte has))
    (λ has. before (contains_from_has front c.args.byte has))).0

pub returns-in-None : goal.returns-in-None
returns-in-None c = λ front rest is before.
    absurd (c.in-None.ensures (contains_from_has c.args.text.now c.args.byte (subst (λ (text : List ℕ). Has text c.args.byte) (sym is) (has_right front (c.args.byte ∷ rest) c.args.byte (inl refl)))))
