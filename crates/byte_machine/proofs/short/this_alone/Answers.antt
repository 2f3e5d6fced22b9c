use Rattle.std.proofs.Common.{◌≡◌, ℕ, Option, List, ◌∷◌, [], length, true, refl, ap, subst, sym, ◌∙◌}
use Rattle.std.specs.Prelude.{IfSome, is_none}
use Rattle.std.specs.List.{list_all}
use Rattle.byte_machine.specs.Frames.{entry_registers}
use Rattle.byte_machine.proofs.Stacked.{this_first}
use Rattle.byte_machine.proofs.short.this_alone.Goals as goal

pub returns : goal.returns
returns c =
    let is : c.args.registers.now ≡ c.in_ok-first.first.now ∷ c.in_ok-first.rest.now = c.in_ok-first.ensures.cases.0 in
    let long : length (c.in_ok-first.first.now ∷ c.in_ok-first.rest.now) ≡ c.args.size = ap length (sym is) ∙ search in
    let unset : list_all is_none c.in_ok-first.rest.now ≡ true = sym c.are_unset.ensures ∙ c.if-not-are_unset.false in
    subst (λ (registers : List (Option ℕ)). IfSome c.in_ok-first.first.now (λ this. registers ≡ entry_registers c.args.size this [])) (sym is) (this_first c.args.size c.in_ok-first.first.now c.in_ok-first.rest.now long unset)
