use Rattle.std.proofs.Common.{◌≡◌, ℕ, List, Some, ap, sym, ◌∙◌}
use Rattle.cxx_overrider.specs.invariants.Numbers.{number_of}
use Rattle.cxx_overrider.proofs.MarkLemmas.{number_says, own_decided}
use Rattle.cxx_overrider.proofs.virtuals.says_own_virtual.Goals as goal

pub returns-in-Some : goal.returns-in-Some
returns-in-Some c = λ s k.
    let h = c.args.h.now in
    let rows = c.args.numbering.now.rows.items in
    let number : number_of rows c.in-Some.f ≡ Some c.args.n = ap (λ (r : List (List ℕ)). number_of r c.in-Some.f) (sym c.deref.ensures.value) ∙ c.in-Some.ensures.1 in
    own_decided h c.keeps.ensures c.args.c s c.in-Some.f c.says_virtual.result c.in-Some.ensures.0 (number_says h rows c.args.numbering.now.count c.args.n s c.in-Some.f c.requires.numbering k number) c.says_virtual.ensures
