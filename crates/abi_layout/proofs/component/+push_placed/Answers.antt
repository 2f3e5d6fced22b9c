use Rattle.std.proofs.Common.{ℕ, ◌≤◌, List, subst, sym, arith}
use Rattle.std.specs.Prelude.{All}
use Rattle.std.proofs.lemmas.List.Elements.{All-head, All-tail}
use Rattle.abi_emptybase.specs.declared.Part.{Part}
use Rattle.abi_layout.specs.Limits.{size_limit}
use Rattle.abi_layout.specs.invariants.Alignments.{AreFit, LieUpTo}
use Rattle.abi_layout.proofs.rules.Parts.{within_fits}
use Rattle.abi_layout.proofs.component.+push_placed.Goals as goal

pub push_moved-requires : goal.push_moved-requires
push_moved-requires t c =
    let component = c.in-Some.component.now in
    let place = c.in-Some-split_first.place.now in
    let fit = subst AreFit c.in-Some.ensures.cases.0 c.requires.fit in
    let takes = fit.0.takes in
    let small = All-head (λ (p : ℕ). p ≤ size_limit) place c.in-Some-split_first.places.now (subst (λ (ps : List ℕ). All (λ (p : ℕ). p ≤ size_limit) ps) c.in-Some-split_first.ensures.cases.0 c.requires.places) in
    within_fits component.takes place c.as_slice.result.now (omega arith) (subst (λ (parts : List Part). LieUpTo component.takes parts) (sym c.as_slice.ensures) fit.0.parts)

pub push_placed-requires : goal.push_placed-requires
push_placed-requires t c =
    let place = c.in-Some-split_first.place.now in
    let shorter = c.in-Some.ensures.cases.1 in
    let fit = subst AreFit c.in-Some.ensures.cases.0 c.requires.fit in
    let small = All-tail (λ (p : ℕ). p ≤ size_limit) place c.in-Some-split_first.places.now (subst (λ (ps : List ℕ). All (λ (p : ℕ). p ≤ size_limit) ps) c.in-Some-split_first.ensures.cases.0 c.requires.places) in
    (omega arith, (fit.1, small))
