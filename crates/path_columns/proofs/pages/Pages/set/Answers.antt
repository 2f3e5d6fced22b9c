use Rattle.std.proofs.Common.{◌≡◌, ◌<◌, ℕ, List, ◌-◌, ◌/◌, ◌%◌, ◌∙◌, suc, ap, sym, subst, arith}
use Rattle.std.specs.Prelude.{nat_eq, if◌then◌else◌, slice_index_or}
use Rattle.path_columns.specs.Paged.{paged, ArePages}
use Rattle.path_columns.proofs.Paging.{pages_set}
use Rattle.path_columns.proofs.Halving.{halves_set, from_halves}
use Rattle.path_columns.proofs.pages.Pages.set.Goals as goal

pub invariant_of-self : goal.invariant_of-self
invariant_of-self c =
    let mid = c.reach_halves.new.self in
    let at = c.in_ok-place.ensures.open in
    let here : c.in_ok-place.place ≡ suc (c.in_ok-place.place - 1) = let e = at.0 in omega arith in
    let below : c.args.n % 32 < 32 = omega arith in
    let stands = ap (λ (t : List ℕ). slice_index_or t (c.args.n / 32) 0) c.in_ok-reach_halves.ensures.table ∙ (at.1 ∙ here) in
    record {
      paged = subst (λ (t : List ℕ). ArePages (λ p. slice_index_or mid.table.items p 0) t 0 32 mid.count) (sym c.put_half.ensures)
          (pages_set (λ p. slice_index_or mid.table.items p 0) mid.low.items 0 32 mid.count (c.in_ok-place.place - 1) (c.args.n / 32) (c.args.n % 32) (c.args.number % 4294967296) mid.paged stands below);
      raised = subst (λ (t : List ℕ). ArePages (λ p. slice_index_or mid.table.items p 0) t 0 32 mid.count) (sym c.put_half-2.ensures)
          (pages_set (λ p. slice_index_or mid.table.items p 0) mid.high.items 0 32 mid.count (c.in_ok-place.place - 1) (c.args.n / 32) (c.args.n % 32) (c.args.number / 4294967296) mid.raised stands below);
      counted = mid.counted;
    }

pub returns-clause-set : goal.returns-clause-set
returns-clause-set c = λ m.
    let mid = c.reach_halves.new.self in
    let at = c.in_ok-place.ensures.open in
    let here : c.in_ok-place.place ≡ suc (c.in_ok-place.place - 1) = let e = at.0 in omega arith in
    let stands = ap (λ (t : List ℕ). slice_index_or t (c.args.n / 32) 0) c.in_ok-reach_halves.ensures.table ∙ (at.1 ∙ here) in
    from_halves _ _ _ _ (ap (λ (t : List ℕ). paged (λ p. slice_index_or mid.table.items p 0) t 0 32 m) c.put_half.ensures) (ap (λ (t : List ℕ). paged (λ p. slice_index_or mid.table.items p 0) t 0 32 m) c.put_half-2.ensures)
    ∙ (halves_set (λ p. slice_index_or mid.table.items p 0) mid.low.items mid.high.items mid.count (c.in_ok-place.place - 1) c.args.n c.args.number mid.paged mid.raised stands c.in_ok-reach_halves.ensures.low c.in_ok-reach_halves.ensures.high m
    ∙ ap (λ k. if nat_eq m c.args.n then c.args.number else k) (c.in_ok-reach_halves.ensures.same m ∙ c.in_ok-place.ensures.same m))
