use Rattle.std.proofs.Common.{◌≤◌, ◌≡◌, ◌<◌, ◌-◌, ◌/◌, ◌%◌, ◌∙◌, suc, ap, arith}
use Rattle.std.specs.Prelude.{nat_eq, if◌then◌else◌}
use Rattle.path_columns.specs.Pages.{number_at}
use Rattle.path_columns.proofs.Paging.{pages_set, pages_like, paged_set, paged_like}
use Rattle.path_columns.proofs.Placing.{place_small}
use Rattle.path_columns.proofs.slots.Slots.set.Goals as goal

pub invariant_of-self-2 : goal.invariant_of-self-2
invariant_of-self-2 g c =
    let at = c.in_ok-place.ensures.open in
    let here : c.in_ok-place.place ≡ suc (c.in_ok-place.place - 1) = let e = at.0 in omega arith in
    let below : c.args.n % 4 < 4 = omega arith in
    record {
      paged = pages_set _ c.reach.new.list.items c.open.new.self.blank 4 c.open.new.self.count (c.in_ok-place.place - 1) (c.args.n / 4) (c.args.n % 4) c.args.item
          (pages_like _ _ _ c.open.new.self.blank 4 c.open.new.self.count c.reach.ensures.same c.open.new.self.paged) (at.1 ∙ here) below;
      counted = c.open.new.self.counted;
    }

pub returns-clause-set : goal.returns-clause-set
returns-clause-set g c = λ m.
    let at = c.in_ok-place.ensures.open in
    let here : c.in_ok-place.place ≡ suc (c.in_ok-place.place - 1) = let e = at.0 in omega arith in
    let some : 0 < 4 = omega arith in
    paged_set (number_at c.open.new.self.places) c.reach.new.list.items c.open.new.self.blank 4 c.open.new.self.count (c.in_ok-place.place - 1) c.args.n c.args.item some
    (pages_like _ _ _ c.open.new.self.blank 4 c.open.new.self.count c.reach.ensures.same c.open.new.self.paged) (at.1 ∙ here) c.in_ok-reach.ensures.reached m
    ∙ ap (λ k. if nat_eq m c.args.n then c.args.item else k) (paged_like (number_at c.open.new.self.places) _ _ c.open.new.self.blank 4 m c.reach.ensures.same ∙ c.in_ok-place.ensures.same m)

pub overflow_mul-at : goal.overflow_mul-at
overflow_mul-at g c =
    let s = c.open.new.self in
    let small : c.in_ok-place.place ≤ 68719476736 = place_small (number_at s.places) s.items.items s.blank 4 s.count 68719476736 (c.args.n / 4) c.in_ok-place.place s.paged s.counted c.in_ok-place.ensures.open.1 in
    omega (arith, small)

pub overflow_add-at : goal.overflow_add-at
overflow_add-at g c =
    let s = c.open.new.self in
    let small : c.in_ok-place.place ≤ 68719476736 = place_small (number_at s.places) s.items.items s.blank 4 s.count 68719476736 (c.args.n / 4) c.in_ok-place.place s.paged s.counted c.in_ok-place.ensures.open.1 in
    omega (arith, small)
