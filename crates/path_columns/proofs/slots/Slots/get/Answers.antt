use Rattle.std.proofs.Common.{◌≤◌, ◌/◌, sym, arith}
use Rattle.path_columns.specs.Pages.{number_at}
use Rattle.path_columns.proofs.Placing.{place_small}
use Rattle.path_columns.proofs.slots.Slots.get.Goals as goal

pub overflow_mul-at : goal.overflow_mul-at
overflow_mul-at g c =
    let s = c.args.self.now in
    let small : c.get-place.result ≤ 68719476736 = place_small (number_at s.places) s.items.items s.blank 4 s.count 68719476736 (c.args.n / 4) c.get-place.result s.paged s.counted (sym c.get-place.ensures) in
    omega (arith, small)

pub overflow_add-at : goal.overflow_add-at
overflow_add-at g c =
    let s = c.args.self.now in
    let small : c.get-place.result ≤ 68719476736 = place_small (number_at s.places) s.items.items s.blank 4 s.count 68719476736 (c.args.n / 4) c.get-place.result s.paged s.counted (sym c.get-place.ensures) in
    omega (arith, small)
