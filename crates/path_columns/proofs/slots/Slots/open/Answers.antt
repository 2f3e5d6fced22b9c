use Rattle.std.proofs.Common.{◌≡◌, ◌∙◌, sym, arith, rules}
use Rattle.path_columns.specs.Pages.{number_at}
use Rattle.path_columns.proofs.Paging.{IsOpened, pages_same, pages_opened}
use Rattle.path_columns.proofs.Placing.{placed_few, placed_same, placed_opened}
use Rattle.path_columns.proofs.slots.Slots.open.Goals as goal

pub invariant_of-self : goal.invariant_of-self
invariant_of-self g c = record {
  paged = pages_same _ _ _ _ _ _ c.in_err-set.ensures.kept c.args.self.now.paged;
  counted = c.args.self.now.counted ∙ sym (placed_same _ _ 68719476736 c.in_err-set.ensures.kept);
}

pub invariant_of-self-2 : goal.invariant_of-self-2
invariant_of-self-2 g c =
    let shut = c.if-place-gt0.false in
    let none : c.get-place.result ≡ 0 = search rules in
    let opened : IsOpened (number_at c.args.self.now.places) _ c.args.page c.args.self.now.count = record { closed = sym c.get-place.ensures ∙ none; is = c.in_ok-set.ensures.set } in
    let more = placed_opened (number_at c.args.self.now.places) _ c.args.page c.args.self.now.count 68719476736 opened c.requires in
    let before = c.args.self.now.counted in
    record {
      paged = pages_opened (number_at c.args.self.now.places) _ c.args.self.now.items.items c.args.self.now.blank 4 c.args.page c.args.self.now.count c.args.self.now.paged opened;
      counted = omega (arith, more, before);
    }

pub overflow_add-count : goal.overflow_add-count
overflow_add-count g c =
    let few = placed_few (number_at c.args.self.now.places) 68719476736 in
    let count = c.args.self.now.counted in omega (arith, few, count)
