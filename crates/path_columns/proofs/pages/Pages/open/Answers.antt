use Rattle.std.proofs.Common.{◌≡◌, ◌∙◌, sym, arith, rules}
use Rattle.std.specs.Prelude.{slice_index_or}
use Rattle.path_columns.proofs.Paging.{pages_same, pages_opened, opens}
use Rattle.path_columns.proofs.Placing.{placed_few, placed_same, placed_opened}
use Rattle.path_columns.proofs.pages.Pages.open.Goals as goal

pub invariant_of-self : goal.invariant_of-self
invariant_of-self c = record {
  paged = pages_same _ _ _ _ _ _ c.reach.ensures.same c.args.self.now.paged;
  raised = pages_same _ _ _ _ _ _ c.reach.ensures.same c.args.self.now.raised;
  counted = c.args.self.now.counted ∙ sym (placed_same _ _ 2147483648 c.reach.ensures.same);
}

pub invariant_of-self-2 : goal.invariant_of-self-2
invariant_of-self-2 c =
    let shut = c.if-place-gt0.false in
    let none : c.place-place.result ≡ 0 = search rules in
    let opened = opens c.args.self.now.table.items c.reach.new.list.items c.args.page c.args.self.now.count (sym c.place-place.ensures ∙ none) c.reach.ensures.same c.in_ok-reach.ensures.reached in
    let more = placed_opened _ _ c.args.page c.args.self.now.count 2147483648 opened c.requires in
    let before = c.args.self.now.counted in
    record {
      paged = pages_opened _ _ c.args.self.now.low.items 0 32 c.args.page c.args.self.now.count c.args.self.now.paged opened;
      raised = pages_opened _ _ c.args.self.now.high.items 0 32 c.args.page c.args.self.now.count c.args.self.now.raised opened;
      counted = omega (arith, more, before);
    }

pub overflow_add-count : goal.overflow_add-count
overflow_add-count c =
    let few = placed_few (λ p. slice_index_or c.args.self.now.table.items p 0) 2147483648 in
    let count = c.args.self.now.counted in omega (arith, few, count)
