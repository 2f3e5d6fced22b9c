use Rattle.std.proofs.Common.{◌≡◌, ◌∙◌, ap, sym, subst, get_or, ℕ, List}
use Rattle.path_numbers.specs.declared.numbers.ClassNumbers.{ClassNumbers}
use Rattle.path_numbers.specs.Numbers.{AreNumberRows}
use Rattle.path_numbers.proofs.Placed.{shared_told}
use Rattle.path_numbers.proofs.numbers.Numbers.shared_offset.Goals as goal

pub returns : goal.returns
returns c = λ h keeps numbers.
    let same : c.deref.result.now ≡ c.args.self.now = c.deref.ensures.value ∙ c.self.view_is in
    let rows : AreNumberRows h c.deref.result.now = subst (λ (l : List ClassNumbers). AreNumberRows h l) (sym same) numbers.rows in
    shared_told h keeps c.args.c c.args.v c.row_at.result.now (c.row_at.ensures h rows) c.offset_at.result c.some_offset.result (c.offset_at.ensures ∙ ap (λ (l : List ℕ). get_or l c.args.v.0 0) c.as_slice.ensures) c.some_offset.ensures
