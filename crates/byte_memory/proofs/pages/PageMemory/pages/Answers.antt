use Rattle.std.proofs.Common.{◌≡◌, ◌∙◌, sym, length, rules}
use Rattle.std.specs.Prelude.{vec_len}
use Rattle.std.proofs.lemmas.List.{length-map}
use Rattle.byte_memory.specs.declared.page.Page.{Page}
use Rattle.byte_memory.proofs.PageLists.{numbers_of, ArePages-kept}
use Rattle.byte_memory.proofs.pages.PageMemory.pages.Goals as goal

pub returns : goal.returns
returns c =
    let self = c.args.self.now in
    let count : length self.pages.items ≡ vec_len self.pages = search rules in
    (numbers_of self.pages.items, ArePages-kept self.regions.items self.pages.items self.ordered self.kept, c.len.ensures ∙ (sym count ∙ sym (length-map self.pages.items (λ (p : Page). p.number))))
