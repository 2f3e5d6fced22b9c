use Rattle.std.proofs.Common.{◌≡◌, Bool, List, length, sym, subst, ◌∙◌}
use Rattle.cxx_overrider.specs.invariants.Within.{AreListed}
use Rattle.cxx_overrider.proofs.WithinLemmas.{within_made}
use Rattle.cxx_overrider.proofs.within.within_lists.Goals as goal

pub returns-clause-lists : goal.returns-clause-lists
returns-clause-lists c =
    let h = c.args.signatures.now.h.now in
    let numbering = c.args.signatures.now.numbering.now in
    let rows = c.in_ok-rows.rows.items in
    let lists = c.in_ok-lists.lists.items in
    let listed : AreListed rows numbering.count lists = subst (λ (r : List (List Bool)). AreListed r numbering.count lists) c.deref.ensures.value c.in_ok-lists.ensures.lists in
    let size : length rows ≡ length lists = c.in_ok-rows.ensures.size ∙ (sym c.len.ensures ∙ sym c.in_ok-lists.ensures.size) in
    within_made h numbering.rows.items numbering.count rows lists c.requires.numbering c.in_ok-rows.ensures.marks size listed
