use Rattle.std.proofs.Common.{rules, ℕ}
use Rattle.std.proofs.lemmas.List.Sorted.{answers_always, IsNonDecreasingBy-from_sort}
use Rattle.text_told.specs.declared.items.Item.{Item}
use Rattle.text_told.specs.Dumps.{bit_of}
use Rattle.text_told.proofs.Sorting.{sorted_is}
use Rattle.text_told.proofs.dump.sort_by_place.Goals as goal

pub returns : goal.returns
returns c =
    let key : Item → ℕ = bit_of in
    sorted_is c.args.size c.args.items.now.items c.sort_by_key.new.self.items c.in_ok-sort_by_key.ensures.permutation
    (IsNonDecreasingBy-from_sort key _ (c.in_ok-sort_by_key.ensures.sorted key (answers_always _ _ _ (λ f a r g h. search rules))))
    (c.in_ok-sort_by_key.ensures.stable key (answers_always _ _ _ (λ f a r g h. search rules)))
    c.requires
