use Rattle.std.proofs.Common.{rules, ℕ}
use Rattle.std.proofs.lemmas.List.Sorted.{answers_always, IsNonDecreasingBy-from_sort}
use Rattle.abi_inspect.specs.declared.slots.Slot.{Slot}
use Rattle.abi_inspect.specs.Rows.{slot_bit}
use Rattle.abi_inspect.proofs.Sorting.{sorted_is}
use Rattle.abi_inspect.proofs.slots.sort_by_place.Goals as goal

pub returns : goal.returns
returns c =
    let key : Slot → ℕ = slot_bit in
    sorted_is c.args.size c.args.slots.now.items c.sort_by_key.new.self.items c.in_ok-sort_by_key.ensures.permutation
    (IsNonDecreasingBy-from_sort key _ (c.in_ok-sort_by_key.ensures.sorted key (answers_always _ _ _ (λ f a r g h. search rules))))
    (c.in_ok-sort_by_key.ensures.stable key (answers_always _ _ _ (λ f a r g h. search rules)))
    c.requires
