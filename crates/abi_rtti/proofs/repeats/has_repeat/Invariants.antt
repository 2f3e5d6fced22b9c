use Rattle.std.proofs.Common.{◌≡◌, ℕ, false, take, length, get_or}
use Rattle.std.specs.List.{list_any}
use Rattle.abi_rtti.specs.Repeats.{has_repeat}
use Rattle.abi_rtti.proofs.RepeatLemmas.{is_number}
use Rattle.abi_rtti.proofs.repeats.has_repeat.Given as goal

abbrev pub invariant-loop-c : goal.invariant-loop-c
invariant-loop-c l = (length l.marks.items ≡ l.classes) × (has_repeat (take l.c-index l.list) ≡ false) × ((n : ℕ) → get_or l.marks.items n false ≡ list_any (is_number n) (take l.c-index l.list))
