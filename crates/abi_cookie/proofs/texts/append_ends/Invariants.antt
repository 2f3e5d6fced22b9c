use Rattle.std.proofs.Common.{◌≡◌, ◌++◌, ℕ, List, map, take}
use Rattle.std.specs.List.{flat_map}
use Rattle.abi_cookie.specs.Arrays.{element_at}
use Rattle.abi_cookie.specs.ArrayTexts.{end_text}
use Rattle.abi_cookie.proofs.texts.append_ends.Given as goal

-- the lines of the elements so far
abbrev pub invariant-loop-at : goal.invariant-loop-at
invariant-loop-at l = (numbers : List ℕ) → l.ended ≡ map (element_at l.first l.size) numbers → l.text.items ≡ l.fn.text.items ++ flat_map (end_text l.size l.cookie) (take l.at-index numbers)
