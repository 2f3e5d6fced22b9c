use Rattle.std.proofs.Common.{◌≡◌, ◌++◌}
use Rattle.std.specs.List.{flat_map, range_with_len}
use Rattle.abi_cookie.specs.ArrayTexts.{element_text}
use Rattle.abi_cookie.proofs.texts.append_elements.Given as goal

-- the lines of the elements so far
abbrev pub invariant-loop-i : goal.invariant-loop-i
invariant-loop-i l = l.text.items ≡ l.fn.text.items ++ flat_map (element_text l.size l.cookie) (range_with_len 0 l.i)
