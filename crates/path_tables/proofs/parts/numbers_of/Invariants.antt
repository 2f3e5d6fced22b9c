use Rattle.std.proofs.Common.{◌≡◌, map, take}
use Rattle.path_numbers.specs.Numbers.{subobject_number}
use Rattle.path_tables.proofs.parts.numbers_of.Given as goal

-- the numbers of those so far
abbrev pub invariant-loop-part : goal.invariant-loop-part
invariant-loop-part l = l.list.items ≡ map (subobject_number l.h l.c) (take l.part-index l.parts)
