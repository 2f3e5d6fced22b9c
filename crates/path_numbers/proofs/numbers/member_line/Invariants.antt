use Rattle.path_numbers.specs.Sizes.{sizes_of, member_size}
use Rattle.path_numbers.specs.invariants.Lines.{IsLineTo}
use Rattle.path_numbers.proofs.numbers.member_line.Given as goal

-- the members so far
abbrev pub invariant-loop-member : goal.invariant-loop-member
invariant-loop-member l = IsLineTo (member_size (sizes_of l.h)) l.start l.members l.member-index l.line
