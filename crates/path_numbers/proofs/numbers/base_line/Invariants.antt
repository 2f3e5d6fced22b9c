use Rattle.path_numbers.specs.Sizes.{sizes_of, base_size}
use Rattle.path_numbers.specs.invariants.Lines.{IsLineTo}
use Rattle.path_numbers.proofs.numbers.base_line.Given as goal

-- the bases so far
abbrev pub invariant-loop-base : goal.invariant-loop-base
invariant-loop-base l = IsLineTo (base_size (sizes_of l.h)) 1 l.bases l.base-index l.line
