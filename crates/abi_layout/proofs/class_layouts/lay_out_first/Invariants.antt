use Rattle.abi_layout.specs.invariants.LaidSoFar.{IsLaidSoFar}
use Rattle.abi_layout.proofs.class_layouts.lay_out_first.Given as goal

-- the classes so far are laid out
abbrev pub invariant-loop-n : goal.invariant-loop-n
invariant-loop-n l = IsLaidSoFar l.h l.n l.so_far.rows.items l.so_far.known.items l.so_far.members.items l.so_far.nearly.items l.so_far.primaries.items
