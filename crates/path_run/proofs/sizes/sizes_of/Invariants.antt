use Rattle.std.proofs.Common.{◌≡◌, map, take}
use Rattle.path_run.proofs.SizeLists.{row_size}
use Rattle.path_run.proofs.sizes.sizes_of.Given as goal

-- the sizes of the classes so far
abbrev pub invariant-loop-number : goal.invariant-loop-number
invariant-loop-number g l = l.sizes.items ≡ map row_size (take l.number (g.L.SoundLayout.rows l.layout))
