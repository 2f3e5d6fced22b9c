use Rattle.std.proofs.Common.{◌≡◌, length}
use Rattle.abi_sound.specs.Places.{places_of}
use Rattle.code_plans.specs.ClassTables.{AreBlocks}
use Rattle.code_plans.proofs.class_tables.block_lens.Given as goal

abbrev pub invariant-loop-n : goal.invariant-loop-n
invariant-loop-n g l = record { size : length l.blocks.items ≡ l.n; are : AreBlocks l.h (places_of l.h (g.L.SoundLayout.rows l.layout)) l.blocks.items }
