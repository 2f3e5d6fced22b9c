use Rattle.std.proofs.Common.{◌≡◌, length}
use Rattle.abi_sound.specs.Places.{places_of}
use Rattle.code_plans.specs.ClassTables.{TellLone}
use Rattle.code_plans.proofs.lone.lone_flags.Given as goal

abbrev pub invariant-loop-n : goal.invariant-loop-n
invariant-loop-n g l = record { size : length l.flags.items ≡ l.n; tell : TellLone l.h (places_of l.h (g.L.SoundLayout.rows l.layout)) l.flags.items }
