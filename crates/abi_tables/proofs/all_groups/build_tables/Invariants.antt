use Rattle.abi_sound.specs.Places.{places_of}
use Rattle.abi_slots.specs.Groups.{GoAlong}
use Rattle.abi_tables.specs.Tables.{IsNamed, names_to}
use Rattle.abi_tables.proofs.all_groups.build_tables.Given as goal

abbrev pub invariant-loop-n : goal.invariant-loop-n
invariant-loop-n g l = GoAlong (IsNamed l.h (places_of l.h (g.L.SoundLayout.rows l.layout))) (names_to l.h l.n) l.groups
