use Rattle.abi_sound.specs.Places.{places_of}
use Rattle.abi_world.specs.Made.{AreTablesTo}
use Rattle.abi_world.proofs.tables.program_tables.Given as goal

abbrev pub invariant-loop-n : goal.invariant-loop-n
invariant-loop-n g l = AreTablesTo l.h (places_of l.h (g.L.SoundLayout.rows l.layout)) l.n l.groups.items l.vtts.items l.infos.items
