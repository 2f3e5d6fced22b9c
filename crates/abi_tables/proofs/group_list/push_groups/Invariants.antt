use Rattle.std.proofs.Common.{map, take}
use Rattle.abi_sound.specs.Places.{places_of}
use Rattle.abi_tables.specs.Tables.{IsNamed, group_name}
use Rattle.abi_tables.specs.invariants.Growing.{GrowsByEach}
use Rattle.abi_tables.proofs.group_list.push_groups.Given as goal

abbrev pub invariant-loop-n : goal.invariant-loop-n
invariant-loop-n g l = GrowsByEach (IsNamed l.h (places_of l.h (g.L.SoundLayout.rows l.layout))) (map (group_name l.c) (take l.n l.view-items)) l.initial.groups l.groups
