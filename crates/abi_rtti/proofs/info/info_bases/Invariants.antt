use Rattle.std.proofs.Common.{◌≡◌, ◌++◌, map, drop}
use Rattle.abi_sound.specs.Places.{places_of}
use Rattle.abi_rtti.specs.TypeInfos.{info_base}
use Rattle.abi_rtti.proofs.info.info_bases.Given as goal

abbrev pub invariant-loop-base : goal.invariant-loop-base
invariant-loop-base g l = l.list ++ map (info_base l.h (places_of l.h (g.L.SoundLayout.rows l.layout)) l.c) (drop l.base-index l.base-items) ≡ map (info_base l.h (places_of l.h (g.L.SoundLayout.rows l.layout)) l.c) l.base-items
