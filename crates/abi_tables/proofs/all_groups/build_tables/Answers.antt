use Rattle.std.proofs.Common.{refl}
use Rattle.abi_sound.specs.Places.{places_of}
use Rattle.abi_vtable.proofs.Kept.{no_views}
use Rattle.abi_tables.specs.Tables.{IsNamed}
use Rattle.abi_tables.proofs.Along.{along_empty}
use Rattle.abi_tables.proofs.Steps.{class_more}
use Rattle.abi_tables.proofs.all_groups.build_tables.Goals as goal

pub loop-n-init : goal.loop-n-init
loop-n-init g c = along_empty (IsNamed c.args.h.now (places_of c.args.h.now (g.L.SoundLayout.rows c.args.layout.now))) c.new-groups.result c.new-groups.ensures

pub push_groups-requires-clause-views : goal.push_groups-requires-clause-views
push_groups-requires-clause-views g c = no_views c.args.h.now (places_of c.args.h.now (g.L.SoundLayout.rows c.args.layout.now)) _ refl

pub loop-n-preserved : goal.loop-n-preserved
loop-n-preserved g c = class_more c.args.h.now (places_of c.args.h.now (g.L.SoundLayout.rows c.args.layout.now)) c.loop-n.n c.loop-n.groups c.push_groups.new.groups c.loop-n.invariant c.in_ok-push_groups.ensures
