use Rattle.abi_sound.specs.Places.{places_of}
use Rattle.abi_world.proofs.AllTables.{none_before, one_more}
use Rattle.abi_world.proofs.tables.program_tables.Goals as goal

pub loop-n-init : goal.loop-n-init
loop-n-init g c = none_before c.args.h.now (places_of c.args.h.now (g.L.SoundLayout.rows c.args.layout.now)) c.new-groups.result.items c.new-vtts.result.items c.new-infos.result.items c.new-groups.ensures.items c.new-vtts.ensures.items c.new-infos.ensures.items

pub loop-n-preserved : goal.loop-n-preserved
loop-n-preserved g c =
    one_more c.args.h.now (places_of c.args.h.now (g.L.SoundLayout.rows c.args.layout.now)) c.loop-n.n c.loop-n.groups.items c.append_groups.new.groups.items c.loop-n.vtts.items c.push.new.self.items c.loop-n.infos.items c.push-in-loop-n.new.self.items c.in_ok-tables.tables
    c.loop-n.invariant c.in_ok-tables.ensures c.in_ok-append_groups.ensures c.in_ok-push.ensures.items c.in_ok-push-2.ensures.items
