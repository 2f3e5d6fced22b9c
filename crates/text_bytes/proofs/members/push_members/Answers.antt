use Rattle.abi_sound.specs.Places.{places_of}
use Rattle.text_bytes.proofs.RowSteps.{member_more}
use Rattle.text_bytes.proofs.members.push_members.Goals as goal

pub loop-m-preserved : goal.loop-m-preserved
loop-m-preserved g c =
    member_more (places_of c.args.h.now (g.L.SoundLayout.rows c.args.layout.now)) c.args.place c.args.before.now c.args.b c.args.list.now.items c.loop-m.list.items c.push.new.self.items c.loop-m.m c.member_place.result c.first_bit.result c.in_ok-copy_of.field-0
    c.loop-m.invariant c.member_place.ensures c.first_bit.ensures c.in_ok-copy_of.ensures c.in_ok-push.ensures.items
