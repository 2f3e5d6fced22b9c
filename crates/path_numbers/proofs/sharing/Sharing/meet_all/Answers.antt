use Rattle.path_numbers.specs.Sizes.{sizes_of}
use Rattle.path_numbers.specs.invariants.Sharing.{meet_all}
use Rattle.path_numbers.proofs.Rooms.{room_one}
use Rattle.path_numbers.proofs.sharing.Sharing.meet_all.Goals as goal

pub meet-requires-clause-room : goal.meet-requires-clause-room
meet-requires-clause-room c = room_one (sizes_of c.args.h.now) c.loop-v.self.start c.args.self.now.start c.loop-v.self.order.items c.args.list.now (meet_all c.args.self.now.order.items c.args.list.now) c.loop-v.v-index (record { 0 = 0 }) c.loop-v-test.true
    c.loop-v.invariant.order c.loop-v.invariant.start c.requires.room
