use Rattle.std.proofs.Common.{◌∙◌, false}
use Rattle.cxx_hierarchy.specs.declared.records.ClassId.{ClassId}
use Rattle.cxx_hierarchy.specs.declared.records.Base.{Base}
use Rattle.path_numbers.specs.Sizes.{sizes_of}
use Rattle.path_numbers.proofs.Rooms.{room_base, base_met}
use Rattle.path_numbers.proofs.sharing.shared_of.Goals as goal

abbrev no_base : Base ClassId
no_base = record { class = record { 0 = 0 }; is_virtual = false; is_public = false; at = 0 }

pub meet_base-requires-clause-room : goal.meet_base-requires-clause-room
meet_base-requires-clause-room c = room_base c.args.h.now (sizes_of c.args.h.now) c.loop-base.sharing.start c.args.start c.loop-base.sharing.order.items _ c.args.bases.now c.loop-base.base-index no_base c.loop-base-test.true
    c.loop-base.invariant.order c.loop-base.invariant.start c.requires.room

pub loop-base-preserved : goal.loop-base-preserved
loop-base-preserved c = record {
  sharing = c.in_ok-meet_base.ensures.sharing;
  order = base_met c.args.h.now c.loop-base.sharing.order.items c.meet_base.new.self.order.items _ c.args.bases.now c.loop-base.base-index no_base c.loop-base-test.true c.loop-base.invariant.order c.in_ok-meet_base.ensures.order;
  start = c.in_ok-meet_base.ensures.start ∙ c.loop-base.invariant.start;
  places = c.in_ok-meet_base.ensures.places ∙ c.loop-base.invariant.places;
}
