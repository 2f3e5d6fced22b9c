use Rattle.std.proofs.Common.{◌≡◌, ◌∙◌, ap, sym, subst, [], ◌∷◌, List}
use Rattle.std.specs.Prelude.{if◌then◌else◌}
use Rattle.cxx_hierarchy.specs.declared.records.ClassId.{ClassId}
use Rattle.path_plan.specs.Plans.{virtual_order}
use Rattle.path_numbers.specs.Sizes.{sizes_of}
use Rattle.path_numbers.specs.invariants.Sharing.{met, meet_all, brings, HasRoom}
use Rattle.path_numbers.proofs.Rooms.{room_front, brings_virtual}
use Rattle.path_numbers.proofs.Rows.{order_below}
use Rattle.path_numbers.proofs.sharing.Sharing.meet_base.Goals as goal

pub meet_all-requires-clause-known : goal.meet_all-requires-clause-known
meet_all-requires-clause-known c = λ k d lt.
    let order = c.as_slice.ensures ∙ (c.row_at-row.ensures c.args.h.now c.requires.rows).order in
    order_below c.args.h.now c.keeps.ensures c.args.base.now.class _ k c.as_slice.result.now d order c.requires.known lt

pub meet_all-requires-clause-room : goal.meet_all-requires-clause-room
meet_all-requires-clause-room c =
    let order = c.as_slice.ensures ∙ (c.row_at-row.ensures c.args.h.now c.requires.rows).order in
    subst (λ (o : List ClassId). HasRoom (sizes_of c.args.h.now) c.args.self.now.start (meet_all c.args.self.now.order.items o)) (sym order)
    (room_front (sizes_of c.args.h.now) c.args.self.now.start c.args.self.now.order.items (virtual_order c.args.h.now c.args.base.now.class) (if c.args.base.now.is_virtual then c.args.base.now.class ∷ [] else []) c.requires.room)

pub meet-requires-clause-room : goal.meet-requires-clause-room
meet-requires-clause-room c =
    let order = c.as_slice.ensures ∙ (c.row_at-row.ensures c.args.h.now c.requires.rows).order in
    let now : c.meet_all.new.self.order.items ≡ meet_all c.args.self.now.order.items (virtual_order c.args.h.now c.args.base.now.class) = c.in_ok-meet_all.ensures.order ∙ ap (meet_all c.args.self.now.order.items) order in
    let whole : meet_all c.args.self.now.order.items (brings c.args.h.now c.args.base.now) ≡ met c.meet_all.new.self.order.items c.args.base.now.class =
    brings_virtual c.args.h.now c.args.self.now.order.items c.args.base.now c.if-base.true ∙ ap (λ (o : List ClassId). met o c.args.base.now.class) (sym now) in
    let same : c.meet_all.new.self.start ≡ c.args.self.now.start = c.in_ok-meet_all.ensures.start in
    subst (λ n. HasRoom (sizes_of c.args.h.now) n (met c.meet_all.new.self.order.items c.args.base.now.class)) (sym same) (subst (HasRoom (sizes_of c.args.h.now) c.args.self.now.start) whole c.requires.room)

pub returns-in_ok-meet-clause-order : goal.returns-in_ok-meet-clause-order
returns-in_ok-meet-clause-order c =
    let order = c.as_slice.ensures ∙ (c.row_at-row.ensures c.args.h.now c.requires.rows).order in
    let now : c.meet_all.new.self.order.items ≡ meet_all c.args.self.now.order.items (virtual_order c.args.h.now c.args.base.now.class) = c.in_ok-meet_all.ensures.order ∙ ap (meet_all c.args.self.now.order.items) order in
    c.in_ok-meet.ensures.order ∙ ap (λ (o : List ClassId). met o c.args.base.now.class) now ∙ sym (brings_virtual c.args.h.now c.args.self.now.order.items c.args.base.now c.if-base.true)
