use Rattle.std.proofs.Common.{◌∙◌, sym}
use Rattle.path_model.specs.Places.{passed_part}
use Rattle.path_refusals.proofs.Paths.{rest_of, first_rest, no_items, none_asked, shared_stops, unready_stops, ready_on, first_passed, next_ready, opens_to}
use Rattle.path_refusals.proofs.places.+members.Goals as goal

pub returns-in-empty : goal.returns-in-empty
returns-in-empty t c = λ s p class last a path. none_asked c.args.moment.now.world.h.now s p c.args.path.now (no_items c.args.path.now c.in-empty.len_below)

pub returns-then-is_shared : goal.returns-then-is_shared
returns-then-is_shared t c = λ s p class last a path.
    shared_stops c.args.moment.now.world.h.now s p c.x-item.result (rest_of c.args.path.now) c.args.path.now (first_rest c.args.path.now c.x-item.result c.in-len1-up.len_at_least c.x-item.is) (sym c.is_shared.ensures ∙ c.if-is_shared.true)

pub returns-then-is_unready : goal.returns-then-is_unready
returns-then-is_unready t c = λ s p class last a path.
    let is = first_rest c.args.path.now c.x-item.result c.in-len1-up.len_at_least c.x-item.is in
    let first = first_passed c.args.moment.now.world.h.now class c.x-item.result (rest_of c.args.path.now) c.args.path.now last is path in
    let q = c.passed_number-next.ensures s p class a.heap_stands a.points (opens_to c.args.moment.now.world.h.now c.args.moment.now.heap.now s c.args.n p class c.x-item.result a first.0) first.0 in
    unready_stops c.args.moment.now.world.h.now s p c.x-item.result (rest_of c.args.path.now) c.args.path.now is (sym c.is_shared.ensures ∙ c.if-is_shared.false) (c.is_unready.ensures c.args.moment.now.world.h.now s (passed_part p c.x-item.result) a.heap_stands q ∙ c.if-is_unready.true)

pub returns-else-is_unready : goal.returns-else-is_unready
returns-else-is_unready t c = λ s p class last a path.
    let is = first_rest c.args.path.now c.x-item.result c.in-len1-up.len_at_least c.x-item.is in
    let first = first_passed c.args.moment.now.world.h.now class c.x-item.result (rest_of c.args.path.now) c.args.path.now last is path in
    let q = c.passed_number-next.ensures s p class a.heap_stands a.points (opens_to c.args.moment.now.world.h.now c.args.moment.now.heap.now s c.args.n p class c.x-item.result a first.0) first.0 in
    let e = c.is_unready.ensures c.args.moment.now.world.h.now s (passed_part p c.x-item.result) a.heap_stands q ∙ c.if-is_unready.false in
    ready_on c.args.moment.now.world.h.now s p c.x-item.result (rest_of c.args.path.now) c.args.path.now c.members.result is (sym c.is_shared.ensures ∙ c.if-is_shared.false) e
    (c.members.ensures s (passed_part p c.x-item.result) c.x-item.result.class last (next_ready c.args.moment.now.world.h.now c.args.moment.now.heap.now s c.args.n c.passed_number-next.result p class c.x-item.result a q e) first.1)
