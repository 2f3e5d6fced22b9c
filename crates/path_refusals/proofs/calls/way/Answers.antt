use Rattle.std.proofs.Common.{◌≡◌, ◌∙◌, ◌||◌, ap, sym, false}
use Rattle.std.proofs.lemmas.Result.{IfOk-weaker}
use Rattle.cxx_hierarchy.specs.declared.records.ClassId.{ClassId}
use Rattle.cxx_program.specs.Typed.{IsWay}
use Rattle.path_model.specs.Values.{Value, Objects}
use Rattle.path_model.specs.Uses.{is_shared_way, goes_to, uses_of_view}
use Rattle.path_model.specs.Rules.{refused, names, is_unready}
use Rattle.path_refusals.specs.invariants.Pieces.{MeansValueOf, IsFoundCall, found_asked, way_asked}
use Rattle.path_refusals.proofs.Refused.{stops, goes_on}
use Rattle.path_refusals.proofs.Calling.{view_then, found_late, can_go, gone_steady, gone_value}
use Rattle.path_refusals.proofs.calls.way.Goals as goal

pub returns-in-Some-clause-is : goal.returns-in-Some-clause-is
returns-in-Some-clause-is c = λ s x through a e way found.
    let b = c.args.call.now.is_dispatched || is_shared_way c.args.call.now.qualifier in let F = found_asked c.args.call.now (goes_to c.args.call.now.qualifier x) in
    stops c.args.moment.now.world.h.now s (uses_of_view b x) F c.in-Some.rule (view_then c.args.moment.now.world.h.now s b x F (found_late c.args.moment.now.world.h.now s c.args.call.now (goes_to c.args.call.now.qualifier x)))
    (sym c.in-Some.is ∙ (c.in_ok-rule.ensures.is s x a.heap_stands a.means e ∙ ap (λ b. refused c.args.moment.now.world.h.now s (uses_of_view b x)) c.is_view_needed.ensures))

pub returns-in-None-clause-is : goal.returns-in-None-clause-is
returns-in-None-clause-is c = IfOk-weaker c.found.result (λ rule. (s : Objects) (x : Value) (through : ClassId) → MeansValueOf c.args.moment.now.world.h.now c.args.moment.now.heap.now s c.goes_to-from.result x through → names (is_unready s) x ≡ false → IsFoundCall c.args.moment.now.world.h.now through c.args.call.now → rule ≡ refused c.args.moment.now.world.h.now s (found_asked c.args.call.now x)) (λ rule. (s : Objects) (x : Value) (through : ClassId) → MeansValueOf c.args.moment.now.world.h.now c.args.moment.now.heap.now s c.args.v x c.args.call.now.class → names (is_unready s) x ≡ false → IsWay c.args.moment.now.world.h.now c.args.call.now.class c.args.call.now.qualifier through → IsFoundCall c.args.moment.now.world.h.now through c.args.call.now → rule ≡ refused c.args.moment.now.world.h.now s (way_asked c.args.call.now x)) (λ rule told s x through a e way found.
    let b = c.args.call.now.is_dispatched || is_shared_way c.args.call.now.qualifier in
    let q = c.args.call.now.qualifier in
    let m = c.goes_to-from.ensures s x a.heap_stands a.means (can_go c.args.moment.now.world.h.now c.args.moment.now.heap.now s c.args.v x c.args.call.now.class through q a e way) in
    goes_on c.args.moment.now.world.h.now s (uses_of_view b x) (found_asked c.args.call.now (goes_to q x)) rule
    (sym c.in-None.is ∙ (c.in_ok-rule.ensures.is s x a.heap_stands a.means e ∙ ap (λ b. refused c.args.moment.now.world.h.now s (uses_of_view b x)) c.is_view_needed.ensures))
    (told s (goes_to q x) through (gone_value c.args.moment.now.world.h.now c.args.moment.now.heap.now s c.args.v c.goes_to-from.result x c.args.call.now.class through q a way m) (gone_steady c.args.moment.now.world.h.now c.args.moment.now.heap.now s c.args.v x c.args.call.now.class through q a e way) found)) c.found.ensures.is
