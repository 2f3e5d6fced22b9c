use Rattle.std.proofs.Common.{◌≡◌, ◌∙◌, ap, sym, false}
use Rattle.std.proofs.lemmas.Result.{IfOk-weaker}
use Rattle.cxx_hierarchy.specs.declared.records.ClassId.{ClassId}
use Rattle.path_heap.specs.Stands.{HeapStands, Means}
use Rattle.path_model.specs.Values.{Value, Objects, to_base}
use Rattle.path_model.specs.Uses.{is_shared, uses_of_view, takes}
use Rattle.path_model.specs.Rules.{refused, names, is_unready}
use Rattle.path_refusals.specs.invariants.Pieces.{MeansValueOf, IsFoundCall, CanTake, found_asked}
use Rattle.path_refusals.proofs.Refused.{stops, goes_on}
use Rattle.path_refusals.proofs.Calling.{view_then, taken_late, can_reach, can_take}
use Rattle.path_refusals.proofs.calls.found.Goals as goal

pub returns-in-Some-clause-is : goal.returns-in-Some-clause-is
returns-in-Some-clause-is c = λ s x through a e found.
    let b = is_shared c.args.call.now.base in let T = takes c.args.call.now.is_dispatched (to_base c.args.call.now.base x) c.args.call.now.function in
    stops c.args.moment.now.world.h.now s (uses_of_view b x) T c.in-Some.rule (view_then c.args.moment.now.world.h.now s b x T (taken_late c.args.moment.now.world.h.now s c.args.call.now.is_dispatched (to_base c.args.call.now.base x) c.args.call.now.function))
    (sym c.in-Some.is ∙ (c.in_ok-rule.ensures.is s x a.heap_stands a.means e ∙ ap (λ b. refused c.args.moment.now.world.h.now s (uses_of_view b x)) c.is_shared.ensures))

pub returns-in-None-clause-is : goal.returns-in-None-clause-is
returns-in-None-clause-is c = IfOk-weaker c.taken.result (λ rule. (s : Objects) (x : Value) → HeapStands c.args.moment.now.world.h.now c.args.moment.now.heap.now s → Means c.args.moment.now.world.h.now s.classes c.to_base-receiver.result x → CanTake c.args.moment.now.world.h.now s c.args.call.now.function c.args.call.now.is_dispatched x → rule ≡ refused c.args.moment.now.world.h.now s (takes c.args.call.now.is_dispatched x c.args.call.now.function)) (λ rule. (s : Objects) (x : Value) (through : ClassId) → MeansValueOf c.args.moment.now.world.h.now c.args.moment.now.heap.now s c.args.v x through → names (is_unready s) x ≡ false → IsFoundCall c.args.moment.now.world.h.now through c.args.call.now → rule ≡ refused c.args.moment.now.world.h.now s (found_asked c.args.call.now x)) (λ rule told s x through a e found.
    let b = is_shared c.args.call.now.base in
    goes_on c.args.moment.now.world.h.now s (uses_of_view b x) (takes c.args.call.now.is_dispatched (to_base c.args.call.now.base x) c.args.call.now.function) rule
    (sym c.in-None.is ∙ (c.in_ok-rule.ensures.is s x a.heap_stands a.means e ∙ ap (λ b. refused c.args.moment.now.world.h.now s (uses_of_view b x)) c.is_shared.ensures))
    (told s (to_base c.args.call.now.base x) a.heap_stands (c.to_base-receiver.ensures s x a.heap_stands a.means (can_reach c.args.moment.now.world.h.now c.args.moment.now.heap.now s c.args.v x through c.args.call.now a e found)) (can_take c.args.moment.now.world.h.now c.args.moment.now.heap.now s c.args.v x through c.args.call.now a e found))) c.taken.ensures.is
