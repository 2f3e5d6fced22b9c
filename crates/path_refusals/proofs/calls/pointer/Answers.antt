use Rattle.std.proofs.Common.{◌≡◌, ◌++◌, false}
use Rattle.std.proofs.lemmas.Result.{IfOk-weaker}
use Rattle.cxx_hierarchy.specs.declared.records.ClassId.{ClassId}
use Rattle.cxx_program.specs.Typed.{IsWay}
use Rattle.path_model.specs.Values.{Value, Objects}
use Rattle.path_model.specs.Uses.{arrow}
use Rattle.path_model.specs.Rules.{refused, names, is_unready}
use Rattle.path_refusals.specs.invariants.Pieces.{MeansValueOf, IsFoundCall, way_asked}
use Rattle.path_refusals.proofs.Refused.{stops, goes_on}
use Rattle.path_refusals.proofs.Reading.{arrow_clear}
use Rattle.path_refusals.proofs.Calling.{arrow_way}
use Rattle.path_refusals.proofs.calls.pointer.Goals as goal

pub returns-in-Some-clause-is : goal.returns-in-Some-clause-is
returns-in-Some-clause-is c = λ s x through a way found. stops c.args.moment.now.world.h.now s (arrow x) (way_asked c.args.call.now x) c.in-Some.rule (arrow_way c.args.moment.now.world.h.now s c.args.call.now x) (c.in-Some.ensures c.args.moment.now.world.h.now s x a.heap_stands a.means)

pub returns-in-None-clause-is : goal.returns-in-None-clause-is
returns-in-None-clause-is c = IfOk-weaker c.way.result (λ rule. (s : Objects) (x : Value) (through : ClassId) → MeansValueOf c.args.moment.now.world.h.now c.args.moment.now.heap.now s c.args.v x c.args.call.now.class → names (is_unready s) x ≡ false → IsWay c.args.moment.now.world.h.now c.args.call.now.class c.args.call.now.qualifier through → IsFoundCall c.args.moment.now.world.h.now through c.args.call.now → rule ≡ refused c.args.moment.now.world.h.now s (way_asked c.args.call.now x)) (λ rule. (s : Objects) (x : Value) (through : ClassId) → MeansValueOf c.args.moment.now.world.h.now c.args.moment.now.heap.now s c.args.v x c.args.call.now.class → IsWay c.args.moment.now.world.h.now c.args.call.now.class c.args.call.now.qualifier through → IsFoundCall c.args.moment.now.world.h.now through c.args.call.now → rule ≡ refused c.args.moment.now.world.h.now s (arrow x ++ way_asked c.args.call.now x)) (λ rule told s x through a way found. let e = c.in-None.ensures c.args.moment.now.world.h.now s x a.heap_stands a.means in goes_on c.args.moment.now.world.h.now s (arrow x) (way_asked c.args.call.now x) rule e (told s x through a (arrow_clear c.args.moment.now.world.h.now s x e) way found)) c.way.ensures.is
