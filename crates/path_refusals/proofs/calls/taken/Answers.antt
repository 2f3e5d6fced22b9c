use Rattle.std.proofs.Common.{◌≡◌, ◌∙◌, None, [], ◌∷◌, ap, refl, sym}
use Rattle.std.proofs.lemmas.Result.{IfOk-weaker}
use Rattle.cxx_subobject.specs.Locations.{ObjectPart}
use Rattle.path_heap.specs.Points.{Points}
use Rattle.path_heap.specs.Stands.{HeapStands, HasBegun, Means}
use Rattle.path_values.specs.Views.{IsCallable}
use Rattle.path_model.specs.Values.{Value, Unset, Number, Null, Pointer, Objects}
use Rattle.path_model.specs.Uses.{Takes, takes}
use Rattle.path_model.specs.Rules.{refused}
use Rattle.path_refusals.specs.invariants.Pieces.{CanTake}
use Rattle.path_refusals.proofs.Reading.{nothing, unset_case, null_case, number_case, pointer_case}
use Rattle.path_refusals.proofs.Calling.{off_take}
use Rattle.path_refusals.proofs.calls.taken.Goals as goal

pub returns-then-not-is_dispatched-clause-is : goal.returns-then-not-is_dispatched-clause-is
returns-then-not-is_dispatched-clause-is c = λ s x stands m can. nothing c.args.moment.now.world.h.now s ∙ ap (λ b. refused c.args.moment.now.world.h.now s (takes b x c.args.f)) (sym c.if-not-is_dispatched.true)

pub returns-in-Unset-clause-is : goal.returns-in-Unset-clause-is
returns-in-Unset-clause-is c = λ s x stands m can. unset_case c.args.moment.now.world.h.now s.classes (λ x. None ≡ refused c.args.moment.now.world.h.now s (takes c.args.is_dispatched x c.args.f)) (off_take c.args.moment.now.world.h.now s Unset c.args.f c.args.is_dispatched refl) c.args.v c.in-Unset.is x m

pub returns-in-Number-clause-is : goal.returns-in-Number-clause-is
returns-in-Number-clause-is c = λ s x stands m can. number_case c.args.moment.now.world.h.now s.classes (λ x. None ≡ refused c.args.moment.now.world.h.now s (takes c.args.is_dispatched x c.args.f)) (λ z. off_take c.args.moment.now.world.h.now s (Number z) c.args.f c.args.is_dispatched refl) c.args.v c.in-Number.field-0 c.in-Number.is x m

pub returns-in-Null-clause-is : goal.returns-in-Null-clause-is
returns-in-Null-clause-is c = λ s x stands m can. null_case c.args.moment.now.world.h.now s.classes (λ x. None ≡ refused c.args.moment.now.world.h.now s (takes c.args.is_dispatched x c.args.f)) (off_take c.args.moment.now.world.h.now s Null c.args.f c.args.is_dispatched refl) c.args.v c.in-Null.is x m

pub returns-in-Pointer-clause-is : goal.returns-in-Pointer-clause-is
returns-in-Pointer-clause-is c = IfOk-weaker c.part_taken.result (λ rule. (s : Objects) (p : ObjectPart) → HeapStands c.args.moment.now.world.h.now c.args.moment.now.heap.now s → Points c.args.moment.now.world.h.now s.classes c.in-Pointer.n p → HasBegun s p → IsCallable c.args.moment.now.world.h.now p c.args.f → rule ≡ refused c.args.moment.now.world.h.now s (Takes (Pointer p) c.args.f ∷ [])) (λ rule. (s : Objects) (x : Value) → HeapStands c.args.moment.now.world.h.now c.args.moment.now.heap.now s → Means c.args.moment.now.world.h.now s.classes c.args.v x → CanTake c.args.moment.now.world.h.now s c.args.f c.args.is_dispatched x → rule ≡ refused c.args.moment.now.world.h.now s (takes c.args.is_dispatched x c.args.f)) (λ rule told s x stands m can. pointer_case c.args.moment.now.world.h.now s.classes (λ x. CanTake c.args.moment.now.world.h.now s c.args.f c.args.is_dispatched x → rule ≡ refused c.args.moment.now.world.h.now s (takes c.args.is_dispatched x c.args.f)) c.in-Pointer.n
    (λ p q can. told s p stands q can.0 (can.1 c.if-not-is_dispatched.false) ∙ ap (λ b. refused c.args.moment.now.world.h.now s (takes b (Pointer p) c.args.f)) (sym c.if-not-is_dispatched.false)) c.args.v c.in-Pointer.is x m can) c.part_taken.ensures.is
