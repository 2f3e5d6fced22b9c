use Rattle.std.proofs.Common.{◌≡◌, ◌∙◌, ap, sym}
use Rattle.std.proofs.lemmas.Result.{IfOk-weaker}
use Rattle.cxx_hierarchy.specs.declared.records.ClassId.{ClassId}
use Rattle.cxx_hierarchy.specs.declared.records.Function.{Function}
use Rattle.cxx_hierarchy.specs.declared.records.ValueType.{ValueType}
use Rattle.cxx_hierarchy.specs.declared.records.ValueType.TheVariants.{Pointer as PointerType}
use Rattle.cxx_hierarchy.specs.declared.records.FieldType.TheVariants.{Value as ValueField, Object}
use Rattle.cxx_program.specs.declared.statement.TypedRight.{TypedRight}
use Rattle.cxx_program.specs.declared.statement.TypedRight.TheVariants.{Read, Address, Cast}
use Rattle.cxx_program.specs.Typed.{Scope, HasType, IsPlace, Casts, IsCall, HasRight}
use Rattle.path_model.specs.Values.{Sight}
use Rattle.path_model.specs.Uses.{right_uses, call_uses}
use Rattle.path_model.specs.Rules.{refused, is_clear}
use Rattle.path_refusals.specs.invariants.Pieces.{SightStands}
use Rattle.path_refusals.proofs.Reading.{nothing}
use Rattle.path_refusals.proofs.Staging.{read_given, address_given, call_given, cast_side_given}
use Rattle.path_refusals.proofs.rights.right.Goals as goal

pub returns-in-Read-clause-is : goal.returns-in-Read-clause-is
returns-in-Read-clause-is c = IfOk-weaker c.loaded.result (λ rule. (e : Scope) (s : Sight) (t : ValueType ClassId) → SightStands c.args.moment.now.world.h.now c.args.moment.now.heap.now c.args.scene.now e s → IsPlace c.args.moment.now.world.h.now e c.in-Read.from (ValueField t) → rule ≡ refused c.args.moment.now.world.h.now s.objects (right_uses c.args.moment.now.world.h.now (is_clear c.args.moment.now.world.h.now s.objects) s (Read c.in-Read.from) c.args.c.now)) (λ rule. (e : Scope) (s : Sight) (t : ValueType ClassId) → SightStands c.args.moment.now.world.h.now c.args.moment.now.heap.now c.args.scene.now e s → HasRight c.args.moment.now.world.h.now e c.args.right.now t → rule ≡ refused c.args.moment.now.world.h.now s.objects (right_uses c.args.moment.now.world.h.now (is_clear c.args.moment.now.world.h.now s.objects) s c.args.right.now c.args.c.now)) (λ rule told e s t a has. told e s t a (read_given c.args.moment.now.world.h.now e c.args.right.now t c.in-Read.from c.in-Read.is has) ∙ ap (λ (r : TypedRight). refused c.args.moment.now.world.h.now s.objects (right_uses c.args.moment.now.world.h.now (is_clear c.args.moment.now.world.h.now s.objects) s r c.args.c.now)) (sym c.in-Read.is)) c.loaded.ensures.is

pub returns-in-Address-clause-is : goal.returns-in-Address-clause-is
returns-in-Address-clause-is c = IfOk-weaker c.addressed.result (λ rule. (e : Scope) (s : Sight) (d : ClassId) → SightStands c.args.moment.now.world.h.now c.args.moment.now.heap.now c.args.scene.now e s → IsPlace c.args.moment.now.world.h.now e c.in-Address.of (Object d) → rule ≡ refused c.args.moment.now.world.h.now s.objects (right_uses c.args.moment.now.world.h.now (is_clear c.args.moment.now.world.h.now s.objects) s (Address c.in-Address.of d) c.args.c.now)) (λ rule. (e : Scope) (s : Sight) (t : ValueType ClassId) → SightStands c.args.moment.now.world.h.now c.args.moment.now.heap.now c.args.scene.now e s → HasRight c.args.moment.now.world.h.now e c.args.right.now t → rule ≡ refused c.args.moment.now.world.h.now s.objects (right_uses c.args.moment.now.world.h.now (is_clear c.args.moment.now.world.h.now s.objects) s c.args.right.now c.args.c.now)) (λ rule told e s t a has. told e s c.in-Address.field-1 a (address_given c.args.moment.now.world.h.now e c.args.right.now t c.in-Address.of c.in-Address.field-1 c.in-Address.is has) ∙ ap (λ (r : TypedRight). refused c.args.moment.now.world.h.now s.objects (right_uses c.args.moment.now.world.h.now (is_clear c.args.moment.now.world.h.now s.objects) s r c.args.c.now)) (sym c.in-Address.is)) c.addressed.ensures.is

pub returns-in-Call-clause-is : goal.returns-in-Call-clause-is
returns-in-Call-clause-is c = IfOk-weaker c.call.result (λ rule. (e : Scope) (s : Sight) (f : Function ClassId) → SightStands c.args.moment.now.world.h.now c.args.moment.now.heap.now c.args.scene.now e s → IsCall c.args.moment.now.world.h.now e c.in-Call.to f → rule ≡ refused c.args.moment.now.world.h.now s.objects (call_uses s c.in-Call.to)) (λ rule. (e : Scope) (s : Sight) (t : ValueType ClassId) → SightStands c.args.moment.now.world.h.now c.args.moment.now.heap.now c.args.scene.now e s → HasRight c.args.moment.now.world.h.now e c.args.right.now t → rule ≡ refused c.args.moment.now.world.h.now s.objects (right_uses c.args.moment.now.world.h.now (is_clear c.args.moment.now.world.h.now s.objects) s c.args.right.now c.args.c.now)) (λ rule told e s t a has. let g = call_given c.args.moment.now.world.h.now e c.args.right.now t c.in-Call.to c.in-Call.is has in told e s g.0 a g.1 ∙ ap (λ (r : TypedRight). refused c.args.moment.now.world.h.now s.objects (right_uses c.args.moment.now.world.h.now (is_clear c.args.moment.now.world.h.now s.objects) s r c.args.c.now)) (sym c.in-Call.is)) c.call.ensures.is

pub returns-in-New-clause-is : goal.returns-in-New-clause-is
returns-in-New-clause-is c = λ e s t a has. nothing c.args.moment.now.world.h.now s.objects ∙ ap (λ (r : TypedRight). refused c.args.moment.now.world.h.now s.objects (right_uses c.args.moment.now.world.h.now (is_clear c.args.moment.now.world.h.now s.objects) s r c.args.c.now)) (sym c.in-New.is)

pub returns-in-Cast-clause-is : goal.returns-in-Cast-clause-is
returns-in-Cast-clause-is c = IfOk-weaker c.casted.result (λ rule. (e : Scope) (s : Sight) (from to : ClassId) → SightStands c.args.moment.now.world.h.now c.args.moment.now.heap.now c.args.scene.now e s → HasType e c.in-Cast.x (PointerType from) → Casts c.args.moment.now.world.h.now from c.in-Cast.how to → rule ≡ refused c.args.moment.now.world.h.now s.objects (right_uses c.args.moment.now.world.h.now (is_clear c.args.moment.now.world.h.now s.objects) s (Cast c.in-Cast.how c.in-Cast.x) c.args.c.now)) (λ rule. (e : Scope) (s : Sight) (t : ValueType ClassId) → SightStands c.args.moment.now.world.h.now c.args.moment.now.heap.now c.args.scene.now e s → HasRight c.args.moment.now.world.h.now e c.args.right.now t → rule ≡ refused c.args.moment.now.world.h.now s.objects (right_uses c.args.moment.now.world.h.now (is_clear c.args.moment.now.world.h.now s.objects) s c.args.right.now c.args.c.now)) (λ rule told e s t a has. let g = cast_side_given c.args.moment.now.world.h.now e c.args.right.now t c.in-Cast.how c.in-Cast.x c.in-Cast.is has in told e s g.from g.to a g.operand g.casts ∙ ap (λ (r : TypedRight). refused c.args.moment.now.world.h.now s.objects (right_uses c.args.moment.now.world.h.now (is_clear c.args.moment.now.world.h.now s.objects) s r c.args.c.now)) (sym c.in-Cast.is)) c.casted.ensures.is
