use Rattle.std.proofs.Common.{◌≡◌, ◌∙◌, ℕ, ap, sym, subst}
use Rattle.std.proofs.lemmas.Result.{IfOk-weaker}
use Rattle.cxx_hierarchy.specs.declared.records.ClassId.{ClassId}
use Rattle.cxx_hierarchy.specs.declared.records.Function.{Function}
use Rattle.cxx_hierarchy.specs.declared.records.ValueType.{ValueType}
use Rattle.cxx_hierarchy.specs.declared.records.ValueType.TheVariants.{Pointer as PointerType}
use Rattle.cxx_hierarchy.specs.declared.records.FieldType.TheVariants.{Value as ValueField}
use Rattle.cxx_program.specs.declared.statement.TypedKind.{TypedKind}
use Rattle.cxx_program.specs.declared.statement.TypedKind.TheVariants.{Declare, Write, Copy, Return}
use Rattle.cxx_program.specs.Typed.{Scope, HasType, IsPlace, IsCall, HasRight}
use Rattle.path_model.specs.Values.{Sight}
use Rattle.path_model.specs.Uses.{Wanted, right_uses, call_uses}
use Rattle.path_model.specs.Rules.{refused, statement_refusal, is_clear}
use Rattle.path_values.specs.Scenes.{SceneStands}
use Rattle.path_values.specs.Given.{IsGiven}
use Rattle.path_refusals.specs.invariants.Pieces.{SightStands}
use Rattle.path_refusals.proofs.Kinded.{assigned_given, written_given, copied_given, called_given}
use Rattle.path_refusals.proofs.statements.refusal.Goals as goal

pub returns-in-Declare-clause-is : goal.returns-in-Declare-clause-is
returns-in-Declare-clause-is c = IfOk-weaker c.declared.result (λ rule. (e : Scope) (s : Sight) (w : Wanted) (n : ℕ) → SceneStands c.args.moment.now.world.h.now c.args.moment.now.heap.now c.args.scene.now s → IsGiven c.args.moment.now.world.h.now e s w (Declare n c.in-Declare.x) → rule ≡ statement_refusal c.args.moment.now.world.h.now s w (Declare n c.in-Declare.x)) (λ rule. (e : Scope) (s : Sight) (w : Wanted) → SceneStands c.args.moment.now.world.h.now c.args.moment.now.heap.now c.args.scene.now s → IsGiven c.args.moment.now.world.h.now e s w c.args.kind.now → w.found ≡ c.args.found.now → w.target ≡ c.args.target.now → rule ≡ statement_refusal c.args.moment.now.world.h.now s w c.args.kind.now) (λ rule told e s w stands a found target. told e s w c.in-Declare.field-0 stands (subst (λ (k : TypedKind). IsGiven c.args.moment.now.world.h.now e s w k) c.in-Declare.is a) ∙ ap (λ (k : TypedKind). statement_refusal c.args.moment.now.world.h.now s w k) (sym c.in-Declare.is)) c.declared.ensures.is

pub returns-in-Assign-clause-is : goal.returns-in-Assign-clause-is
returns-in-Assign-clause-is c = IfOk-weaker c.right.result (λ rule. (e : Scope) (s : Sight) (t : ValueType ClassId) → SightStands c.args.moment.now.world.h.now c.args.moment.now.heap.now c.args.scene.now e s → HasRight c.args.moment.now.world.h.now e c.in-Assign.x.right t → rule ≡ refused c.args.moment.now.world.h.now s.objects (right_uses c.args.moment.now.world.h.now (is_clear c.args.moment.now.world.h.now s.objects) s c.in-Assign.x.right c.in-Assign.x.conversion)) (λ rule. (e : Scope) (s : Sight) (w : Wanted) → SceneStands c.args.moment.now.world.h.now c.args.moment.now.heap.now c.args.scene.now s → IsGiven c.args.moment.now.world.h.now e s w c.args.kind.now → w.found ≡ c.args.found.now → w.target ≡ c.args.target.now → rule ≡ statement_refusal c.args.moment.now.world.h.now s w c.args.kind.now) (λ rule told e s w stands a found target. let g = assigned_given c.args.moment.now.world.h.now e c.args.kind.now c.in-Assign.field-0 c.in-Assign.x c.in-Assign.is a.typed in
    told e s g.type (record { stands = stands; seen = a.seen }) g.right ∙ ap (λ (k : TypedKind). statement_refusal c.args.moment.now.world.h.now s w k) (sym c.in-Assign.is)) c.right.ensures.is

pub returns-in-Write-clause-is : goal.returns-in-Write-clause-is
returns-in-Write-clause-is c = IfOk-weaker c.written.result (λ rule. (e : Scope) (s : Sight) (w : Wanted) (t : ValueType ClassId) → SightStands c.args.moment.now.world.h.now c.args.moment.now.heap.now c.args.scene.now e s → IsPlace c.args.moment.now.world.h.now e c.in-Write.to (ValueField t) → rule ≡ statement_refusal c.args.moment.now.world.h.now s w (Write c.in-Write.to c.in-Write.x)) (λ rule. (e : Scope) (s : Sight) (w : Wanted) → SceneStands c.args.moment.now.world.h.now c.args.moment.now.heap.now c.args.scene.now s → IsGiven c.args.moment.now.world.h.now e s w c.args.kind.now → w.found ≡ c.args.found.now → w.target ≡ c.args.target.now → rule ≡ statement_refusal c.args.moment.now.world.h.now s w c.args.kind.now) (λ rule told e s w stands a found target. let g = written_given c.args.moment.now.world.h.now e c.args.kind.now c.in-Write.to c.in-Write.x c.in-Write.is a.typed in
    told e s w g.0 (record { stands = stands; seen = a.seen }) g.1 ∙ ap (λ (k : TypedKind). statement_refusal c.args.moment.now.world.h.now s w k) (sym c.in-Write.is)) c.written.ensures.is

pub returns-in-Copy-clause-is : goal.returns-in-Copy-clause-is
returns-in-Copy-clause-is c = IfOk-weaker c.copied.result (λ rule. (e : Scope) (s : Sight) (w : Wanted) → SightStands c.args.moment.now.world.h.now c.args.moment.now.heap.now c.args.scene.now e s → HasType e c.in-Copy.to (PointerType c.in-Copy.c) → HasType e c.in-Copy.from (PointerType c.in-Copy.c) → rule ≡ statement_refusal c.args.moment.now.world.h.now s w (Copy c.in-Copy.to c.in-Copy.from c.in-Copy.c)) (λ rule. (e : Scope) (s : Sight) (w : Wanted) → SceneStands c.args.moment.now.world.h.now c.args.moment.now.heap.now c.args.scene.now s → IsGiven c.args.moment.now.world.h.now e s w c.args.kind.now → w.found ≡ c.args.found.now → w.target ≡ c.args.target.now → rule ≡ statement_refusal c.args.moment.now.world.h.now s w c.args.kind.now) (λ rule told e s w stands a found target. let g = copied_given c.args.moment.now.world.h.now e c.args.kind.now c.in-Copy.to c.in-Copy.from c.in-Copy.c c.in-Copy.is a.typed in
    told e s w (record { stands = stands; seen = a.seen }) g.0 g.1 ∙ ap (λ (k : TypedKind). statement_refusal c.args.moment.now.world.h.now s w k) (sym c.in-Copy.is)) c.copied.ensures.is

pub returns-in-Call-clause-is : goal.returns-in-Call-clause-is
returns-in-Call-clause-is c = IfOk-weaker c.call.result (λ rule. (e : Scope) (s : Sight) (f : Function ClassId) → SightStands c.args.moment.now.world.h.now c.args.moment.now.heap.now c.args.scene.now e s → IsCall c.args.moment.now.world.h.now e c.in-Call.to f → rule ≡ refused c.args.moment.now.world.h.now s.objects (call_uses s c.in-Call.to)) (λ rule. (e : Scope) (s : Sight) (w : Wanted) → SceneStands c.args.moment.now.world.h.now c.args.moment.now.heap.now c.args.scene.now s → IsGiven c.args.moment.now.world.h.now e s w c.args.kind.now → w.found ≡ c.args.found.now → w.target ≡ c.args.target.now → rule ≡ statement_refusal c.args.moment.now.world.h.now s w c.args.kind.now) (λ rule told e s w stands a found target. let g = called_given c.args.moment.now.world.h.now e c.args.kind.now c.in-Call.to c.in-Call.is a.typed in
    told e s g.0 (record { stands = stands; seen = a.seen }) g.1 ∙ ap (λ (k : TypedKind). statement_refusal c.args.moment.now.world.h.now s w k) (sym c.in-Call.is)) c.call.ensures.is

pub returns-in-Return-clause-is : goal.returns-in-Return-clause-is
returns-in-Return-clause-is c = IfOk-weaker c.returned.result (λ rule. (e : Scope) (s : Sight) (w : Wanted) → SceneStands c.args.moment.now.world.h.now c.args.moment.now.heap.now c.args.scene.now s → IsGiven c.args.moment.now.world.h.now e s w (Return c.in-Return.a) → w.found ≡ c.args.found.now → w.target ≡ c.args.target.now → rule ≡ statement_refusal c.args.moment.now.world.h.now s w (Return c.in-Return.a)) (λ rule. (e : Scope) (s : Sight) (w : Wanted) → SceneStands c.args.moment.now.world.h.now c.args.moment.now.heap.now c.args.scene.now s → IsGiven c.args.moment.now.world.h.now e s w c.args.kind.now → w.found ≡ c.args.found.now → w.target ≡ c.args.target.now → rule ≡ statement_refusal c.args.moment.now.world.h.now s w c.args.kind.now) (λ rule told e s w stands a found target. told e s w stands (subst (λ (k : TypedKind). IsGiven c.args.moment.now.world.h.now e s w k) c.in-Return.is a) found target ∙ ap (λ (k : TypedKind). statement_refusal c.args.moment.now.world.h.now s w k) (sym c.in-Return.is)) c.returned.ensures.is
