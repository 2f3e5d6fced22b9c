use Rattle.std.proofs.Common.{◌≡◌, ◌∙◌, ℕ, Option, ap, sym}
use Rattle.std.proofs.lemmas.Result.{IfOk-weaker}
use Rattle.cxx_hierarchy.specs.declared.records.ClassId.{ClassId}
use Rattle.cxx_hierarchy.specs.declared.records.ValueType.{ValueType}
use Rattle.cxx_program.specs.declared.statement.Converted.{Converted}
use Rattle.cxx_program.specs.declared.statement.TypedKind.TheVariants.{Declare}
use Rattle.cxx_program.specs.Typed.{Scope, HasRight}
use Rattle.path_model.specs.Values.{Sight}
use Rattle.path_model.specs.Uses.{Wanted, right_uses}
use Rattle.path_model.specs.Rules.{refused, statement_refusal, is_clear}
use Rattle.path_values.specs.Scenes.{SceneStands}
use Rattle.path_values.specs.Given.{IsGiven}
use Rattle.path_refusals.specs.invariants.Pieces.{SightStands}
use Rattle.path_refusals.proofs.Reading.{nothing}
use Rattle.path_refusals.proofs.Kinded.{declared_given}
use Rattle.path_refusals.proofs.statements.declared.Goals as goal

pub returns-in-Some-clause-is : goal.returns-in-Some-clause-is
returns-in-Some-clause-is c = IfOk-weaker c.right.result (λ rule. (e : Scope) (s : Sight) (t : ValueType ClassId) → SightStands c.args.moment.now.world.h.now c.args.moment.now.heap.now c.args.scene.now e s → HasRight c.args.moment.now.world.h.now e c.in-Some.x.right t → rule ≡ refused c.args.moment.now.world.h.now s.objects (right_uses c.args.moment.now.world.h.now (is_clear c.args.moment.now.world.h.now s.objects) s c.in-Some.x.right c.in-Some.x.conversion)) (λ rule. (e : Scope) (s : Sight) (w : Wanted) (n : ℕ) → SceneStands c.args.moment.now.world.h.now c.args.moment.now.heap.now c.args.scene.now s → IsGiven c.args.moment.now.world.h.now e s w (Declare n c.args.from.now) → rule ≡ statement_refusal c.args.moment.now.world.h.now s w (Declare n c.args.from.now)) (λ rule told e s w n stands a. let g = declared_given c.args.moment.now.world.h.now e (Declare n c.args.from.now) n c.in-Some.x (ap (λ (o : Option Converted). Declare n o) c.in-Some.is) a.typed in
    told e s g.type (record { stands = stands; seen = a.seen }) g.right ∙ ap (λ (o : Option Converted). statement_refusal c.args.moment.now.world.h.now s w (Declare n o)) (sym c.in-Some.is)) c.right.ensures.is

pub returns-in-None-clause-is : goal.returns-in-None-clause-is
returns-in-None-clause-is c = λ e s w n stands a. nothing c.args.moment.now.world.h.now s.objects ∙ ap (λ (o : Option Converted). statement_refusal c.args.moment.now.world.h.now s w (Declare n o)) (sym c.in-None.is)
