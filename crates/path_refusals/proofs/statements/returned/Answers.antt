use Rattle.std.proofs.Common.{◌≡◌, ◌∙◌, Option, Some, ap, sym}
use Rattle.std.proofs.lemmas.Result.{IfOk-weaker}
use Rattle.cxx_program.specs.declared.operand.Argument.{Argument}
use Rattle.cxx_program.specs.declared.statement.TypedKind.TheVariants.{Return}
use Rattle.cxx_program.specs.Typed.{Scope}
use Rattle.path_model.specs.Values.{Sight}
use Rattle.path_model.specs.Uses.{Wanted, return_uses}
use Rattle.path_model.specs.Rules.{refused, statement_refusal}
use Rattle.path_model.specs.Typed.{AllSettled, IsReturn}
use Rattle.path_values.specs.Scenes.{SceneStands}
use Rattle.path_values.specs.Given.{IsGiven}
use Rattle.path_refusals.proofs.Reading.{nothing}
use Rattle.path_refusals.proofs.Givens.{return_given}
use Rattle.path_refusals.proofs.Kinded.{result_given}
use Rattle.path_refusals.proofs.statements.returned.Goals as goal

pub returns-in-Some-clause-is : goal.returns-in-Some-clause-is
returns-in-Some-clause-is c = IfOk-weaker c.result.result (λ rule. (s : Sight) (w : Wanted) → SceneStands c.args.moment.now.world.h.now c.args.moment.now.heap.now c.args.scene.now s → AllSettled c.args.moment.now.world.h.now s.objects → w.found ≡ c.args.found.now → w.target ≡ c.args.target.now → IsReturn c.args.moment.now.world.h.now s w (Some c.in-Some.a) → rule ≡ refused c.args.moment.now.world.h.now s.objects (return_uses s w (Some c.in-Some.a))) (λ rule. (e : Scope) (s : Sight) (w : Wanted) → SceneStands c.args.moment.now.world.h.now c.args.moment.now.heap.now c.args.scene.now s → IsGiven c.args.moment.now.world.h.now e s w (Return c.args.from.now) → w.found ≡ c.args.found.now → w.target ≡ c.args.target.now → rule ≡ statement_refusal c.args.moment.now.world.h.now s w (Return c.args.from.now)) (λ rule told e s w stands a found target. let g = result_given c.args.moment.now.world.h.now e (Return c.args.from.now) c.in-Some.a (ap (λ (o : Option Argument). Return o) c.in-Some.is) a.typed in
    told s w stands a.seen.settled found target (return_given c.args.moment.now.world.h.now e s w a.seen a.back c.in-Some.a g.0 g.1 g.2) ∙ ap (λ (o : Option Argument). statement_refusal c.args.moment.now.world.h.now s w (Return o)) (sym c.in-Some.is)) c.result.ensures.is

pub returns-in-None-clause-is : goal.returns-in-None-clause-is
returns-in-None-clause-is c = λ e s w stands a found target. nothing c.args.moment.now.world.h.now s.objects ∙ ap (λ (o : Option Argument). statement_refusal c.args.moment.now.world.h.now s w (Return o)) (sym c.in-None.is)
