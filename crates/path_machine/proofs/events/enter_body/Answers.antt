use Rattle.std.proofs.Common.{None, refl, ap, ◌∙◌, subst}
use Rattle.cxx_program.specs.declared.operand.Conversion.TheVariants.{Same as ToSame}
use Rattle.path_heap.specs.declared.state.Value.TheVariants.{Pointer}
use Rattle.path_model.specs.States.{owned_body}
use Rattle.path_model.specs.Steps.{body_owner}
use Rattle.path_machine.specs.declared.frames.BodyFrame.{BodyFrame}
use Rattle.path_machine.specs.declared.frames.PlanFrame.{PlanFrame}
use Rattle.path_machine.specs.declared.frames.Frame.TheVariants.{Body, Plan}
use Rattle.path_machine.specs.declared.next.Next.TheVariants.{Wrong}
use Rattle.path_machine.proofs.Resuming.{Pushes, enters_none, enters_body}
use Rattle.path_machine.proofs.events.enter_body.Goals as goal

-- src/events.rt:144:1
pub returns-in-None : goal.returns-in-None
returns-in-None c = enters_none c.args.run.now.world.h.now c.args.run.now.program.now c.args.machine.now c.args.frame c.args.part Wrong
    (c.in-None.ensures ∙ (ap (owned_body c.args.run.now.program.now) c.body_owner-owner.ensures ∙ ap (λ (x : PlanFrame). owned_body c.args.run.now.program.now (body_owner x.is_building c.args.part.class)) c.get-begun.ensures))

-- src/events.rt:144:1
pub returns-in_ok-push-in-Some-2 : goal.returns-in_ok-push-in-Some-2
returns-in_ok-push-in-Some-2 c =
    let body = c.in-Some.body.now in
    let code : BodyFrame = record { owner = body.owner; this = Pointer c.args.part.number; locals = c.in_ok-locals-in-Some.locals; next = 0; found = ToSame; target = None; depth = c.get-begun.result.now.depth } in
    let same = c.in_ok-advance-in-Some.ensures.same in
    enters_body c.args.run.now.world.h.now c.args.run.now.program.now c.requires.setup.typed c.args.machine.now c.push.new.self c.push-in-Some.new.self c.args.frame c.args.part c.advance.new.self.plan code body
    (c.in-Some.ensures ∙ (ap (owned_body c.args.run.now.program.now) c.body_owner-owner.ensures ∙ ap (λ (x : PlanFrame). owned_body c.args.run.now.program.now (body_owner x.is_building c.args.part.class)) c.get-begun.ensures))
    (record { owner = refl; this = refl; locals = c.in_ok-locals-in-Some.ensures; next = refl; found = refl; target = refl; counted = ap (λ (x : PlanFrame). x.depth) c.get-begun.ensures })
    (λ classes e events. c.in_ok-advance-in-Some.ensures.plan c.args.run.now.program.now classes e events c.requires.setup.are_bodies)
    (subst (λ (x : PlanFrame). Pushes c.args.run.now.world.h.now c.args.run.now.program.now c.args.machine.now c.push.new.self (Plan x)) same (λ sizes s f. c.in_ok-push-in-Some.ensures c.args.run.now.world.h.now sizes c.args.run.now.program.now s f))
    (subst (λ (x : BodyFrame). Pushes c.args.run.now.world.h.now c.args.run.now.program.now c.push.new.self c.push-in-Some.new.self (Body x)) c.in_ok-boxed-in-Some.ensures (λ sizes s f. c.in_ok-push-in-Some-2.ensures c.args.run.now.world.h.now sizes c.args.run.now.program.now s f))
