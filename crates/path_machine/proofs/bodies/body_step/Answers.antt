use Rattle.std.proofs.Common.{◌≡◌, subst, sym, ap, ◌∙◌, ◌+◌, Some, None}
use Rattle.std.specs.Prelude.{slice_get}
use Rattle.cxx_program.specs.Typed.{scope_of}
use Rattle.path_model.specs.States.{owned_body}
use Rattle.path_model.specs.Steps.{before_kind, body_closed}
use Rattle.path_machine.specs.declared.frames.BodyFrame.{BodyFrame}
use Rattle.path_machine.specs.Frames.{BodyStands}
use Rattle.path_machine.specs.invariants.Steps.{size_in, StepAgrees}
use Rattle.path_model.proofs.KeptSteps.{before_rest}
use Rattle.path_machine.proofs.Beginning.{given_before, statement_agrees, close_agrees}
use Rattle.path_machine.proofs.bodies.body_step.Goals as goal

pub returns-in_ok-done-in-None-statement_at-clause-agrees : goal.returns-in_ok-done-in-None-statement_at-clause-agrees
returns-in_ok-done-in-None-statement_at-clause-agrees c = λ s f below t frames next.
    let h = c.args.run.now.world.h.now in
    let sizes = size_in c.args.run.now.sizes.now in
    let program = c.args.run.now.program.now in
    let seen = subst (λ (x : BodyFrame). BodyStands h s.objects.classes x f) (sym c.get-here.ensures) t.body_stands in
    let body = c.in-Some.body.now in
    let here : owned_body program f.owner ≡ Some body = ap (owned_body program) (sym seen.same_owner) ∙ sym c.in-Some.ensures in
    let at : slice_get body.statements f.next ≡ None = ap (slice_get body.statements) (sym seen.same_next) ∙ sym c.in-None-statement_at.ensures.is in
    close_agrees h sizes program c.close.new.machine s f below body c.args.outs.now c.close.new.outs c.in_ok-done-in-None-statement_at.done here at
    (subst (λ o. StepAgrees h sizes program (body_closed h program s o body.close_line below) c.close.new.machine c.args.outs.now c.close.new.outs c.in_ok-done-in-None-statement_at.done) seen.same_owner (c.in_ok-done-in-None-statement_at.ensures sizes s below t.machine_stands next.behind))

pub returns-in_ok-done-in-Some-statement_at-clause-agrees : goal.returns-in_ok-done-in-Some-statement_at-clause-agrees
returns-in_ok-done-in-Some-statement_at-clause-agrees c = λ s f below t frames next.
    let h = c.args.run.now.world.h.now in
    let sizes = size_in c.args.run.now.sizes.now in
    let program = c.args.run.now.program.now in
    let seen = subst (λ (x : BodyFrame). BodyStands h s.objects.classes x f) (sym c.get-here.ensures) t.body_stands in
    let body = c.in-Some.body.now in
    let statement = c.in-Some-statement_at.statement.now in
    let here : owned_body program f.owner ≡ Some body = ap (owned_body program) (sym seen.same_owner) ∙ sym c.in-Some.ensures in
    let at : slice_get body.statements f.next ≡ Some statement = ap (slice_get body.statements) (sym seen.same_next) ∙ sym c.in-Some-statement_at.ensures.is in
    let g = before_kind f statement.kind in
    let taken = c.before_kind-begun.ensures h sizes program c.args.machine.now s f below t in
    statement_agrees h sizes program c.statement_step.new.machine s f below body statement c.args.outs.now c.statement_step.new.outs c.in_ok-done-in-Some-statement_at.done frames here at
    (c.in_ok-done-in-Some-statement_at.ensures.agrees (scope_of h program.globals body) s g below taken (given_before h program s f below body f.next statement next here at) (ap (λ n. n + 1) (seen.same_next ∙ sym ((before_rest f statement.kind).next))))
