use Rattle.std.proofs.Common.{◌≡◌, subst, sym, ◌∷◌, None}
use Rattle.path_model.specs.States.{InBody, sight, at_statement, with_frames}
use Rattle.path_model.specs.Rules.{refused, is_clear}
use Rattle.path_model.specs.Uses.{right_uses}
use Rattle.path_model.specs.Effects.{taken, called, new_made}
use Rattle.path_model.specs.Runs.{move_by, limit_of, right_demand, asks_call, asks_object}
use Rattle.path_model.proofs.TypedRights.{converted_type}
use Rattle.path_machine.specs.invariants.Steps.{size_in, MoveAgrees}
use Rattle.path_machine.proofs.Effecting.{called_typed, made_known, plain_by, plain_agrees}
use Rattle.path_machine.proofs.taking.take.Goals as goal

pub returns-in_ok-done-in-Call-clause-agrees : goal.returns-in_ok-done-in-Call-clause-agrees
returns-in_ok-done-in-Call-clause-agrees c = λ e s f below t given.
    let h = c.args.run.now.world.h.now in
    let sizes = size_in c.args.run.now.sizes.now in
    let program = c.args.run.now.program.now in
    let see = sight s f in
    let x = c.args.x.now in
    let call = c.in-Call.call in
    let typed = converted_type h e x given.type given.typed in
    let g = called_typed h e x.right typed.0 typed.1 call c.in-Call.is in
    let clear = subst (λ r. refused h s.objects (right_uses h (is_clear h s.objects) see r x.conversion) ≡ None) c.in-Call.is given.clear in
    let on = with_frames s (InBody (at_statement f c.args.next) ∷ below) in
    let at = with_frames s (InBody f ∷ below) in
    subst (λ r. MoveAgrees h sizes program (move_by (taken h program see on c.args.variable r x.conversion) (limit_of sizes at (right_demand r))) c.call_body.new.machine c.args.outs.now c.call_body.new.outs c.in_ok-done-in-Call.done) (sym c.in-Call.is)
    (subst (λ w. MoveAgrees h sizes program (move_by (called h program see on call w) (limit_of sizes at asks_call)) c.call_body.new.machine c.args.outs.now c.call_body.new.outs c.in_ok-done-in-Call.done) c.in_ok-target-in-Call.ensures
    (c.in_ok-done-in-Call.ensures.agrees e s f below t (record { seen = given.seen; function = g.0; typed = g.1; clear = clear })))

pub returns-in_ok-done-in-New-clause-agrees : goal.returns-in_ok-done-in-New-clause-agrees
returns-in_ok-done-in-New-clause-agrees c = λ e s f below t given.
    let h = c.args.run.now.world.h.now in
    let sizes = size_in c.args.run.now.sizes.now in
    let program = c.args.run.now.program.now in
    let see = sight s f in
    let x = c.args.x.now in
    let class = c.in-New.class in
    let typed = converted_type h e x given.type given.typed in
    let on = with_frames s (InBody (at_statement f c.args.next) ∷ below) in
    let at = with_frames s (InBody f ∷ below) in
    subst (λ r. MoveAgrees h sizes program (move_by (taken h program see on c.args.variable r x.conversion) (limit_of sizes at (right_demand r))) c.new_object.new.machine c.args.outs.now c.args.outs.now c.in_ok-done-in-New.done) (sym c.in-New.is)
    (subst (λ w. MoveAgrees h sizes program (move_by (new_made h program on class w) (limit_of sizes at (asks_object class))) c.new_object.new.machine c.args.outs.now c.args.outs.now c.in_ok-done-in-New.done) c.in_ok-target-in-New.ensures
    (c.in_ok-done-in-New.ensures s f below c.args.outs.now t (made_known h e x.right typed.0 typed.1 class c.in-New.is)))

pub returns-in_ok-done-in_default-clause-agrees : goal.returns-in_ok-done-in_default-clause-agrees
returns-in_ok-done-in_default-clause-agrees c = λ e s f below t given.
    let h = c.args.run.now.world.h.now in
    let sizes = size_in c.args.run.now.sizes.now in
    let program = c.args.run.now.program.now in
    let see = sight s f in
    let x = c.args.x.now in
    let on = with_frames s (InBody (at_statement f c.args.next) ∷ below) in
    let at = with_frames s (InBody f ∷ below) in
    let outs = c.args.outs.now in
    let plain = plain_by x.right (λ call is. c.in_default.not-Call call is) (λ k is. c.in_default.not-New k is) in
    plain_agrees h sizes program c.take_value.new.machine see on at c.args.variable x.right x.conversion outs outs c.in_ok-done-in_default.done plain (c.in_ok-done-in_default.ensures.agrees e s f below outs t given plain)
