use Rattle.std.proofs.Common.{◌≡◌, ◌+◌, ◌∷◌, map, subst, ◌∙◌, ap, sym}
use Rattle.std.specs.Prelude.{IfSome}
use Rattle.path_model.specs.Values.{argument_value}
use Rattle.path_model.specs.Uses.{receiver_value}
use Rattle.path_model.specs.States.{InBody, at_statement, with_frames, sight}
use Rattle.path_model.specs.Effects.{called}
use Rattle.path_model.specs.Runs.{call_limit}
use Rattle.path_machine.specs.Frames.{target_of_code, BodyStands}
use Rattle.path_machine.specs.declared.frames.BodyFrame.{BodyFrame}
use Rattle.path_machine.specs.invariants.Steps.{size_in}
use Rattle.path_machine.specs.invariants.Openings.{Opens}
use Rattle.path_machine.proofs.Moves.{counts_more, open_limited, open_free, call_limited, nothing_opened, body_opened}
use Rattle.path_machine.proofs.calls.call_body.Goals as goal

-- src/calls.rt:73:9
pub returns-then-open-ge-MOST_OPEN-clause-agrees :
    goal.returns-then-open-ge-MOST_OPEN-clause-agrees
returns-then-open-ge-MOST_OPEN-clause-agrees c = λ e s f below taken calling.
    let h = c.args.run.now.world.h.now in
    let program = c.args.run.now.program.now in
    let sizes = size_in c.args.run.now.sizes.now in
    let see = sight s f in
    let call = c.args.call.now in
    let at = with_frames s (InBody f ∷ below) in
    let counts = ap (λ (x : BodyFrame). x.depth) c.get.ensures ∙ taken.counts in
    call_limited h sizes program c.args.machine.now c.args.outs.now (with_frames s (InBody (at_statement f c.args.next) ∷ below)) (map (argument_value see) call.arguments) call (target_of_code c.args.target) (receiver_value see call)
    (call_limit at) _ (open_limited at c.get.result.now.depth counts c.if-open-ge-MOST_OPEN.true)

-- src/calls.rt:51:1
pub returns-in-None-clause-agrees : goal.returns-in-None-clause-agrees
returns-in-None-clause-agrees c = λ e s f below taken calling.
    let h = c.args.run.now.world.h.now in
    let program = c.args.run.now.program.now in
    let sizes = size_in c.args.run.now.sizes.now in
    let see = sight s f in
    let call = c.args.call.now in
    let frames = InBody (at_statement f c.args.next) ∷ below in
    let next = called h program see (with_frames s frames) call (target_of_code c.args.target) in
    let scene = c.scene_of-scene.ensures h sizes program s f below taken in
    nothing_opened h sizes program c.args.machine.now c.args.outs.now c.open_call.new.outs s frames next (call_limit (with_frames s (InBody f ∷ below))) _
    (subst (λ x. Opens h s frames c.args.outs.now c.open_call.new.outs x next) c.in-None.is (c.in_ok-open_call.ensures.opens e s f frames scene calling))

-- src/calls.rt:51:1
pub returns-in_ok-push-in-Some-clause-agrees : goal.returns-in_ok-push-in-Some-clause-agrees
returns-in_ok-push-in-Some-clause-agrees c = λ e s f below taken calling.
    let h = c.args.run.now.world.h.now in
    let program = c.args.run.now.program.now in
    let sizes = size_in c.args.run.now.sizes.now in
    let see = sight s f in
    let call = c.args.call.now in
    let depth = c.get.result.now.depth in
    let at = with_frames s (InBody f ∷ below) in
    let counts = ap (λ (x : BodyFrame). x.depth) c.get.ensures ∙ taken.counts in
    let frames = InBody (at_statement f c.args.next) ∷ below in
    let next = called h program see (with_frames s frames) call (target_of_code c.args.target) in
    let code = c.in-Some.opened in
    let scene = c.scene_of-scene.ensures h sizes program s f below taken in
    let deep = subst (λ x. IfSome x (λ frame. frame.depth ≡ depth + 1)) c.in-Some.is c.in_ok-open_call.ensures.depth in
    let boxed = c.in_ok-entered-in-Some.ensures in
    body_opened h sizes program c.push.new.self c.args.outs.now c.open_call.new.outs s frames code next (call_limit at)
    (subst (λ x. Opens h s frames c.args.outs.now c.open_call.new.outs x next) c.in-Some.is (c.in_ok-open_call.ensures.opens e s f frames scene calling))
    (open_free at depth counts c.if-open-ge-MOST_OPEN.false)
    (λ g stands one. c.in_ok-push-in-Some.ensures h sizes program (with_frames s frames) (InBody g) (c.in_ok-go_on-in-Some.ensures h sizes program s f below taken) (subst (λ (x : BodyFrame). BodyStands h s.objects.classes x g) (sym boxed) stands) (ap (λ (x : BodyFrame). x.depth) boxed ∙ (deep ∙ counts_more (InBody g) frames depth counts one)))
