use Rattle.std.proofs.Common.{◌∷◌, refl, ap, ◌∙◌, sym}
use Rattle.path_model.specs.States.{InBody, at_statement, with_frames}
use Rattle.path_model.specs.Effects.{ending}
use Rattle.path_model.specs.Runs.{call_limit}
use Rattle.path_machine.specs.declared.frames.BodyFrame.{BodyFrame}
use Rattle.path_machine.proofs.Moves.{counts_more, open_limited, open_free, limited, moved_silent}
use Rattle.path_machine.proofs.calls.end_object.Goals as goal

pub returns-then-open-ge-MOST_OPEN : goal.returns-then-open-ge-MOST_OPEN
returns-then-open-ge-MOST_OPEN c = λ sizes s f below outs k d taken made whole.
    let h = c.args.run.now.world.h.now in
    let program = c.args.run.now.program.now in
    let at = with_frames s (InBody f ∷ below) in
    let counts = ap (λ (x : BodyFrame). x.depth) c.get.ensures ∙ taken.counts in
    limited h sizes program c.args.machine.now outs _ _ (call_limit at) _ (open_limited at c.get.result.now.depth counts c.if-open-ge-MOST_OPEN.true)

-- src/calls.rt:157:1
pub returns : goal.returns
returns c = λ sizes s f below outs k d taken made whole.
    let h = c.args.run.now.world.h.now in
    let program = c.args.run.now.program.now in
    let at = with_frames s (InBody f ∷ below) in
    let counts = ap (λ (x : BodyFrame). x.depth) c.get.ensures ∙ taken.counts in
    let frames = InBody (at_statement f c.args.next) ∷ below in
    let plan = ending h program k d in
    moved_silent h sizes program c.begin_plan.new.machine outs (with_frames s (plan ∷ frames)) (call_limit at) (open_free at c.get.result.now.depth counts c.if-open-ge-MOST_OPEN.false)
    (c.in_ok-begin_plan.ensures sizes (with_frames s frames) k d (c.in_ok-go_on.ensures h sizes program s f below taken) made whole (counts_more plan frames c.get.result.now.depth counts refl))
