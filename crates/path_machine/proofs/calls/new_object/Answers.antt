use Rattle.std.proofs.Common.{◌∷◌, ◌<◌, length, refl, rules, sym, ◌∙◌, ap}
use Rattle.foundation.proofs.Places.{get_last}
use Rattle.path_model.specs.States.{InBody, at_statement, with_frames, with_objects}
use Rattle.path_model.specs.Effects.{with_new_object, building}
use Rattle.path_model.specs.Runs.{limit_of, asks_object}
use Rattle.path_numbers.proofs.Counting.{are_small}
use Rattle.path_machine.specs.declared.frames.Frame.TheVariants.{Body}
use Rattle.path_machine.specs.Frames.{target_of_code}
use Rattle.path_machine.proofs.Changing.{frame_grown}
use Rattle.path_machine.specs.declared.frames.BodyFrame.{BodyFrame}
use Rattle.path_machine.specs.invariants.Steps.{size_in, IsTaken}
use Rattle.path_machine.proofs.Moves.{counts_more, open_limited, open_free, heap_limited, heap_free, limited, moved_silent}
use Rattle.path_machine.proofs.calls.new_object.Goals as goal

-- src/calls.rt:113:9
pub returns-then-is_full : goal.returns-then-is_full
returns-then-is_full c = λ s f below outs taken known.
    let h = c.args.run.now.world.h.now in
    let program = c.args.run.now.program.now in
    let sizes = size_in c.args.run.now.sizes.now in
    let at = with_frames s (InBody f ∷ below) in
    limited h sizes program c.args.machine.now outs _ _ (limit_of sizes at (asks_object c.args.class)) _
    (heap_limited sizes at c.args.class c.size_of-size.result c.is_full.result c.size_of-size.ensures (c.is_full.ensures.is h sizes program (with_frames s below) taken.machine_stands) c.if-is_full.true)

pub returns-then-open-ge-MOST_OPEN : goal.returns-then-open-ge-MOST_OPEN
returns-then-open-ge-MOST_OPEN c = λ s f below outs taken known.
    let h = c.args.run.now.world.h.now in
    let program = c.args.run.now.program.now in
    let sizes = size_in c.args.run.now.sizes.now in
    let at = with_frames s (InBody f ∷ below) in
    let counts = ap (λ (x : BodyFrame). x.depth) c.get.ensures ∙ taken.counts in
    limited h sizes program c.args.machine.now outs _ _ (limit_of sizes at (asks_object c.args.class)) _
    (heap_free sizes at c.args.class c.size_of-size.result c.is_full.result c.size_of-size.ensures (c.is_full.ensures.is h sizes program (with_frames s below) taken.machine_stands) c.if-is_full.false
    ∙ open_limited at c.get.result.now.depth counts c.if-open-ge-MOST_OPEN.true)

-- src/calls.rt:91:1
pub returns : goal.returns
returns c = λ s f below outs taken known.
    let h = c.args.run.now.world.h.now in
    let program = c.args.run.now.program.now in
    let sizes = size_in c.args.run.now.sizes.now in
    let world = c.requires.setup.world in
    let d = c.args.class in
    let at = with_frames s (InBody f ∷ below) in
    let counts = ap (λ (x : BodyFrame). x.depth) c.get.ensures ∙ taken.counts in
    let before = s.objects.classes in
    let after = with_objects s (with_new_object s.objects d) in
    let frames = InBody (at_statement f c.args.next) ∷ below in
    let plan = building h program (length before) d (target_of_code c.args.target) in
    let same = sym c.size_of-size.ensures in
    let stands = c.in_ok-number.ensures.stands h sizes program (with_frames s below) world.are_numbers same taken.machine_stands in
    let points = c.in_ok-number.ensures.whole h sizes program (with_frames s below) world.are_numbers taken.machine_stands in
    let now : IsTaken h sizes program c.make.new.self c.args.frame after f below = record {
      machine_stands = stands;
      body_stands = frame_grown h program before d (Body c.args.frame) (InBody f) taken.body_stands;
      counts = taken.counts;
    } in
    let listed = get_last before d in
    moved_silent h sizes program c.begin_plan.new.machine outs (with_frames after (plan ∷ frames)) (limit_of sizes at (asks_object d))
    (heap_free sizes at d c.size_of-size.result c.is_full.result c.size_of-size.ensures (c.is_full.ensures.is h sizes program (with_frames s below) taken.machine_stands) c.if-is_full.false
    ∙ open_free at c.get.result.now.depth counts c.if-open-ge-MOST_OPEN.false)
    (c.in_ok-begin_plan.ensures sizes (with_frames after frames) (length before) d (c.in_ok-go_on.ensures h sizes program after f below now) listed
    (c.whole_at.ensures h (with_new_object s.objects d).classes (length before) world.hierarchy listed points)
    (counts_more plan frames c.get.result.now.depth counts refl))

pub make-requires-clause-small : goal.make-requires-clause-small
make-requires-clause-small c =
    let world = c.requires.setup.world in
    let known : c.args.class.0 < length c.args.run.now.world.h.now = search rules in
    record { classes = c.args.run.now.world.h.now; are_numbers = world.are_numbers; few = (are_small c.args.run.now.world.h.now world.hierarchy world.limits).each c.args.class known }
