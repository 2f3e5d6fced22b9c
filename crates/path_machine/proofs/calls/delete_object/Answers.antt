use Rattle.std.proofs.Common.{◌∷◌, subst}
use Rattle.std.proofs.lemmas.Result.{IfOk-weaker}
use Rattle.path_model.specs.Values.{value_of_operand}
use Rattle.path_model.specs.States.{InBody, at_statement, with_frames, sight, wanted_result}
use Rattle.cxx_program.specs.Typed.{deletes}
use Rattle.path_effects.specs.Ends.{Ends}
use Rattle.path_machine.specs.invariants.Steps.{size_in}
use Rattle.path_machine.proofs.Moves.{null_deleted, object_deleted}
use Rattle.path_machine.proofs.calls.delete_object.Goals as goal

-- src/calls.rt:128:1
pub returns-in_ok-go_on-in-None : goal.returns-in_ok-go_on-in-None
returns-in_ok-go_on-in-None c = λ e d s f below outs taken deleting.
    let h = c.args.run.now.world.h.now in
    let program = c.args.run.now.program.now in
    let sizes = size_in c.args.run.now.sizes.now in
    let v = value_of_operand (sight s f) c.args.pointer.now in
    let scene = c.scene_of-scene.ensures h sizes program s f below taken in
    null_deleted h sizes program c.go_on.new.machine outs (with_frames s (InBody f ∷ below)) (with_frames s (InBody (at_statement f c.args.next) ∷ below)) v
    (subst (λ x. Ends h s.objects.classes x v) c.in-None.is (c.deleted.ensures h e (sight s f) (wanted_result f) d scene deleting.seen (deletes c.args.pointer.now d deleting.typed) (deleting.clear (wanted_result f))))
    (c.in_ok-go_on-in-None.ensures h sizes program s f below taken)

-- src/calls.rt:128:1
pub returns-in-Some : goal.returns-in-Some
returns-in-Some c = IfOk-weaker c.end_object.result _ _ (λ taken told e d s f below outs stands deleting.
    let h = c.args.run.now.world.h.now in
    let program = c.args.run.now.program.now in
    let sizes = size_in c.args.run.now.sizes.now in
    let v = value_of_operand (sight s f) c.args.pointer.now in
    let scene = c.scene_of-scene.ensures h sizes program s f below stands in
    object_deleted h sizes program c.end_object.new.machine outs outs (with_frames s (InBody f ∷ below)) (with_frames s (InBody (at_statement f c.args.next) ∷ below)) v c.in-Some.whole taken
    (subst (λ x. Ends h s.objects.classes x v) c.in-Some.is (c.deleted.ensures h e (sight s f) (wanted_result f) d scene deleting.seen (deletes c.args.pointer.now d deleting.typed) (deleting.clear (wanted_result f))))
    (λ k b made whole. told sizes s f below outs k b stands made whole)) c.end_object.ensures
