use Rattle.std.proofs.Common.{None, subst, sym}
use Rattle.cxx_program.specs.Typed.{whole}
use Rattle.path_heap.specs.Stands.{Means}
use Rattle.path_values.specs.Conversions.{CanConvert}
use Rattle.path_model.specs.Values.{argument_value, converted_to}
use Rattle.path_model.specs.States.{sight, wanted_result, with_frames}
use Rattle.path_model.specs.Effects.{given_to_target}
use Rattle.path_effects.proofs.Leaving.{return_converts}
use Rattle.path_machine.specs.Machines.{MachineStands}
use Rattle.path_machine.specs.declared.frames.BodyFrame.{BodyFrame}
use Rattle.path_machine.specs.Frames.{BodyStands}
use Rattle.path_machine.specs.invariants.Steps.{size_in, CanGive}
use Rattle.path_machine.proofs.Effecting.{can_give}
use Rattle.path_machine.proofs.statements.give_result.Goals as goal

-- src/statements.rt:103:1
pub returns : goal.returns
returns c = λ e s f below t taken clear returns fits.
    let h = c.args.run.now.world.h.now in
    let sizes = size_in c.args.run.now.sizes.now in
    let program = c.args.run.now.program.now in
    let see = sight s f in
    let a = c.args.a.now in
    let v = argument_value see a in
    let frame = c.args.frame.now in
    let scene = c.scene_of-scene.ensures h sizes program s f below taken in
    let r = return_converts h e see clear.given.seen (wanted_result f) a t returns fits clear.given.back clear.clear in
    let seen = subst (λ (x : BodyFrame). BodyStands h s.objects.classes x f) (sym c.get-body.ensures) taken.body_stands in
    let found = seen.same_found in
    let m1 = c.argument_value-result.ensures e see None t scene clear.given.seen (whole a t fits) r.argument in
    let m2 = c.convert-found.ensures s.objects v taken.machine_stands.heap_stands m1 (subst (CanConvert h s.objects v) (sym found) r.found) in
    let m3 = subst (λ x. Means h s.objects.classes c.convert-found.result (converted_to v x)) found m2 in
    let u = converted_to v f.found in
    let same = seen.same_target in
    let able = subst (CanGive h (with_frames s below) u) (sym same) (can_give h (with_frames s below) u f.target r.target) in
    subst (λ x. MachineStands h sizes program c.give.new.machine (given_to_target (with_frames s below) u x)) same (c.give.ensures sizes program (with_frames s below) u taken.machine_stands m3 able)
