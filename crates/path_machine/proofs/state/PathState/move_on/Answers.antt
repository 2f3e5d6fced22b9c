use Rattle.std.proofs.Common.{◌≡◌, refl}
use Rattle.path_model.specs.Runs.{IsWrong, move, state_at}
use Rattle.path_machine.specs.invariants.Steps.{size_in}
use Rattle.path_machine.proofs.Running.{GoesOn}
use Rattle.path_machine.proofs.Counting.{objects_few}
use Rattle.path_machine.proofs.Turning.{leaves, next_at}
use Rattle.path_machine.proofs.state.PathState.move_on.Goals as goal

pub returns : goal.returns
returns c =
    let h = c.args.run.now.world.h.now in
    let sizes = size_in c.args.run.now.sizes.now in
    let program = c.args.run.now.program.now in
    let before = c.args.self.now in
    let n = before.taken in
    let keeps = c.requires.setup.world.hierarchy in
    let fine = c.requires.setup.world.are_overriders.fine in
    let typed = c.requires.setup.typed in
    let goes : GoesOn h sizes program = λ n m runs. c.runs_go_on.ensures h sizes program n m runs in
    let right : move h sizes program (state_at h sizes program n) ≡ IsWrong → ⊥ = λ e. c.runs_are_typed.ensures.right h sizes program n keeps fine typed c.requires.main e in
    let next = next_at h sizes program n fine (c.runs_are_typed.ensures.typed h sizes program n keeps fine typed c.requires.main)
    (λ f below is. c.statements_are_settled.ensures h sizes program n f below keeps is)
    (λ f e events below is first. c.plans_fit.ensures.next h sizes program n f e events below keeps is first)
    (λ g f e events below is first. c.plans_fit.ensures.behind_body h sizes program n g f e events below keeps is first) in
    let agrees = c.in_ok-next.ensures.agrees (state_at h sizes program n) c.requires.at.machine_stands next in
    record {
      taken = refl;
      budget = refl;
      end = refl;
      failed = refl;
      leaves = leaves h sizes program before c.move_on.new.machine c.move_on.new.answers c.args.outs.now c.move_on.new.outs c.in_ok-next.next right goes c.requires.at c.requires.room c.in_ok-next.ensures.answers agrees;
    }

pub move_on-requires-clause-few : goal.move_on-requires-clause-few
move_on-requires-clause-few c =
    objects_few c.args.run.now.world.h.now (size_in c.args.run.now.sizes.now) c.args.run.now.program.now c.args.self.now c.requires.at c.requires.room
