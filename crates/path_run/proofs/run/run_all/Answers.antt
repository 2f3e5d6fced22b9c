use Rattle.std.proofs.Common.{◌∙◌, subst}
use Rattle.path_machine.specs.Turns.{budget_of, taken_by}
use Rattle.path_machine.specs.invariants.Steps.{size_in}
use Rattle.abi_sound.specs.Places.{places_of}
use Rattle.path_run.specs.invariants.Going.{Turned}
use Rattle.path_run.proofs.Turning.{less_left, run_is, starts}
use Rattle.path_run.proofs.run.run_all.Goals as goal

pub loop-text-init : goal.loop-text-init
loop-text-init g c =
    let h = c.args.run.now.world.h.now in
    let l = places_of h (g.L.SoundLayout.rows c.args.layout.now) in
    let state = c.in_ok-state.state in
    record {
      going = starts h (size_in c.args.run.now.sizes.now) l c.args.run.now.program.now c.args.trace state c.new-text.result.items c.requires.sizes c.in_ok-state.ensures.start c.in_ok-state.ensures.none c.in_ok-state.ensures.going c.new-text.ensures.items;
      budget = c.in_ok-state.ensures.budget;
    }

pub loop-text-preserved : goal.loop-text-preserved
loop-text-preserved g c =
    let h = c.args.run.now.world.h.now in
    let l = places_of h (g.L.SoundLayout.rows c.args.layout.now) in
    let turned = subst (Turned h l c.args.run.now.program.now c.args.trace c.loop-text.state c.turn.new.state c.turn.new.text.items) c.in-None.is c.in_ok-ended.ensures in
    record {
      going = turned.goes;
      budget = turned.budget ∙ c.loop-text.invariant.budget;
    }

pub loop-text-smaller : goal.loop-text-smaller
loop-text-smaller g c =
    let h = c.args.run.now.world.h.now in
    let l = places_of h (g.L.SoundLayout.rows c.args.layout.now) in
    let turned = subst (Turned h l c.args.run.now.program.now c.args.trace c.loop-text.state c.turn.new.state c.turn.new.text.items) c.in-None.is c.in_ok-ended.ensures in
    less_left (budget_of c.loop-text.state) (taken_by c.loop-text.state) (budget_of c.turn.new.state) (taken_by c.turn.new.state) turned.taken turned.budget turned.goes.at_step.within

pub returns-in-Some : goal.returns-in-Some
returns-in-Some g c =
    let h = c.args.run.now.world.h.now in
    let l = places_of h (g.L.SoundLayout.rows c.args.layout.now) in
    let ran = subst (Turned h l c.args.run.now.program.now c.args.trace c.loop-text.state c.turn.new.state c.turn.new.text.items) c.in-Some.is c.in_ok-ended.ensures in
    run_is h l c.args.run.now.program.now c.args.trace (budget_of c.loop-text.state) c.args.steps c.turn.new.text.items c.from_vec.result c.in-Some.end c.loop-text.invariant.budget c.from_vec.ensures ran
