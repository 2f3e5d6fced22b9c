use Rattle.std.proofs.Common.{None, Some, ◌∙◌, ◌+◌, ◌<◌, ◌≤◌, ℕ, List, ◌++◌, length, arith, ap, subst}
use Rattle.foundation.proofs.Members.{Has, has_from_contains}
use Rattle.foundation.proofs.Chosen.{has_filter}
use Rattle.path_model.specs.declared.outs.Out.{Out}
use Rattle.path_machine.specs.Turns.{taken_by}
use Rattle.path_machine.specs.Tellings.{is_told}
use Rattle.abi_sound.specs.Places.{places_of}
use Rattle.text_told.specs.Told.{text_limit}
use Rattle.text_told.proofs.Telling.{steps_told}
use Rattle.path_run.specs.invariants.Going.{all_told}
use Rattle.path_run.proofs.Turning.{ends_run, goes_on, goes_silent, lines_are, passes_limit, traced}
use Rattle.path_run.proofs.turn.turn.Goals as goal

pub returns-in-Some : goal.returns-in-Some
returns-in-Some g c =
    let h = c.args.run.now.world.h.now in
    let l = places_of h (g.L.SoundLayout.rows c.args.layout.now) in
    let program = c.args.run.now.program.now in
    let over = traced h l program c.new-telling.result.trace c.args.trace c.args.state.now c.step.new.state c.step.new.telling.outs c.in_ok-end.field-0 (Some c.in-Some.end) c.new-telling.ensures.trace c.in-Some.is (c.in_ok-end.ensures l c.requires.sizes) in
    ends_run h l program c.args.trace c.args.state.now c.args.text.now.items c.in-Some.end c.requires.going over

pub returns-then-is_silent : goal.returns-then-is_silent
returns-then-is_silent g c =
    let h = c.args.run.now.world.h.now in
    let l = places_of h (g.L.SoundLayout.rows c.args.layout.now) in
    let program = c.args.run.now.program.now in
    let on = traced h l program c.new-telling.result.trace c.args.trace c.args.state.now c.step.new.state c.step.new.telling.outs c.in_ok-end.field-0 None c.new-telling.ensures.trace c.in-None.is (c.in_ok-end.ensures l c.requires.sizes) in
    let none = c.is_silent.ensures c.if-is_silent.true in
    goes_silent h l program c.args.trace c.args.state.now c.step.new.state c.args.text.now.items c.step.new.telling.outs c.requires.going on none

pub append_told-requires-clause-told : goal.append_told-requires-clause-told
append_told-requires-clause-told g c =
    let h = c.args.run.now.world.h.now in
    let l = places_of h (g.L.SoundLayout.rows c.args.layout.now) in
    let program = c.args.run.now.program.now in
    let before = c.args.state.now in
    let setup = c.requires.setup in
    let on = traced h l program c.new-telling.result.trace c.args.trace before c.step.new.state c.step.new.telling.outs c.in_ok-end.field-0 None c.new-telling.ensures.trace c.in-None.is (c.in_ok-end.ensures l c.requires.sizes) in
    λ out has.
    (steps_told h setup.world.hierarchy setup.world.are_overriders.fine program setup.typed l.size c.requires.main (taken_by before) out
    (has_filter (is_told c.args.trace) (all_told h l program before) out (subst (λ (xs : List Out). Has xs out) (c.as_slice.ensures ∙ on.tells) (has_from_contains c.as_slice.result.now out has))).0).0

pub returns-then-len-gt-TEXT_LIMIT : goal.returns-then-len-gt-TEXT_LIMIT
returns-then-len-gt-TEXT_LIMIT g c =
    let h = c.args.run.now.world.h.now in
    let l = places_of h (g.L.SoundLayout.rows c.args.layout.now) in
    let program = c.args.run.now.program.now in
    let lines = c.append_told.new.text.items in
    let on = traced h l program c.new-telling.result.trace c.args.trace c.args.state.now c.step.new.state c.step.new.telling.outs c.in_ok-end.field-0 None c.new-telling.ensures.trace c.in-None.is (c.in_ok-end.ensures l c.requires.sizes) in
    let adds = lines_are h l c.new-lines.result.items lines c.as_slice.result.now c.step.new.telling.outs c.new-lines.ensures.items c.as_slice.ensures c.in_ok-append_told.ensures in
    let long : text_limit < length c.args.text.now.items + length lines = omega (arith, c.if-len-gt-TEXT_LIMIT.true, c.len.ensures, c.len-2.ensures) in
    passes_limit h l program c.args.trace c.args.state.now c.step.new.state c.args.text.now.items lines c.step.new.telling.outs c.requires.going on adds long

pub returns : goal.returns
returns g c =
    let h = c.args.run.now.world.h.now in
    let l = places_of h (g.L.SoundLayout.rows c.args.layout.now) in
    let program = c.args.run.now.program.now in
    let lines = c.append_told.new.text.items in
    let on = traced h l program c.new-telling.result.trace c.args.trace c.args.state.now c.step.new.state c.step.new.telling.outs c.in_ok-end.field-0 None c.new-telling.ensures.trace c.in-None.is (c.in_ok-end.ensures l c.requires.sizes) in
    let adds = lines_are h l c.new-lines.result.items lines c.as_slice.result.now c.step.new.telling.outs c.new-lines.ensures.items c.as_slice.ensures c.in_ok-append_told.ensures in
    let few : length c.args.text.now.items + length lines ≤ text_limit = omega (arith, c.if-len-gt-TEXT_LIMIT.false, c.len.ensures, c.len-2.ensures) in
    goes_on h l program c.args.trace c.args.state.now c.step.new.state c.args.text.now.items lines c.extend_from_slice.new.self.items c.step.new.telling.outs c.requires.going on adds few
    (c.in_ok-extend_from_slice.ensures.items ∙ ap (λ (t : List ℕ). c.args.text.now.items ++ t) c.deref.ensures.value)
