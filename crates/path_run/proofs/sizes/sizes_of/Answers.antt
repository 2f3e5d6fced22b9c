use Rattle.std.proofs.Common.{◌≡◌, ◌≤◌, ◌∙◌, ℕ, List, ◌++◌, ◌∷◌, [], map, length, arith, ap}
use Rattle.std.proofs.lemmas.List.{take_all}
use Rattle.text_told.proofs.Steps.{map_one_more}
use Rattle.path_run.proofs.SizeLists.{row_size, sizes_are}
use Rattle.path_run.proofs.sizes.sizes_of.Goals as goal

pub layout-requires : goal.layout-requires
layout-requires g c =
    let sound = g.met.L.SoundLayout.sound c.args.layout.now c.args.h.now c.requires.layout in
    let all : length (g.L.SoundLayout.rows c.args.layout.now) ≡ length c.args.h.now = sound.full.one_each in
    omega (arith, all, c.loop-number-test.true, c.len-number-end.ensures)

pub loop-number-preserved : goal.loop-number-preserved
loop-number-preserved g c =
    c.in_ok-push.ensures.items
    ∙ (ap (λ (xs : List ℕ). xs ++ c.layout.result.now.size ∷ []) c.loop-number.invariant
    ∙ map_one_more row_size (g.L.SoundLayout.rows c.args.layout.now) c.loop-number.number c.layout.result.now c.layout.ensures)

pub returns : goal.returns
returns g c =
    let rows = g.L.SoundLayout.rows c.args.layout.now in
    let sound = g.met.L.SoundLayout.sound c.args.layout.now c.args.h.now c.requires.layout in
    let all : length rows ≡ length c.args.h.now = sound.full.one_each in
    let le : length rows ≤ c.loop-number.number = omega (arith, all, c.loop-number-test.false, c.len-number-end.ensures) in
    sizes_are c.args.h.now rows c.loop-number.sizes.items (c.loop-number.invariant ∙ ap (map row_size) (take_all c.loop-number.number rows le))
