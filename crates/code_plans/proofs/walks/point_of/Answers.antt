use Rattle.std.proofs.Common.{ap, sym, ◌∙◌, ◌+◌, ◌-◌, ◌*◌}
use Rattle.abi_sound.specs.Places.{places_of}
use Rattle.abi_vtt.specs.Blocks.{before_by_class}
use Rattle.code_ops.specs.Setups.{setup}
use Rattle.cxx_subobject.specs.Subobjects.{is_shared_root}
use Rattle.code_plans.specs.invariants.Walks.{first_words_or}
use Rattle.code_plans.proofs.WalkPoints.{shared_distance_none, shared_needs, shared_number, whole_distance, whole_number}
use Rattle.code_plans.proofs.walks.point_of.Goals as goal

pub returns-in-Whole-clause-distance : goal.returns-in-Whole-clause-distance
returns-in-Whole-clause-distance g c =
    let h = c.args.site.now.h.now in
    let rows = g.L.SoundLayout.rows c.args.site.now.layout.now in
    let x = setup h rows c.args.site.now.program.now in
    let walk = c.args.walk.now in
    whole_distance x c.requires.site.site.keeps c.args.c c.requires.known c.requires.site.site.few_words c.args.s.now walk c.requires.at c.requires.apart c.in-Whole.is c.distance.result
    (c.distance.ensures ∙ ap (λ b. 8 * (walk.words + b - first_words_or walk.first b)) (c.before_words.ensures.is ∙ ap (before_by_class h (places_of h rows)) (sym c.requires.class)))

pub returns-in-Whole-clause-number : goal.returns-in-Whole-clause-number
returns-in-Whole-clause-number g c = λ _.
    let x = setup c.args.site.now.h.now (g.L.SoundLayout.rows c.args.site.now.layout.now) c.args.site.now.program.now in
    whole_number x c.requires.site.site.keeps c.args.c c.requires.known c.requires.site.site.few_words c.args.s.now c.args.walk.now c.requires.at c.requires.apart c.in-Whole.is

pub returns-in-Shared-clause-distance : goal.returns-in-Shared-clause-distance
returns-in-Shared-clause-distance g c =
    let x = setup c.args.site.now.h.now (g.L.SoundLayout.rows c.args.site.now.layout.now) c.args.site.now.program.now in
    shared_distance_none x c.requires.site.site.keeps c.args.c c.requires.known c.requires.site.site.few_words c.args.s.now c.args.walk.now c.requires.at c.requires.apart (ap is_shared_root c.in-Shared.is)

pub returns-in-Shared-clause-number : goal.returns-in-Shared-clause-number
returns-in-Shared-clause-number g c = λ has.
    let x = setup c.args.site.now.h.now (g.L.SoundLayout.rows c.args.site.now.layout.now) c.args.site.now.program.now in
    let shared = ap is_shared_root c.in-Shared.is in
    shared_number x c.requires.site.site.keeps c.args.c c.requires.known c.requires.site.site.few_words c.args.s.now c.args.walk.now c.requires.at c.requires.apart shared (shared_needs x c.args.s.now c.requires.apart shared) has
