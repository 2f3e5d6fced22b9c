use Rattle.std.proofs.Common.{◌≡◌, ◌+◌, ◌*◌, None, ap, arith, refl, sym, ◌∙◌}
use Rattle.std.specs.List.{slice_get}
use Rattle.path_plan.specs.declared.form.Form.TheVariants.{InFull}
use Rattle.code_ops.specs.Routines.{start_by}
use Rattle.abi_sound.specs.Places.{member_place, size_in_row}
use Rattle.code_blocks.specs.Items.{first_index}
use Rattle.code_blocks.specs.Blocks.{base_course, stride_of}
use Rattle.code_ops.specs.Setups.{PlanCode, setup}
use Rattle.code_plans.proofs.Known.{element_fits, element_same, member_known}
use Rattle.code_plans.proofs.OpeningNumbers.{opening_same}
use Rattle.code_plans.proofs.openings.member_opening.Goals as goal

pub layout-requires : goal.layout-requires
layout-requires g c =
    let known = member_known c.args.site.now.h.now c.keeps.ensures c.args.plan.class c.args.d c.args.m (first_index c.args.way c.args.count) c.requires.known c.requires.element in
    let all = (g.met.L.SoundLayout.sound c.args.site.now.layout.now c.args.site.now.h.now c.requires.site.layout).full.one_each in
    omega arith

pub overflow_mul-result : goal.overflow_mul-result
overflow_mul-result g c =
    let fits = element_fits c.args.site.now.h.now (g.L.SoundLayout.rows c.args.site.now.layout.now) (g.met.L.SoundLayout.sound c.args.site.now.layout.now c.args.site.now.h.now c.requires.site.layout) c.args.plan.class c.args.d c.args.m (first_index c.args.way c.args.count) c.requires.known c.requires.element
    c.member_place.result c.first_of.result c.layout.result.now.size c.member_place.ensures c.first_of.ensures (ap size_in_row c.layout.ensures) in
    omega arith

pub overflow_add-result : goal.overflow_add-result
overflow_add-result g c =
    let fits = element_fits c.args.site.now.h.now (g.L.SoundLayout.rows c.args.site.now.layout.now) (g.met.L.SoundLayout.sound c.args.site.now.layout.now c.args.site.now.h.now c.requires.site.layout) c.args.plan.class c.args.d c.args.m (first_index c.args.way c.args.count) c.requires.known c.requires.element
    c.member_place.result c.first_of.result c.layout.result.now.size c.member_place.ensures c.first_of.ensures (ap size_in_row c.layout.ensures) in
    omega arith

pub part_start-requires : goal.part_start-requires
part_start-requires g c = member_known c.args.site.now.h.now c.keeps.ensures c.args.plan.class c.args.d c.args.m (first_index c.args.way c.args.count) c.requires.known c.requires.element

pub stride-requires : goal.stride-requires
stride-requires g c =
    let known = member_known c.args.site.now.h.now c.keeps.ensures c.args.plan.class c.args.d c.args.m (first_index c.args.way c.args.count) c.requires.known c.requires.element in
    let some = ((g.met.L.SoundLayout.sound c.args.site.now.layout.now c.args.site.now.h.now c.requires.site.layout).each c.args.d known).positive in
    let size = ap size_in_row c.layout.ensures in
    omega arith

pub returns : goal.returns
returns g c =
    let h = c.args.site.now.h.now in
    let rows = g.L.SoundLayout.rows c.args.site.now.layout.now in
    let x = setup h rows c.args.site.now.program.now in
    let n = first_index c.args.way c.args.count in
    let size : size_in_row (slice_get rows c.args.d.0) ≡ c.layout.result.now.size = ap size_in_row c.layout.ensures in
    opening_same (c.member_place.result + c.first_of.result * c.layout.result.now.size) (member_place rows c.args.plan.class c.args.m + n * size_in_row (slice_get rows c.args.d.0)) c.part_start.result (start_by x c.args.site.now.numbers.now (PlanCode (base_course c.args.plan.course) InFull c.args.d)) None None c.args.count c.stride.result (stride_of c.args.way (size_in_row (slice_get rows c.args.d.0)))
    (element_same c.member_place.result (size_in_row (slice_get rows c.args.d.0)) n c.first_of.result c.layout.result.now.size (member_place rows c.args.plan.class c.args.m) c.member_place.ensures c.first_of.ensures size)
    (c.part_start.ensures rows) refl (c.stride.ensures ∙ ap (stride_of c.args.way) (sym size))
