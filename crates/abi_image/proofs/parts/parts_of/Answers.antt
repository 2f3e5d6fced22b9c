use Rattle.std.proofs.Common.{◌≡◌, ◌∙◌, List, ℕ, ap, arith, map, refl, subst}
use Rattle.abi_image.specs.invariants.Drafts.{group_size, info_size, sum_of_sizes, vtt_size}
use Rattle.abi_image.specs.invariants.Parts.{AreAt, IsRegion}
use Rattle.abi_image.proofs.Rooms.{four_each, words_by_parts}
use Rattle.abi_image.proofs.Together.{in_region, parts_are}
use Rattle.abi_image.proofs.parts.parts_of.Goals as goal

pub returns : goal.returns
returns c =
    let groups = subst (λ l. IsRegion c.behind-start.result l c.in_ok-group_region.group_region) c.deref.ensures.value c.in_ok-group_region.ensures in
    let vtts = subst (λ l. IsRegion c.in_ok-group_region.group_region.end l c.in_ok-vtt_region.vtt_region) c.deref-2.ensures.value c.in_ok-vtt_region.ensures in
    let infos = subst (λ l. IsRegion c.in_ok-vtt_region.vtt_region.end l c.in_ok-info_region.info_region) c.deref-3.ensures.value c.in_ok-info_region.ensures in
    parts_are c.args.groups.now c.args.vtts.now c.args.infos.now (record { groups = c.in_ok-places.places; vtts = c.in_ok-vtt_region.vtt_region; infos = c.in_ok-info_region.info_region; firsts = c.in_ok-firsts.firsts })
    c.behind-half.result c.behind-start.result c.in_ok-group_sizes.field-0.items c.in_ok-vtt_sizes.field-0.items c.in_ok-info_sizes.field-0.items c.in_ok-group_region.group_region c.in_ok-vtt_region.vtt_region c.in_ok-info_region.info_region
    c.behind-half.ensures c.behind-start.ensures c.in_ok-group_sizes.ensures c.in_ok-vtt_sizes.ensures c.in_ok-info_sizes.ensures groups vtts infos c.in_ok-places.ensures.at refl refl c.in_ok-places.ensures.points c.in_ok-firsts.ensures

pub group_sizes-requires : goal.group_sizes-requires
group_sizes-requires c =
    let by_parts = words_by_parts c.args.groups.now c.args.vtts.now c.args.infos.now in
    let few = c.requires.few in
    omega (arith, by_parts, few)

pub info_sizes-requires : goal.info_sizes-requires
info_sizes-requires c =
    let by_parts = words_by_parts c.args.groups.now c.args.vtts.now c.args.infos.now in
    let few = c.requires.few in
    omega (arith, by_parts, few)

pub region_of-requires-clause-room : goal.region_of-requires-clause-room
region_of-requires-clause-room c =
    let by_parts = words_by_parts c.args.groups.now c.args.vtts.now c.args.infos.now in
    let few = c.requires.few in
    let four = four_each c.args.infos.now in
    let items = c.requires.items in
    let half = c.behind-half.ensures in
    let start = c.behind-start.ensures in
    let groups : sum_of_sizes c.deref.result.now ≡ sum_of_sizes (map group_size c.args.groups.now) = ap sum_of_sizes (c.deref.ensures.value ∙ c.in_ok-group_sizes.ensures) in
    omega (arith, by_parts, few, four, items, half, start, groups)

pub region_of-requires-2-clause-room : goal.region_of-requires-2-clause-room
region_of-requires-2-clause-room c =
    let by_parts = words_by_parts c.args.groups.now c.args.vtts.now c.args.infos.now in
    let few = c.requires.few in
    let four = four_each c.args.infos.now in
    let items = c.requires.items in
    let half = c.behind-half.ensures in
    let start = c.behind-start.ensures in
    let groups : sum_of_sizes c.deref.result.now ≡ sum_of_sizes (map group_size c.args.groups.now) = ap sum_of_sizes (c.deref.ensures.value ∙ c.in_ok-group_sizes.ensures) in
    let vtts : sum_of_sizes c.deref-2.result.now ≡ sum_of_sizes (map vtt_size c.args.vtts.now) = ap sum_of_sizes (c.deref-2.ensures.value ∙ c.in_ok-vtt_sizes.ensures) in
    let group_end = c.in_ok-group_region.ensures.end_is in
    omega (arith, by_parts, few, four, items, half, start, groups, vtts, group_end)

pub region_of-requires-3-clause-room : goal.region_of-requires-3-clause-room
region_of-requires-3-clause-room c =
    let by_parts = words_by_parts c.args.groups.now c.args.vtts.now c.args.infos.now in
    let few = c.requires.few in
    let four = four_each c.args.infos.now in
    let items = c.requires.items in
    let half = c.behind-half.ensures in
    let start = c.behind-start.ensures in
    let groups : sum_of_sizes c.deref.result.now ≡ sum_of_sizes (map group_size c.args.groups.now) = ap sum_of_sizes (c.deref.ensures.value ∙ c.in_ok-group_sizes.ensures) in
    let vtts : sum_of_sizes c.deref-2.result.now ≡ sum_of_sizes (map vtt_size c.args.vtts.now) = ap sum_of_sizes (c.deref-2.ensures.value ∙ c.in_ok-vtt_sizes.ensures) in
    let group_end = c.in_ok-group_region.ensures.end_is in
    let infos : sum_of_sizes c.deref-3.result.now ≡ sum_of_sizes (map info_size c.args.infos.now) = ap sum_of_sizes (c.deref-3.ensures.value ∙ c.in_ok-info_sizes.ensures) in
    let vtt_end = c.in_ok-vtt_region.ensures.end_is in
    omega (arith, by_parts, few, four, items, half, start, groups, vtts, group_end, infos, vtt_end)

pub group_places-requires-clause-room : goal.group_places-requires-clause-room
group_places-requires-clause-room c = λ i group there.
    let by_parts = words_by_parts c.args.groups.now c.args.vtts.now c.args.infos.now in
    let few = c.requires.few in
    let four = four_each c.args.infos.now in
    let items = c.requires.items in
    let half = c.behind-half.ensures in
    let start = c.behind-start.ensures in
    let are : AreAt c.behind-start.result (map group_size c.args.groups.now) c.in_ok-group_region.group_region.at.items =
    subst (λ (l : List ℕ). AreAt c.behind-start.result l c.in_ok-group_region.group_region.at.items) (c.deref.ensures.value ∙ c.in_ok-group_sizes.ensures) c.in_ok-group_region.ensures.each in
    let inside = in_region group_size c.args.groups.now c.behind-start.result c.in_ok-group_region.group_region.at.items are i group there in
    omega (arith, by_parts, few, four, items, half, start, inside)
