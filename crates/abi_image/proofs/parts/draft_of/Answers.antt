use Rattle.std.proofs.Common.{◌≡◌, ◌*◌, ap, arith, length, map, refl, subst}
use Rattle.abi_slots.specs.Images.{HasInfo, StandsAt}
use Rattle.abi_image.specs.invariants.Drafts.{AllBySize, HaveClassWords, Puts, class_address, group_size, info_size, sum_of_sizes, vtt_size}
use Rattle.abi_image.specs.declared.draft.Draft.{Draft}
use Rattle.abi_image.proofs.Filling.{length_after}
use Rattle.abi_image.proofs.Rooms.{four_each, records_after, words_by_parts}
use Rattle.abi_image.proofs.Together.{together}
use Rattle.cxx_hierarchy.specs.Classes.{class_by_number}
use Rattle.abi_image.proofs.parts.draft_of.Goals as goal

pub returns : goal.returns
returns c =
    let first = subst (λ v. Puts (record { words = c.new.result; records = c.new-2.result; records_at = c.args.parts.now.infos.end }) c.push_directory.new.draft (2 * length c.args.vtts.now) (λ image at. HaveClassWords image c.args.parts.now.firsts.items v c.args.vtts.now at)) c.deref-2.ensures.value
    (subst (λ f. Puts (record { words = c.new.result; records = c.new-2.result; records_at = c.args.parts.now.infos.end }) c.push_directory.new.draft (2 * length c.args.vtts.now) (λ image at. HaveClassWords image f c.deref-2.result.now c.args.vtts.now at)) c.deref.ensures.value c.in_ok-push_directory.ensures) in
    let second = subst (λ l. Puts c.push_directory.new.draft c.push_groups.new.draft (sum_of_sizes (map group_size c.args.groups.now)) (λ image at. AllBySize group_size (λ i group there. StandsAt image c.args.codes.now (class_address l) group there) c.args.groups.now at)) c.deref-3.ensures.value c.in_ok-push_groups.ensures in
    let fourth = subst (λ l. Puts c.push_vtts.new.draft c.push_infos.new.draft (sum_of_sizes (map info_size c.args.infos.now)) (λ image at. AllBySize info_size (λ i info there. HasInfo image (class_address l) (class_by_number i) info there) c.args.infos.now at)) c.deref-4.ensures.value c.in_ok-push_infos.ensures in
    together c.args.codes.now c.args.groups.now c.args.vtts.now c.args.infos.now c.args.parts.now (record { words = c.new.result; records = c.new-2.result; records_at = c.args.parts.now.infos.end }) c.push_directory.new.draft c.push_groups.new.draft c.push_vtts.new.draft c.push_infos.new.draft
    c.requires.items c.requires.few c.requires.parts c.new.ensures.items c.new-2.ensures.items refl first second c.in_ok-push_vtts.ensures fourth

pub push_groups-requires-clause-room : goal.push_groups-requires-clause-room
push_groups-requires-clause-room c =
    let old : Draft = record { words = c.new.result; records = c.new-2.result; records_at = c.args.parts.now.infos.end } in
    let by_parts = words_by_parts c.args.groups.now c.args.vtts.now c.args.infos.now in
    let few = c.requires.few in
    let four = four_each c.args.infos.now in
    let items = c.requires.items in
    let end_is = c.requires.parts.infos_at.end_is in
    let place = c.in_ok-push_directory.ensures.same_place in
    let none : length c.new-2.result.items ≡ 0 = ap length c.new-2.ensures.items in
    let many = records_after old c.push_directory.new.draft (2 * length c.args.vtts.now) _ c.in_ok-push_directory.ensures in
    omega (arith, by_parts, few, four, items, end_is, place, none, many)

pub push_infos-requires-clause-few : goal.push_infos-requires-clause-few
push_infos-requires-clause-few c =
    let by_parts = words_by_parts c.args.groups.now c.args.vtts.now c.args.infos.now in
    let few = c.requires.few in
    omega (arith, by_parts, few)

pub push_infos-requires-clause-room : goal.push_infos-requires-clause-room
push_infos-requires-clause-room c =
    let old : Draft = record { words = c.new.result; records = c.new-2.result; records_at = c.args.parts.now.infos.end } in
    let by_parts = words_by_parts c.args.groups.now c.args.vtts.now c.args.infos.now in
    let few = c.requires.few in
    let four = four_each c.args.infos.now in
    let items = c.requires.items in
    let none : length c.new.result.items ≡ 0 = ap length c.new.ensures.items in
    let first = length_after old c.push_directory.new.draft (2 * length c.args.vtts.now) _ c.in_ok-push_directory.ensures in
    let second = length_after c.push_directory.new.draft c.push_groups.new.draft (sum_of_sizes (map group_size c.args.groups.now)) _ c.in_ok-push_groups.ensures in
    let third = length_after c.push_groups.new.draft c.push_vtts.new.draft (sum_of_sizes (map vtt_size c.args.vtts.now)) _ c.in_ok-push_vtts.ensures in
    omega (arith, by_parts, few, four, items, none, first, second, third)
