use Rattle.std.proofs.Common.{◌≡◌, ◌<◌, ◌≤◌, ◌+◌, true, false, length, map, get_or, refl, ap, sym, ◌∙◌, rules, arith}
use Rattle.std.specs.List.{slice_get, filter}
use Rattle.std.proofs.lemmas.Option.{slice_get_read}
use Rattle.cxx_hierarchy.specs.Classes.{bases_in}
use Rattle.abi_sound.specs.Places.{places_of, primary_in}
use Rattle.abi_slots.specs.Limits.{most_offsets}
use Rattle.cxx_overrider.specs.Virtuals.{own}
use Rattle.abi_slots.specs.Listing.{push_all, calls_in}
use Rattle.abi_slots.specs.Rows.{is_chosen, class_of_base, below}
use Rattle.abi_slots.proofs.CallSteps.{below_step, below_end, chosen_before, calls_are}
use Rattle.abi_slots.proofs.CallRooms.{parts_fit, below_room, own_declared}
use Rattle.abi_slots.proofs.vcalls.+push_calls.Goals as goal

pub push_calls-requires : goal.push_calls-requires
push_calls-requires g t c κs within =
    let h = c.args.h.now in
    let l = places_of h (g.L.SoundLayout.rows c.args.layout.now) in
    let bases = c.as_slice-bases.ensures ∙ sym (ap bases_in c.class.ensures) in
    let chosen = c.as_slice-b-items.ensures.value ∙ c.in_ok-firsts.ensures in
    let less : (get_or c.as_slice-b-items.result.now c.loop-b.b-index (record { 0 = 0 })).0 < c.args.c.0 = chosen_before h c.keeps.ensures c.args.c c.layout-row.result.now.primary true c.as_slice-b-items.result.now c.as_slice-bases.result.now c.loop-b.b-index _ bases chosen c.loop-b-test.true in
    let known : (get_or c.as_slice-b-items.result.now c.loop-b.b-index (record { 0 = 0 })).0 < length h = let k = c.requires.known in omega arith in
    let fit = parts_fit h l c.args.c c.args.path.now c.layout-row.result.now.primary c.as_slice-bases.result.now (own h c.args.c) c.as_slice-b-items.result.now (map class_of_base (filter (is_chosen c.layout-row.result.now.primary false) c.as_slice-bases.result.now)) c.args.table.now.offsets.items most_offsets bases (sym (ap primary_in c.layout-row.ensures)) refl chosen refl c.requires.few in
    let few : length (push_all h c.loop-b.table.offsets.items (calls_in h l ((get_or c.as_slice-b-items.result.now c.loop-b.b-index (record { 0 = 0 })).0 + 1) c.as_slice.result.now (get_or c.as_slice-b-items.result.now c.loop-b.b-index (record { 0 = 0 })))) ≤ most_offsets =
    below_room h l c.keeps.ensures c.args.c c.args.path.now c.as_slice.result.now c.as_slice-b-items.result.now c.loop-b.b-index (record { 0 = 0 }) c.loop-b.table.offsets.items _ most_offsets c.loop-b-test.true less (c.as_slice.ensures ∙ c.in_ok-more.ensures) c.loop-b.invariant.pushed fit.firsts_fit in
    search rules

pub loop-b-preserved : goal.loop-b-preserved
loop-b-preserved g t c =
    let less = chosen_before c.args.h.now c.keeps.ensures c.args.c c.layout-row.result.now.primary true c.as_slice-b-items.result.now c.as_slice-bases.result.now c.loop-b.b-index _ (c.as_slice-bases.ensures ∙ sym (ap bases_in c.class.ensures)) (c.as_slice-b-items.ensures.value ∙ c.in_ok-firsts.ensures) c.loop-b-test.true in
    record {
      pushed = below_step c.args.h.now (places_of c.args.h.now (g.L.SoundLayout.rows c.args.layout.now)) c.keeps.ensures c.args.c c.args.path.now c.as_slice.result.now c.as_slice-b-items.result.now c.loop-b.b-index _ c.loop-b.table.offsets.items c.push_calls.new.table.offsets.items _ c.loop-b-test.true less (c.as_slice.ensures ∙ c.in_ok-more.ensures) c.in_ok-push_calls.ensures.offsets c.loop-b.invariant.pushed;
      size = c.in_ok-push_calls.ensures.size;
      words_are = c.in_ok-push_calls.ensures.words;
    }

pub push_own-requires-clause-declared : goal.push_own-requires-clause-declared
push_own-requires-clause-declared g t c =
    let size = c.requires.own.size in
    let k = c.requires.known in
    let there = slice_get_read c.args.own.now (length c.args.own.now) c.args.c.0 c.index-own-c.result refl (omega arith) c.index-own-c.is in
    own_declared c.args.h.now c.keeps.ensures c.args.c c.as_slice-2.result.now (c.as_slice-2.ensures ∙ c.requires.own.each c.args.c c.index-own-c.result there)

pub push_own-requires-clause-few : goal.push_own-requires-clause-few
push_own-requires-clause-few g t c =
    let h = c.args.h.now in
    let l = places_of h (g.L.SoundLayout.rows c.args.layout.now) in
    let f = below (calls_in h l c.args.c.0) c.args.path.now in
    let size = c.requires.own.size in
    let k = c.requires.known in
    let there = slice_get_read c.args.own.now (length c.args.own.now) c.args.c.0 c.index-own-c.result refl (omega arith) c.index-own-c.is in
    let bases = c.as_slice-bases.ensures ∙ sym (ap bases_in c.class.ensures) in
    let chosen = c.as_slice-b-items.ensures.value ∙ c.in_ok-firsts.ensures in
    let fit = parts_fit h l c.args.c c.args.path.now c.layout-row.result.now.primary c.as_slice-bases.result.now c.as_slice-2.result.now c.as_slice-b-items.result.now (map class_of_base (filter (is_chosen c.layout-row.result.now.primary false) c.as_slice-bases.result.now)) c.args.table.now.offsets.items most_offsets bases (sym (ap primary_in c.layout-row.ensures))
    (c.as_slice-2.ensures ∙ c.requires.own.each c.args.c c.index-own-c.result there) chosen refl c.requires.few in
    Rattle.std.proofs.Common.subst (λ xs. length (push_all h xs (map (Rattle.abi_slots.specs.Listing.call c.args.path.now) c.as_slice-2.result.now)) ≤ most_offsets) (sym (below_end h f c.as_slice-b-items.result.now c.loop-b.b-index c.loop-b.table.offsets.items _ c.loop-b-test.false c.loop-b.invariant.pushed)) fit.own_fit

pub push_calls-requires-in-loop-d : goal.push_calls-requires-in-loop-d
push_calls-requires-in-loop-d g t c κs within =
    let h = c.args.h.now in
    let l = places_of h (g.L.SoundLayout.rows c.args.layout.now) in
    let f = below (calls_in h l c.args.c.0) c.args.path.now in
    let size = c.requires.own.size in
    let k = c.requires.known in
    let there = slice_get_read c.args.own.now (length c.args.own.now) c.args.c.0 c.index-own-c.result refl (omega arith) c.index-own-c.is in
    let bases = c.as_slice-bases.ensures ∙ sym (ap bases_in c.class.ensures) in
    let chosen = c.as_slice-b-items.ensures.value ∙ c.in_ok-firsts.ensures in
    let rest = c.as_slice-d-items.ensures.value ∙ c.in_ok-others.ensures in
    let less : (get_or c.as_slice-d-items.result.now c.loop-d.d-index (record { 0 = 0 })).0 < c.args.c.0 = chosen_before h c.keeps.ensures c.args.c c.layout-row.result.now.primary false c.as_slice-d-items.result.now c.as_slice-bases.result.now c.loop-d.d-index _ bases rest c.loop-d-test.true in
    let known : (get_or c.as_slice-d-items.result.now c.loop-d.d-index (record { 0 = 0 })).0 < length h = omega arith in
    let fit = parts_fit h l c.args.c c.args.path.now c.layout-row.result.now.primary c.as_slice-bases.result.now c.as_slice-2.result.now c.as_slice-b-items.result.now c.as_slice-d-items.result.now c.args.table.now.offsets.items most_offsets bases (sym (ap primary_in c.layout-row.ensures))
    (c.as_slice-2.ensures ∙ c.requires.own.each c.args.c c.index-own-c.result there) chosen rest c.requires.few in
    let one = below_end h f c.as_slice-b-items.result.now c.loop-b.b-index c.loop-b.table.offsets.items _ c.loop-b-test.false c.loop-b.invariant.pushed in
    let two = c.in_ok-push_own.ensures.offsets ∙ ap (λ xs. push_all h xs (map (Rattle.abi_slots.specs.Listing.call c.args.path.now) c.as_slice-2.result.now)) one in
    let inv = c.loop-d.invariant.pushed ∙ ap (λ xs. push_all h xs (Rattle.std.specs.List.flat_map f c.as_slice-d-items.result.now)) two in
    let few : length (push_all h c.loop-d.table.offsets.items (calls_in h l ((get_or c.as_slice-d-items.result.now c.loop-d.d-index (record { 0 = 0 })).0 + 1) c.as_slice-in-loop-d.result.now (get_or c.as_slice-d-items.result.now c.loop-d.d-index (record { 0 = 0 })))) ≤ most_offsets =
    below_room h l c.keeps.ensures c.args.c c.args.path.now c.as_slice-in-loop-d.result.now c.as_slice-d-items.result.now c.loop-d.d-index (record { 0 = 0 }) c.loop-d.table.offsets.items _ most_offsets c.loop-d-test.true less (c.as_slice-in-loop-d.ensures ∙ c.in_ok-more-2.ensures) inv fit.others_fit in
    search rules

pub loop-d-preserved : goal.loop-d-preserved
loop-d-preserved g t c =
    let less = chosen_before c.args.h.now c.keeps.ensures c.args.c c.layout-row.result.now.primary false c.as_slice-d-items.result.now c.as_slice-bases.result.now c.loop-d.d-index _ (c.as_slice-bases.ensures ∙ sym (ap bases_in c.class.ensures)) (c.as_slice-d-items.ensures.value ∙ c.in_ok-others.ensures) c.loop-d-test.true in
    record {
      pushed = below_step c.args.h.now (places_of c.args.h.now (g.L.SoundLayout.rows c.args.layout.now)) c.keeps.ensures c.args.c c.args.path.now c.as_slice-in-loop-d.result.now c.as_slice-d-items.result.now c.loop-d.d-index _ c.loop-d.table.offsets.items c.push_calls-in-loop-d.new.table.offsets.items _ c.loop-d-test.true less (c.as_slice-in-loop-d.ensures ∙ c.in_ok-more-2.ensures) c.in_ok-push_calls-2.ensures.offsets c.loop-d.invariant.pushed;
      size = c.in_ok-push_calls-2.ensures.size;
      words_are = c.in_ok-push_calls-2.ensures.words;
    }

pub returns-clause-offsets : goal.returns-clause-offsets
returns-clause-offsets g t c =
    let h = c.args.h.now in
    let l = places_of h (g.L.SoundLayout.rows c.args.layout.now) in
    let f = below (calls_in h l c.args.c.0) c.args.path.now in
    let size = c.requires.own.size in
    let k = c.requires.known in
    let there = slice_get_read c.args.own.now (length c.args.own.now) c.args.c.0 c.index-own-c.result refl (omega arith) c.index-own-c.is in
    calls_are h l c.args.c c.args.path.now c.layout-row.result.now.primary c.as_slice-bases.result.now c.as_slice-2.result.now c.as_slice-b-items.result.now c.as_slice-d-items.result.now c.args.table.now.offsets.items c.loop-b.table.offsets.items c.push_own.new.table.offsets.items c.loop-d.table.offsets.items
    (c.as_slice-bases.ensures ∙ sym (ap bases_in c.class.ensures))
    (sym (ap primary_in c.layout-row.ensures))
    (c.as_slice-2.ensures ∙ c.requires.own.each c.args.c c.index-own-c.result there)
    (c.as_slice-b-items.ensures.value ∙ c.in_ok-firsts.ensures)
    (c.as_slice-d-items.ensures.value ∙ c.in_ok-others.ensures)
    (below_end h f c.as_slice-b-items.result.now c.loop-b.b-index c.loop-b.table.offsets.items _ c.loop-b-test.false c.loop-b.invariant.pushed)
    c.in_ok-push_own.ensures.offsets
    (below_end h f c.as_slice-d-items.result.now c.loop-d.d-index c.loop-d.table.offsets.items _ c.loop-d-test.false c.loop-d.invariant.pushed)
