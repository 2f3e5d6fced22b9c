use Rattle.std.proofs.Common.{◌≡◌, ◌∙◌, ℕ, ◌+◌, ◌*◌, ◌<◌, ◌^◌, List, Vec, Global, ◌++◌, map, length, ap, sym, subst, arith}
use Rattle.std.specs.List.{flat_map, range_with_len}
use Rattle.foundation.proofs.Members.{Has, has_from_contains}
use Rattle.cxx_hierarchy.specs.declared.records.FieldType.TheVariants.{Value, Object}
use Rattle.cxx_hierarchy.specs.Declarations.{elements_of}
use Rattle.abi_sound.specs.Places.{places_of, size_in_row, size_of_value}
use Rattle.text_bytes.specs.declared.rows.LeafRow.{LeafRow}
use Rattle.text_bytes.specs.LeafRows.{element_rows, rows_within, value_row}
use Rattle.text_bytes.proofs.Placed.{object_below, placed_at, placed_known, placed_lower, value_below}
use Rattle.text_bytes.proofs.RowPlaces.{row_below}
use Rattle.text_bytes.proofs.RowSteps.{all_rows, rows_more}
use Rattle.text_bytes.proofs.rows.+put_rows.Goals as goal
use Rattle.text_bytes.proofs.rows.+put_rows.Goals.{in-Value+in_ok-push_values-in-Value, in-Object+in_ok-put_rows-in-Object+in_ok-push_elements-in-Object}

pub member_of-member-requires-clause-known : goal.member_of-member-requires-clause-known
member_of-member-requires-clause-known g t c =
    let h = c.args.h.now in
    let l = places_of h (g.L.SoundLayout.rows c.args.layout.now) in
    let x = c.x-item.result in
    let of = placed_at h l c.args.c c.as_slice-x-items.result.now c.put_members.new.list.items c.loop-x.x-index x c.as_slice-x-items.ensures.value c.in_ok-put_members.ensures c.loop-x-test.true c.x-item.is in
    placed_known h c.keeps.ensures l c.args.c x c.requires.known of

pub member_of-member-requires-clause-there : goal.member_of-member-requires-clause-there
member_of-member-requires-clause-there g t c =
    let h = c.args.h.now in
    let l = places_of h (g.L.SoundLayout.rows c.args.layout.now) in
    (placed_at h l c.args.c c.as_slice-x-items.result.now c.put_members.new.list.items c.loop-x.x-index c.x-item.result c.as_slice-x-items.ensures.value c.in_ok-put_members.ensures c.loop-x-test.true c.x-item.is).there

pub push_values-requires : goal.push_values-requires
push_values-requires g t c =
    let h = c.args.h.now in
    let rows = g.L.SoundLayout.rows c.args.layout.now in
    let l = places_of h rows in
    let sound = g.met.L.SoundLayout.sound c.args.layout.now h c.requires.layout in
    let x = c.x-item.result in
    let member = c.member_of-member.result.now in
    let of = placed_at h l c.args.c c.as_slice-x-items.result.now c.put_members.new.list.items c.loop-x.x-index x c.as_slice-x-items.ensures.value c.in_ok-put_members.ensures c.loop-x-test.true c.x-item.is in
    λ i lt.
    let below = value_below h rows c.keeps.ensures sound c.args.c x member c.in-Value.ty c.requires.known of c.member_of-member.ensures c.in-Value.is i lt in
    subst (λ (size : ℕ). x.place + i * size < 2 ^ 32) (sym c.size_of_value.ensures.is) (omega arith)

pub put_rows-requires : goal.put_rows-requires
put_rows-requires g t c κs within =
    let h = c.args.h.now in
    let l = places_of h (g.L.SoundLayout.rows c.args.layout.now) in
    let x = c.x-item.result in
    let d = c.in-Object.d in
    let of = placed_at h l c.args.c c.as_slice-x-items.result.now c.put_members.new.list.items c.loop-x.x-index x c.as_slice-x-items.ensures.value c.in_ok-put_members.ensures c.loop-x-test.true c.x-item.is in
    let lower : d.0 < c.args.c.0 = placed_lower h c.keeps.ensures l c.args.c x c.member_of-member.result.now d of c.member_of-member.ensures c.in-Object.is in
    let known : c.args.c.0 < length h = c.requires.known in
    let falls : d.0 < t = subst (λ (k : ℕ). d.0 < k) c.decreases lower in
    (falls, (within, (c.requires.layout, (omega arith, c.new-inside.ensures.items))))

pub layout-requires : goal.layout-requires
layout-requires g t c =
    let h = c.args.h.now in
    let rows = g.L.SoundLayout.rows c.args.layout.now in
    let l = places_of h rows in
    let sound = g.met.L.SoundLayout.sound c.args.layout.now h c.requires.layout in
    let x = c.x-item.result in
    let d = c.in-Object.d in
    let of = placed_at h l c.args.c c.as_slice-x-items.result.now c.put_members.new.list.items c.loop-x.x-index x c.as_slice-x-items.ensures.value c.in_ok-put_members.ensures c.loop-x-test.true c.x-item.is in
    let lower : d.0 < c.args.c.0 = placed_lower h c.keeps.ensures l c.args.c x c.member_of-member.result.now d of c.member_of-member.ensures c.in-Object.is in
    let known : c.args.c.0 < length h = c.requires.known in
    let all : length rows ≡ length h = sound.full.one_each in omega arith

pub push_elements-requires : goal.push_elements-requires
push_elements-requires g t c =
    let h = c.args.h.now in
    let rows = g.L.SoundLayout.rows c.args.layout.now in
    let l = places_of h rows in
    let sound = g.met.L.SoundLayout.sound c.args.layout.now h c.requires.layout in
    let x = c.x-item.result in
    let member = c.member_of-member.result.now in
    let d = c.in-Object.d in
    let of = placed_at h l c.args.c c.as_slice-x-items.result.now c.put_members.new.list.items c.loop-x.x-index x c.as_slice-x-items.ensures.value c.in_ok-put_members.ensures c.loop-x-test.true c.x-item.is in
    let size : l.size d ≡ c.layout.result.now.size = ap size_in_row c.layout.ensures in
    let lower : d.0 < c.args.c.0 = placed_lower h c.keeps.ensures l c.args.c x member d of c.member_of-member.ensures c.in-Object.is in
    let known : c.args.c.0 < length h = c.requires.known in
    let inside : c.deref.result.now ≡ rows_within h l (d.0 + 1) d = c.deref.ensures.value ∙ c.in_ok-put_rows-in-Object.ensures (d.0 + 1) (omega arith) in
    record {
      elements = λ i lt.
          let below = object_below h rows sound c.args.c x member d known of c.member_of-member.ensures c.in-Object.is i lt in
          subst (λ (s : ℕ). x.place + i * s < 2 ^ 31) size (omega arith);
      inside = λ row at.
          let below = row_below h rows c.keeps.ensures sound (d.0 + 1) d row (omega arith) (subst (λ (all : List LeafRow). Has all row) inside (has_from_contains c.deref.result.now row at)) in
          omega arith;
    }

pub loop-x-preserved : goal.loop-x-preserved
loop-x-preserved g t c = λ n le.
    let h = c.args.h.now in
    let l = places_of h (g.L.SoundLayout.rows c.args.layout.now) in
    let items = c.as_slice-x-items.result.now in
    let i = c.loop-x.x-index in
    let x = c.x-item.result in
    let member = c.member_of-member.result.now in
    let old = c.loop-x.rows.items in
    elim c.match-member.branch [
      | in-Value+in_ok-push_values-in-Value w ↦
          let ty = w.in-Value.ty in
          let added : c.match-member.rows.items ≡ old ++ map (value_row x member (size_of_value ty)) (range_with_len 0 (elements_of member.count)) =
          ap (λ (v : Vec LeafRow Global). v.items) w.rows-is
          ∙ (w.in_ok-push_values-in-Value.ensures ∙ ap (λ (size : ℕ). old ++ map (value_row x member size) (range_with_len 0 (elements_of member.count))) w.size_of_value.ensures.is) in
          rows_more h l n old c.match-member.rows.items items i x member (Value ty) c.loop-x-test.true c.x-item.is c.member_of-member.ensures w.in-Value.is (c.loop-x.invariant n le) added
      | in-Object+in_ok-put_rows-in-Object+in_ok-push_elements-in-Object w ↦
          let d = w.in-Object.d in
          let of = placed_at h l c.args.c items c.put_members.new.list.items i x c.as_slice-x-items.ensures.value c.in_ok-put_members.ensures c.loop-x-test.true c.x-item.is in
          let lower : d.0 < c.args.c.0 = placed_lower h c.keeps.ensures l c.args.c x member d of c.member_of-member.ensures w.in-Object.is in
          let inside : w.deref.result.now ≡ rows_within h l n d = w.deref.ensures.value ∙ w.in_ok-put_rows-in-Object.ensures n (omega arith) in
          let size : w.layout.result.now.size ≡ l.size d = sym (ap size_in_row w.layout.ensures) in
          let added : c.match-member.rows.items ≡ old ++ flat_map (element_rows x member (l.size d) (rows_within h l n d)) (range_with_len 0 (elements_of member.count)) =
          ap (λ (v : Vec LeafRow Global). v.items) w.rows-is
          ∙ (w.in_ok-push_elements-in-Object.ensures
          ∙ (ap (λ (s : ℕ). old ++ flat_map (element_rows x member s w.deref.result.now) (range_with_len 0 (elements_of member.count))) size
          ∙ ap (λ (rows : List LeafRow). old ++ flat_map (element_rows x member (l.size d) rows) (range_with_len 0 (elements_of member.count))) inside)) in
          rows_more h l n old c.match-member.rows.items items i x member (Object d) c.loop-x-test.true c.x-item.is c.member_of-member.ensures w.in-Object.is (c.loop-x.invariant n le) added
    ]

pub returns : goal.returns
returns g t c = λ n lt.
    all_rows c.args.h.now (places_of c.args.h.now (g.L.SoundLayout.rows c.args.layout.now)) c.args.c n c.loop-x.rows.items c.as_slice-x-items.result.now c.loop-x.x-index c.loop-x-test.false
    (c.as_slice-x-items.ensures.value ∙ c.in_ok-put_members.ensures) c.loop-x.invariant lt
