use Rattle.std.proofs.Common.{◌≡◌, ◌∙◌, ℕ, ◌+◌, ◌*◌, ◌<◌, ◌^◌, List, length, get_or, refl, ap, sym, subst, arith}
use Rattle.foundation.proofs.Members.{Has, has_from_contains}
use Rattle.abi_sound.specs.Places.{places_of, size_in_row}
use Rattle.text_told.specs.declared.pointers.MemberObjects.{MemberObjects}
use Rattle.text_told.specs.declared.pointers.TablePointer.{TablePointer}
use Rattle.text_told.specs.Pointers.{member_objects, pointers_within}
use Rattle.text_told.proofs.Objects.{element_below, objects_lower, pointer_below}
use Rattle.text_told.proofs.Steps.{all_pointers, item_has, pointers_more}
use Rattle.text_told.proofs.pointers.+put_pointers.Goals as goal

abbrev no_objects : MemberObjects
no_objects = record { class = record { 0 = 0 }; place = 0; count = 0 }

pub put_pointers-requires : goal.put_pointers-requires
put_pointers-requires g t c κs within =
    let h = c.args.h.now in
    let l = places_of h (g.L.SoundLayout.rows c.args.layout.now) in
    let x = get_or c.as_slice-x-items.result.now c.loop-x.x-index no_objects in
    let has = item_has c.as_slice-x-items.result.now (member_objects h l c.args.c) c.loop-x.x-index no_objects (c.as_slice-x-items.ensures.value ∙ c.in_ok-put_member_objects.ensures) c.loop-x-test.true in
    let lower : x.class.0 < c.args.c.0 = objects_lower h c.keeps.ensures l c.args.c x has in
    let known : c.args.c.0 < length h = c.requires.known in
    let falls : x.class.0 < t = subst (λ (k : ℕ). x.class.0 < k) c.decreases lower in
    (falls, (within, (c.requires.layout, omega arith)))

pub layout-requires : goal.layout-requires
layout-requires g t c =
    let h = c.args.h.now in
    let rows = g.L.SoundLayout.rows c.args.layout.now in
    let l = places_of h rows in
    let sound = g.met.L.SoundLayout.sound c.args.layout.now h c.requires.layout in
    let x = get_or c.as_slice-x-items.result.now c.loop-x.x-index no_objects in
    let has = item_has c.as_slice-x-items.result.now (member_objects h l c.args.c) c.loop-x.x-index no_objects (c.as_slice-x-items.ensures.value ∙ c.in_ok-put_member_objects.ensures) c.loop-x-test.true in
    let lower : x.class.0 < c.args.c.0 = objects_lower h c.keeps.ensures l c.args.c x has in
    let known : c.args.c.0 < length h = c.requires.known in
    let all : length rows ≡ length h = sound.full.one_each in omega arith

pub push_elements-requires : goal.push_elements-requires
push_elements-requires g t c =
    let h = c.args.h.now in
    let rows = g.L.SoundLayout.rows c.args.layout.now in
    let l = places_of h rows in
    let sound = g.met.L.SoundLayout.sound c.args.layout.now h c.requires.layout in
    let x = get_or c.as_slice-x-items.result.now c.loop-x.x-index no_objects in
    let has = item_has c.as_slice-x-items.result.now (member_objects h l c.args.c) c.loop-x.x-index no_objects (c.as_slice-x-items.ensures.value ∙ c.in_ok-put_member_objects.ensures) c.loop-x-test.true in
    let size : l.size x.class ≡ c.layout.result.now.size = ap size_in_row c.layout.ensures in
    let lower : x.class.0 < c.args.c.0 = objects_lower h c.keeps.ensures l c.args.c x has in
    let known : c.args.c.0 < length h = c.requires.known in
    let inside : c.deref.result.now ≡ pointers_within h l (x.class.0 + 1) x.class = c.deref.ensures.value ∙ c.in_ok-put_pointers.ensures (x.class.0 + 1) (omega arith) in
    record {
      elements = λ i lt.
          let below = element_below h rows sound c.args.c x known has i lt in
          subst (λ (s : ℕ). x.place + i * s < 2 ^ 31) size (omega arith);
      inside = λ p at.
          let below = pointer_below h rows sound (x.class.0 + 1) x.class p (omega arith) (subst (λ (ps : List TablePointer). Has ps p) inside (has_from_contains c.deref.result.now p at)) in
          omega arith;
    }

pub loop-x-preserved : goal.loop-x-preserved
loop-x-preserved g t c =
    let h = c.args.h.now in
    let rows = g.L.SoundLayout.rows c.args.layout.now in
    let l = places_of h rows in
    let items = c.as_slice-x-items.result.now in
    let i = c.loop-x.x-index in
    let x = get_or items i no_objects in
    let has = item_has items (member_objects h l c.args.c) i no_objects (c.as_slice-x-items.ensures.value ∙ c.in_ok-put_member_objects.ensures) c.loop-x-test.true in
    let lower : x.class.0 < c.args.c.0 = objects_lower h c.keeps.ensures l c.args.c x has in
    let size : c.layout.result.now.size ≡ l.size x.class = sym (ap size_in_row c.layout.ensures) in
    λ n le.
    pointers_more h l c.args.c n c.loop-x.list.items c.push_elements.new.list.items c.deref.result.now c.layout.result.now.size items i no_objects x c.loop-x-test.true refl (c.loop-x.invariant n le) size
    (c.deref.ensures.value ∙ c.in_ok-put_pointers.ensures n (omega arith)) c.in_ok-push_elements.ensures

pub returns : goal.returns
returns g t c = λ n lt.
    all_pointers c.args.h.now (places_of c.args.h.now (g.L.SoundLayout.rows c.args.layout.now)) c.args.c n c.loop-x.list.items c.as_slice-x-items.result.now c.loop-x.x-index c.loop-x-test.false
    (c.as_slice-x-items.ensures.value ∙ c.in_ok-put_member_objects.ensures) c.loop-x.invariant lt
