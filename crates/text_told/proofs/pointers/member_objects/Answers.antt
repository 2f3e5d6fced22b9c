use Rattle.std.proofs.Common.{◌≡◌, ◌∙◌, ℕ, ◌+◌, ◌<◌, ◌^◌, sym, subst, arith}
use Rattle.abi_sound.specs.Places.{places_of}
use Rattle.text_told.proofs.Objects.{listed_known, listed_below}
use Rattle.text_told.proofs.pointers.member_objects.Goals as goal

pub push_objects-requires-clause-known : goal.push_objects-requires-clause-known
push_objects-requires-clause-known g c =
    listed_known c.args.h.now c.keeps.ensures c.args.c c.in-Some.b c.s-item.result c.as_slice-s-items.result.now c.in_ok-parts.parts c.requires.known c.as_slice-s-items.ensures c.in_ok-parts.ensures.lists.valid
    (c.loop-s.s-index, c.loop-s-test.true, sym c.s-item.is) (sym c.class_of.ensures ∙ c.in-Some.is)

pub push_objects-requires-clause-small : goal.push_objects-requires-clause-small
push_objects-requires-clause-small g c =
    let h = c.args.h.now in
    let rows = g.L.SoundLayout.rows c.args.layout.now in
    let sound = g.met.L.SoundLayout.sound c.args.layout.now h c.requires.layout in
    λ m.
    let small = listed_below h rows c.keeps.ensures sound c.args.c c.in-Some.b c.s-item.result c.as_slice-s-items.result.now c.in_ok-parts.parts c.requires.known c.as_slice-s-items.ensures c.in_ok-parts.ensures.lists.valid
    (c.loop-s.s-index, c.loop-s-test.true, sym c.s-item.is) (sym c.class_of.ensures ∙ c.in-Some.is) m in
    subst (λ (k : ℕ). k + (places_of h rows).member c.in-Some.b m < 2 ^ 31) (sym c.place.ensures) (omega arith)
