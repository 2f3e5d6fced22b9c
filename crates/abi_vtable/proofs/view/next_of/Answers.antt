use Rattle.std.proofs.Common.{◌≡◌, ◌+◌, ◌∷◌, [], ◌++◌, Some, refl, ap, sym, subst, ◌∙◌, arith}
use Rattle.std.specs.Prelude.{slice_get}
use Rattle.cxx_hierarchy.specs.Classes.{bases_in}
use Rattle.cxx_subobject.specs.Subobjects.{subobject}
use Rattle.abi_sound.specs.Places.{places_of, primary_in}
use Rattle.abi_slots.specs.Views.{next}
use Rattle.abi_vtable.specs.invariants.Parts.{NumbersSubobject, number, view_of_parts}
use Rattle.abi_vtable.proofs.NearBases.{first_next}
use Rattle.cxx_subobject.proofs.PathLemmas.{class_there}
use Rattle.abi_vtable.proofs.Parts.{class_known, no_next, direct_next, held_next, elsewhere_next, no_number, next_number}
use Rattle.abi_vtable.proofs.view.next_of.Goals as goal

pub returns-then-not-is_holder : goal.returns-then-not-is_holder
returns-then-not-is_holder g c =
    let l = places_of c.args.h.now (g.L.SoundLayout.rows c.args.layout.now) in
    no_number c.args.list.now _ (elsewhere_next l (view_of_parts c.args.x.now) c.args.s.now c.in_ok-seen-in-Virtual.seen c.class_at-class.result c.in-Virtual.v c.class_at-class.ensures (ap primary_in c.layout.ensures ∙ c.in-Virtual.is) c.in_ok-seen-in-Virtual.ensures.joined (sym c.is_holder.ensures ∙ c.if-not-is_holder.true))

pub returns-in-None : goal.returns-in-None
returns-in-None g c =
    let l = places_of c.args.h.now (g.L.SoundLayout.rows c.args.layout.now) in
    no_number c.args.list.now _ (no_next l (view_of_parts c.args.x.now) c.args.s.now c.class_at-class.result c.class_at-class.ensures (ap primary_in c.layout.ensures ∙ c.in-None.is))

pub returns-else-begins_with_base : goal.returns-else-begins_with_base
returns-else-begins_with_base g c =
    let h = c.args.h.now in
    let rows = g.L.SoundLayout.rows c.args.layout.now in
    let x = view_of_parts c.args.x.now in
    let s = c.args.s.now in
    next_number h rows c.keeps.ensures (g.met.L.SoundLayout.sound c.args.layout.now h c.requires.layout) x c.requires.view c.args.list.now s (subobject s.root (s.path ++ c.in-Direct.b ∷ [])) _ c.number_below.result c.requires.list c.requires.valid
    (direct_next (places_of h rows) x s c.class_at-class.result c.in-Direct.b c.class_at-class.ensures (ap primary_in c.layout.ensures ∙ c.in-Direct.is)) refl c.number_below.ensures

pub returns-then-begins_with_base : goal.returns-then-begins_with_base
returns-then-begins_with_base g c =
    let h = c.args.h.now in
    let rows = g.L.SoundLayout.rows c.args.layout.now in
    let x = view_of_parts c.args.x.now in
    let s = c.args.s.now in
    let below = subobject s.root (s.path ++ c.in-Direct.b ∷ []) in
    let is : next (places_of h rows) x s ≡ Some below = direct_next (places_of h rows) x s c.class_at-class.result c.in-Direct.b c.class_at-class.ensures (ap primary_in c.layout.ensures ∙ c.in-Direct.is) in
    let there : slice_get c.args.list.now (c.args.number + 1) ≡ Some below = first_next h c.keeps.ensures x.class c.args.list.now c.args.number s c.class_at-class.result c.in-Direct.b c.as_slice.result.now c.requires.list c.requires.there c.class_at-class.ensures (c.as_slice.ensures ∙ sym (ap bases_in c.class.ensures)) (sym c.begins_with_base.ensures ∙ c.if-begins_with_base.true) in
    subst (λ o. NumbersSubobject c.args.list.now (Some (c.args.number + 1)) o) (sym is) (number (c.args.number + 1) below there)

pub returns-in_ok-base-in-Virtual : goal.returns-in_ok-base-in-Virtual
returns-in_ok-base-in-Virtual g c =
    let h = c.args.h.now in
    let rows = g.L.SoundLayout.rows c.args.layout.now in
    let x = view_of_parts c.args.x.now in
    next_number h rows c.keeps.ensures (g.met.L.SoundLayout.sound c.args.layout.now h c.requires.layout) x c.requires.view c.args.list.now c.args.s.now c.in_ok-base-in-Virtual.base _ c.number_of.result c.requires.list c.requires.valid
    (held_next (places_of h rows) x c.args.s.now c.in_ok-seen-in-Virtual.seen c.class_at-class.result c.in-Virtual.v c.class_at-class.ensures (ap primary_in c.layout.ensures ∙ c.in-Virtual.is) c.in_ok-seen-in-Virtual.ensures.joined (sym c.is_holder.ensures ∙ c.if-not-is_holder.false)) c.in_ok-base-in-Virtual.ensures c.number_of.ensures

pub class_at-class-requires : goal.class_at-class-requires
class_at-class-requires g c = class_there c.args.h.now c.args.x.now.class c.args.s.now c.requires.valid

pub layout-requires : goal.layout-requires
layout-requires g c =
    let sound = g.met.L.SoundLayout.sound c.args.layout.now c.args.h.now c.requires.layout in
    let known = class_known c.args.h.now c.keeps.ensures (view_of_parts c.args.x.now) c.requires.view c.args.s.now c.class_at-class.result c.requires.valid c.class_at-class.ensures in
    let size = sound.full.one_each in
    omega arith
