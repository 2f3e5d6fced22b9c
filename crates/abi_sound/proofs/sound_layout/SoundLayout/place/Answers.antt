use Rattle.std.proofs.Common.{◌≡◌, ◌<◌, Option, List, length, ap, sym, ◌∙◌, arith}
use Rattle.std.specs.List.{slice_get}
use Rattle.cxx_hierarchy.specs.declared.records.ClassId.{ClassId}
use Rattle.cxx_hierarchy.specs.Classes.{Classes}
use Rattle.cxx_subobject.specs.declared.Subobject.{Subobject}
use Rattle.cxx_subobject.specs.Subobjects.{IsSubobject}
use Rattle.abi_sound.specs.declared.class_layout.ClassLayout.{ClassLayout}
use Rattle.abi_sound.specs.Places.{root_place_in, place_from, place_in_class}
use Rattle.abi_sound.specs.Sound.{IsSoundLayout}
use Rattle.abi_sound.proofs.Depth.{below}
use Rattle.abi_sound.proofs.sound_layout.SoundLayout.place.Goals as goal

-- a place is below 1,048,576
small : (h : Classes) (rows : List ClassLayout) (c : ClassId) (s : Subobject) → IsSoundLayout h rows → c.0 < length h → IsSubobject h c s → place_in_class h rows c s < 1048576
small h rows c s sound lt is = let b = below h rows sound c s lt is in let m = (sound.each c lt).bounded in omega (arith, b, m)

pub sum_of_path-requires-clause-small : goal.sum_of_path-requires-clause-small
sum_of_path-requires-clause-small g c =
    let h = c.args.h.now in
    let rows = g.Self.SoundLayout.rows c.args.self.now in
    let s = c.args.s.now in
    let b = small h rows c.args.c s (g.met.Self.SoundLayout.sound c.args.self.now h c.requires.layout) c.requires.known c.requires.subobject in
    let e : place_from h rows c.as_slice.result.now ≡ place_from h rows s.path = ap (place_from h rows) c.as_slice.ensures in
    omega (arith, b, e)

pub overflow_add-result : goal.overflow_add-result
overflow_add-result g c =
    let h = c.args.h.now in
    let rows = g.Self.SoundLayout.rows c.args.self.now in
    let s = c.args.s.now in
    let b = small h rows c.args.c s (g.met.Self.SoundLayout.sound c.args.self.now h c.requires.layout) c.requires.known c.requires.subobject in
    let e : c.sum_of_path.result ≡ place_from h rows s.path = c.sum_of_path.ensures ∙ ap (place_from h rows) c.as_slice.ensures in
    let f : c.root_place.result ≡ root_place_in (slice_get rows c.args.c.0) s.root = c.root_place.ensures ∙ ap (λ (o : Option ClassLayout). root_place_in o s.root) (sym c.layout.ensures) in
    omega (arith, b, e, f)
