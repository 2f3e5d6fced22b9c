use Rattle.std.proofs.Common.{List, Some, ◌<◌, ◌^◌, subst, sym, arith}
use Rattle.cxx_subobject.specs.declared.locations.Hop.{Hop}
use Rattle.abi_sound.specs.Places.{places_of}
use Rattle.abi_sound.specs.Locations.{place_along_hops}
use Rattle.text_told.specs.invariants.Leading.{AreKnownHops}
use Rattle.text_told.proofs.Leading.{go_along, ends_below}
use Rattle.text_told.proofs.locations.place_in.Goals as goal

pub place_behind-requires-clause-leads : goal.place_behind-requires-clause-leads
place_behind-requires-clause-leads g c =
    let at = c.args.at.now in
    let names = c.requires.names.1 in
    subst (λ (hops : List Hop). AreKnownHops c.args.h.now (Some at.class) hops) (sym c.as_slice.ensures) (go_along c.args.h.now c.keeps.ensures at.class at.hops c.requires.names.0 names.known names.leads)

pub place_behind-requires-clause-small : goal.place_behind-requires-clause-small
place_behind-requires-clause-small g c =
    let h = c.args.h.now in
    let at = c.args.at.now in
    let rows = g.L.SoundLayout.rows c.args.layout.now in
    let names = c.requires.names.1 in
    let sound = g.met.L.SoundLayout.sound c.args.layout.now h c.requires.layout in
    let below = ends_below h rows c.keeps.ensures sound at.class at.hops c.requires.names.0 names.known names.leads in
    subst (λ (hops : List Hop). place_along_hops h (places_of h rows) at.class hops < 2 ^ 32) (sym c.as_slice.ensures) (omega arith)
