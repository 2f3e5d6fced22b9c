use Rattle.std.proofs.Common.{◌<◌, ◌^◌, List, subst, arith}
use Rattle.cxx_hierarchy.specs.declared.records.ClassId.{ClassId}
use Rattle.cxx_subobject.specs.Subobjects.{Leads}
use Rattle.abi_sound.specs.Places.{place_along}
use Rattle.abi_layout.proofs.algorithm.SettledLemmas.{base_below}
use Rattle.abi_layout.proofs.virtual_places.+path_place.Goals as goal

pub path_place-requires : goal.path_place-requires
path_place-requires t c =
    let h = c.args.h.now in
    let rows = c.args.rows.now in
    let cases = c.in-Some.ensures.cases in
    let shorter = cases.1 in
    let leads = subst (λ (p : List ClassId). Leads h c.args.d p) cases.0 c.requires.leads in
    let below = base_below h c.args.d c.in-Some.b.now c.keeps.ensures leads.0 in
    let row = c.requires.row in
    let bounded = subst (λ (p : List ClassId). place_along h rows c.args.d p < 2 ^ 32) cases.0 c.requires.bounded in
    (omega arith, (c.requires.rows, (omega arith, (leads.1, omega arith))))
