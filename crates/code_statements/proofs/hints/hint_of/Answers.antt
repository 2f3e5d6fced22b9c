use Rattle.std.proofs.Common.{rules, ◌≡◌, ◌∙◌, to_z, of_z, w64}
use Rattle.abi_sound.specs.Places.{places_of}
use Rattle.code_statements.proofs.Sources.{source_valid, hint_made}
use Rattle.code_statements.proofs.hints.hint_of.Goals as goal

pub count_public-public-requires-clause-bases : goal.count_public-public-requires-clause-bases
count_public-public-requires-clause-bases g c = source_valid c.args.h.now c.args.from c.args.to c.as_slice-bases.result.now (c.as_slice-bases.ensures ∙ c.in_ok-list.ensures)

pub only_place-place-requires-clause-bases : goal.only_place-place-requires-clause-bases
only_place-place-requires-clause-bases g c = source_valid c.args.h.now c.args.from c.args.to c.as_slice-bases.result.now (c.as_slice-bases.ensures ∙ c.in_ok-list.ensures)

pub returns : goal.returns
returns g c =
    let l = places_of c.args.h.now (g.L.SoundLayout.rows c.args.layout.now) in
    let back : to_z w64 (of_z w64 c.hint_by.result) ≡ c.hint_by.result = search rules in
    back ∙ hint_made c.args.h.now l c.args.from c.args.to c.as_slice-bases.result.now c.count_public-public.result c.only_place-place.result c.has_shared.result c.hint_by.result (c.as_slice-bases.ensures ∙ c.in_ok-list.ensures) c.count_public-public.ensures c.only_place-place.ensures c.has_shared.ensures c.hint_by.ensures
