use Rattle.std.proofs.Common.{◌≡◌, Some, get_or, subst, sym}
use Rattle.std.specs.List.{slice_get}
use Rattle.std.proofs.lemmas.Option.{slice_get-get_or}
use Rattle.foundation.proofs.Places.{get_read}
use Rattle.abi_image.proofs.VttWords.{found_points}
use Rattle.abi_image.proofs.vtts.point_of.Goals as goal

pub returns : goal.returns
returns c =
    let found = found_points c.args.groups.now c.args.places.now.at.items c.args.places.now.points.items c.args.word.now.group c.args.word.now.table c.find_group-number.result c.requires.places c.requires.names c.requires.table c.find_group-number.ensures in
    let there = subst (λ l. slice_get c.args.places.now.points.items c.find_group-number.result ≡ Some l) (sym c.as_slice-points.ensures) (get_read c.args.places.now.points.items c.find_group-number.result c.index.result.now found.known c.index.ensures) in
    found.point c.as_slice-points.result.now (get_or c.as_slice-points.result.now c.args.word.now.table 0) there (slice_get-get_or c.as_slice-points.result.now c.args.word.now.table 0 (found.inside c.as_slice-points.result.now there))
