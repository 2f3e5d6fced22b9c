use Rattle.byte_code.specs.Images.{word_at}
use Rattle.abi_dyncast.proofs.Directly.{known_found}
use Rattle.abi_dyncast.proofs.known.is_there.Goals as goal

pub returns : goal.returns
returns g c found =
    let asked = c.args.asked in
    known_found (word_at c.args.image.now) c.args.image.now.base c.args.view_at c.args.at asked.view_class asked.class asked.distance c.word-point.result c.saturating_sub.result c.word.result c.word-point.ensures c.if-point-eq0.false c.saturating_sub.ensures c.word.ensures c.ranges.view_at.fits c.requires.place (c.leads_directly.ensures found)
