use Rattle.std.proofs.Common.{◌≡◌, ◌<◌, ap, arith}
use Rattle.std.proofs.lemmas.Bool.Decides.{nat_tests}
use Rattle.byte_code.specs.Images.{word_at}
use Rattle.byte_code.specs.Readers.{image_of}
use Rattle.byte_code.specs.declared.image.InfoRecord.{InfoRecord}
use Rattle.abi_dyncast.specs.Graph.{info_at}
use Rattle.abi_dyncast.proofs.walk.is_told.Goals as goal

pub returns-then-found-2 : goal.returns-then-found-2
returns-then-found-2 c = λ t.
    let there = info_at (word_at (image_of c.args.reader.now)) c.args.base.info in
    let class : c.info-info.result.class ≡ there.class = ap (λ (i : InfoRecord). i.class) (c.info-info.ensures there c.requires) in
    let below : c.info-info.result.class < c.args.goal.target = grind (arith, nat_tests) in
    record { source = c.if-found.true; public_source = c.if-found-2.true; lower = omega arith }
