use Rattle.byte_code.specs.Images.{word_at}
use Rattle.byte_code.proofs.Reading.{read_entry}
use Rattle.byte_code.proofs.code.ImageBytes.entry.Goals as goal

pub returns : goal.returns
returns c = λ r there. read_entry (word_at c.args.self.now) c.args.at c.number_or_zero-address.result c.small_behind.result c.number_or_zero.result c.not_zero.result r c.number_or_zero-address.ensures c.if-address-eq0.false c.small_behind.ensures c.number_or_zero.ensures c.not_zero.ensures there
