use Rattle.std.proofs.Common.{◌∙◌, sym}
use Rattle.path_numbers.specs.Sizes.{sizes_of}
use Rattle.path_numbers.proofs.Intervals.{base_size_is}
use Rattle.path_numbers.proofs.numbers.base_width.Goals as goal

pub returns-else-base : goal.returns-else-base
returns-else-base c = (c.row_at.ensures c.args.h.now c.requires.rows).as_base ∙ sym (base_size_is (sizes_of c.args.h.now) c.args.base.now c.if-base.false)
