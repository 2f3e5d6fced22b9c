use Rattle.std.proofs.Common.{◌∙◌, sym, ap}
use Rattle.path_numbers.specs.Sizes.{sizes_of, unit_size}
use Rattle.path_numbers.proofs.numbers.unit_width.Goals as goal

pub returns-in-Object : goal.returns-in-Object
returns-in-Object c = (c.row_at.ensures c.args.h.now c.requires.rows).in_full ∙ sym (ap (unit_size (sizes_of c.args.h.now)) c.in-Object.is)
