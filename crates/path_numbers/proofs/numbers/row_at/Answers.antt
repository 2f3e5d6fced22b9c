use Rattle.path_numbers.proofs.Rows.{row_found}
use Rattle.path_numbers.proofs.numbers.row_at.Goals as goal

pub returns : goal.returns
returns c = λ h are. row_found h c.args.rows.now c.args.c c.index-rows-c.result c.requires c.index-rows-c.is are
