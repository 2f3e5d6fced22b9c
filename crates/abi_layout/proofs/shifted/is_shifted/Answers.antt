use Rattle.abi_layout.proofs.algorithm.NextShifted.{shifted_listed}
use Rattle.abi_layout.proofs.rules.OneLayoutLists.{bool_same}
use Rattle.abi_layout.proofs.shifted.is_shifted.Goals as goal

pub returns : goal.returns
returns c = bool_same _ _ c.has_shifted.ensures (shifted_listed c.args.h.now c.args.rows.now c.args.known.now c.args.c c.keeps.ensures)
