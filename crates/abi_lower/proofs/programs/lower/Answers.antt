use Rattle.cxx_overrider.proofs.MeaningDecisions.{limits_hold}
use Rattle.code_ops.specs.Setups.{setup}
use Rattle.abi_lower.proofs.FewBlocks.{few_blocks}
use Rattle.abi_lower.proofs.programs.lower.Goals as goal

pub new-requires-2 : goal.new-requires-2
new-requires-2 g c = record { limits = λ d known. limits_hold c.args.h.now c.requires.overriders.fine d known }

pub lowered-requires-clause-lowering : goal.lowered-requires-clause-lowering
lowered-requires-clause-lowering g c = record {
  keeps = c.keeps.ensures;
  are_overriders = c.requires.overriders;
  are_slots = c.requires.slots;
  few_words = c.requires.words;
  typed = c.requires.typed;
  small = c.requires.small;
  few_blocks = few_blocks (setup c.args.h.now (g.L.SoundLayout.rows c.args.layout.now) c.args.program.now) c.keeps.ensures c.requires.typed c.requires.small.statements;
  is_index = c.in_ok-index.ensures;
  are_orders = c.in_ok-orders.ensures;
}
