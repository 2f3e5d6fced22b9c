use Rattle.std.proofs.Common.{◌<◌, ◌^◌, List, length, refl, ap, subst, sym, ◌∙◌}
use Rattle.byte_code.specs.declared.code.Block.{Block}
use Rattle.code_ops.specs.Setups.{setup}
use Rattle.abi_lower.specs.invariants.Lowerings.{lowering_setup}
use Rattle.abi_lower.proofs.Blocks.{all_long}
use Rattle.abi_lower.proofs.Placing.{code_lowered}
use Rattle.abi_lower.proofs.lowering.Lowering.code.Goals as goal

pub returns-clause-lowered : goal.returns-clause-lowered
returns-clause-lowered g c =
    let x = setup c.args.self.now.h.now (g.L.SoundLayout.rows c.args.self.now.layout.now) c.args.self.now.program.now in
    code_lowered x (record { blocks = c.in_ok-blocks.blocks; start = 0; globals = c.len.result; registers = c.registers.result }) c.args.numbers.now c.requires.lowering.typed c.in_ok-blocks.ensures refl c.len.ensures c.registers.ensures c.requires.rows

pub returns-clause-few : goal.returns-clause-few
returns-clause-few g c =
    let count = ap (λ (blocks : List Block). length blocks) c.in_ok-blocks.ensures ∙ all_long (lowering_setup g.L.SoundLayout.rows c.args.self.now) in
    subst (λ n. n < 2 ^ 32) (sym count) c.requires.lowering.few_blocks
