use Rattle.std.proofs.Common.{arith}
use Rattle.code_ops.specs.Setups.{setup}
use Rattle.abi_lower.specs.invariants.Numbers.{code_rows}
use Rattle.std.proofs.Common.{refl}
use Rattle.abi_lower.proofs.FrameRegisters.{each_low, has_registers}
use Rattle.abi_lower.proofs.RunSteps.{body_site}
use Rattle.abi_lower.proofs.lowering.Lowering.registers.Goals as goal

pub returns : goal.returns
returns g c =
    let x = setup c.args.self.now.h.now (g.L.SoundLayout.rows c.args.self.now.layout.now) c.args.self.now.program.now in
    has_registers x c.args.self.now.slots.now c.args.self.now.overriders.now c.loop-r.most
    (body_site x c.args.self.now.overriders.now c.args.self.now.slots.now c.args.self.now.index.now c.args.self.now.orders.now c.requires.lowering (code_rows x) refl)
    (each_low x c.args.list.now c.loop-r.most c.requires.lowering.typed c.requires.routines (λ k low. c.loop-r.invariant.each k (let past = c.loop-r-test.false in omega arith)))
