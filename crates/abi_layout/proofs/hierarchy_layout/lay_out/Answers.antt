use Rattle.std.proofs.Common.{subst}
use Rattle.abi_layout.specs.Refusals.{IsWellLaid}
use Rattle.abi_layout.proofs.sound.AbiLaws.{is_abi_layout}
use Rattle.abi_layout.proofs.hierarchy_layout.lay_out.Goals as goal

pub returns-clause-layout : goal.returns-clause-layout
returns-clause-layout c = is_abi_layout c.args.h.now c.in_ok-layout.layout c.keeps.ensures (subst (λ n. IsWellLaid c.args.h.now n c.in_ok-layout.layout) c.len.ensures c.in_ok-layout.ensures.laid)
