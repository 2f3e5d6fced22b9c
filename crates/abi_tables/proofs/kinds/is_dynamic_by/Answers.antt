use Rattle.std.proofs.Common.{subst, sym}
use Rattle.std.specs.Prelude.{IsTrue, ◌↔◌}
use Rattle.abi_primary.specs.Kinds.{IsDynamic}
use Rattle.abi_tables.proofs.ViewLemmas.{dynamic_is}
use Rattle.abi_tables.proofs.kinds.is_dynamic_by.Goals as goal

pub returns : goal.returns
returns c = dynamic_is c.args.h.now c.keeps.ensures c.args.c c.flag_of.result (subst (λ b. IsTrue b ↔ IsDynamic c.args.h.now c.args.c) (sym c.flag_of.ensures) (c.requires.flags.each c.args.c c.requires.known))
