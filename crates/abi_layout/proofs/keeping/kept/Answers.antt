use Rattle.std.proofs.Common.{refl}
use Rattle.abi_layout.proofs.lists.Each.{not_both}
use Rattle.abi_layout.proofs.algorithm.KeepingLemmas.{parts_dropped}
use Rattle.abi_layout.proofs.keeping.kept.Goals as goal

pub returns : goal.returns
returns c = parts_dropped c.args.h.now c.args.c c.args.known _ refl refl c.new.ensures (λ is. not_both (c.is_member_type.ensures is) c.if-is_member_type.false)
