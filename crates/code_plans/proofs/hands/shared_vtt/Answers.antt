use Rattle.code_plans.proofs.Known.{virtual_known}
use Rattle.code_plans.proofs.hands.shared_vtt.Goals as goal

pub has_virtual-requires-clause-known : goal.has_virtual-requires-clause-known
has_virtual-requires-clause-known g c = virtual_known c.args.site.now.h.now c.keeps.ensures c.args.c c.args.v c.requires.known c.requires.base
