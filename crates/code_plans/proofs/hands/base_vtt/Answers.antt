use Rattle.code_plans.proofs.Known.{base_known}
use Rattle.code_plans.proofs.hands.base_vtt.Goals as goal

pub has_virtual-requires-clause-known : goal.has_virtual-requires-clause-known
has_virtual-requires-clause-known g c = base_known c.args.site.now.h.now c.keeps.ensures c.args.c c.args.b c.requires.known c.requires.base
