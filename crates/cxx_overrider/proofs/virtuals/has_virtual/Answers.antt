use Rattle.cxx_overrider.proofs.MarkLemmas.{virtual_inherited, virtual_otherwise}
use Rattle.cxx_overrider.proofs.virtuals.has_virtual.Goals as goal

pub returns-then-has_marked_base : goal.returns-then-has_marked_base
returns-then-has_marked_base c = λ s k. virtual_inherited c.args.h.now c.keeps.ensures c.args.numbering.now.rows.items c.args.rows.now c.args.c c.args.n s c.has_marked_base.result c.if-has_marked_base.true c.requires.rows c.requires.size k c.has_marked_base.ensures

pub returns : goal.returns
returns c = λ s k. virtual_otherwise c.args.h.now c.keeps.ensures c.args.numbering.now.rows.items c.args.rows.now c.args.c c.args.n s c.says_own_virtual.result c.has_marked_base.result c.if-has_marked_base.false c.requires.rows c.requires.size k (c.says_own_virtual.ensures s k) c.has_marked_base.ensures
