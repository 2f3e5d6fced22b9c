use Rattle.std.proofs.Common.{arith}
use Rattle.cxx_subobject.proofs.PathLemmas.{class_low, class_found}
use Rattle.code_statements.proofs.Near.{start_fits}
use Rattle.code_statements.proofs.CopySteps.{subobject_copied}
use Rattle.code_statements.proofs.copies.push_subobject.Goals as goal
use Rattle.code_ops.specs.invariants.Sites.{site_block}

pub push_own-requires-clause-site : goal.push_own-requires-clause-site
push_own-requires-clause-site g c =
    let h = c.args.site.now.h.now in
    let class = class_found h c.args.c c.class_or_first.result c.args.base.now c.requires.base.valid c.class_or_first.ensures in
    let low = class_low h c.requires.laid.site.keeps c.args.c c.class_or_first.result c.args.base.now c.requires.base.valid class in
    let known = c.requires.base.known in
    record { laid = c.requires.laid; known = omega arith }

pub push_own-requires-clause-fits : goal.push_own-requires-clause-fits
push_own-requires-clause-fits g c =
    let h = c.args.site.now.h.now in
    let class = class_found h c.args.c c.class_or_first.result c.args.base.now c.requires.base.valid c.class_or_first.ensures in
    let low = class_low h c.requires.laid.site.keeps c.args.c c.class_or_first.result c.args.base.now c.requires.base.valid class in
    let known = c.requires.base.known in
    start_fits h c.requires.laid.site.keeps (g.L.SoundLayout.rows c.args.site.now.layout.now) (g.met.L.SoundLayout.sound c.args.site.now.layout.now h c.requires.laid.layout) c.class_or_first.result (omega arith)

pub returns : goal.returns
returns g c =
    let h = c.args.site.now.h.now in
    let b = site_block g.L.SoundLayout.rows c.args.site.now in
    let class = class_found h c.args.c c.class_or_first.result c.args.base.now c.requires.base.valid c.class_or_first.ensures in
    let low = class_low h c.requires.laid.site.keeps c.args.c c.class_or_first.result c.args.base.now c.requires.base.valid class in
    subobject_copied b c.args.parts.to c.args.parts.from c.args.c c.class_or_first.result c.args.base.now c.free.result c.free-2.result c.new-list.result c.push_base.new.list c.push_base-2.new.list c.as_slice.result.now c.args.ops.now c.push_done.new.ops c.push_own.new.ops
    c.free.ensures c.free-2.ensures c.new-list.ensures c.in_ok-push_base.ensures c.in_ok-push_base-2.ensures c.as_slice.ensures c.in_ok-push_done.ensures class low c.in_ok-push_own.ensures
