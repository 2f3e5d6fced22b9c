use Rattle.code_statements.proofs.Near.{start_fits}
use Rattle.code_statements.proofs.CoverSteps.{all_tested}
use Rattle.code_statements.proofs.covers.push_copy_used.Goals as goal
use Rattle.code_ops.specs.invariants.Sites.{site_block}

pub push_covered-requires-clause-fits : goal.push_covered-requires-clause-fits
push_covered-requires-clause-fits g c =
    let h = c.args.site.now.h.now in
    let layout = c.args.site.now.layout.now in
    start_fits h c.requires.laid.site.keeps (g.L.SoundLayout.rows layout) (g.met.L.SoundLayout.sound layout h c.requires.laid.layout) c.args.c c.requires.known

pub push_covered-requires-2-clause-fits : goal.push_covered-requires-2-clause-fits
push_covered-requires-2-clause-fits g c =
    let h = c.args.site.now.h.now in
    let layout = c.args.site.now.layout.now in
    start_fits h c.requires.laid.site.keeps (g.L.SoundLayout.rows layout) (g.met.L.SoundLayout.sound layout h c.requires.laid.layout) c.args.c c.requires.known

pub returns : goal.returns
returns g c =
    let b = site_block g.L.SoundLayout.rows c.args.site.now in
    all_tested b c.args.to c.args.from c.args.c c.free-read.result c.free-again.result c.operand_register-first.result c.operand_register-second.result c.has_virtual_base-needs_view.result
    c.args.uses.now c.push_arrow.new.uses c.push_arrow-2.new.uses c.push_views_if.new.uses c.push_views_if-2.new.uses c.push_covered.new.uses c.push_covered-2.new.uses
    c.free-read.ensures c.free-again.ensures c.operand_register-first.ensures c.operand_register-second.ensures c.has_virtual_base-needs_view.ensures
    c.in_ok-push_arrow.ensures c.in_ok-push_arrow-2.ensures c.in_ok-push_views_if.ensures c.in_ok-push_views_if-2.ensures c.in_ok-push_covered.ensures c.in_ok-push_covered-2.ensures
