use Rattle.code_statements.proofs.Near.{flag_of_row}
use Rattle.code_statements.proofs.covers.has_virtual_base.Goals as goal

pub returns : goal.returns
returns g c =
    let h = c.args.site.now.h.now in
    let layout = c.args.site.now.layout.now in
    flag_of_row h (g.L.SoundLayout.rows layout) c.args.c c.layout.result.now c.len.result (g.met.L.SoundLayout.sound layout h c.requires.layout) c.layout.ensures c.len.ensures
