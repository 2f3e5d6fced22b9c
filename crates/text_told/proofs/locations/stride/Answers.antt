use Rattle.std.proofs.Common.{sym}
use Rattle.text_told.proofs.Leading.{object_known}
use Rattle.text_told.proofs.locations.stride.Goals as goal

pub size_of_type-requires : goal.size_of_type-requires
size_of_type-requires g c = λ e is.
    object_known c.args.h.now (g.L.SoundLayout.rows c.args.layout.now) c.keeps.ensures (g.met.L.SoundLayout.sound c.args.layout.now c.args.h.now c.requires.layout) c.args.d e c.args.m c.in-Some.member.now c.requires.known (sym c.in-Some.ensures) is
