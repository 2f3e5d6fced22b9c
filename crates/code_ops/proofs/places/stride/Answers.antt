use Rattle.std.proofs.Common.{sym}
use Rattle.code_ops.proofs.Members.{object_known}
use Rattle.code_ops.proofs.places.stride.Goals as goal

pub type_size-requires : goal.type_size-requires
type_size-requires g c = λ e is.
    object_known c.args.site.now.h.now (g.L.SoundLayout.rows c.args.site.now.layout.now) c.requires.laid.site.keeps (g.met.L.SoundLayout.sound c.args.site.now.layout.now c.args.site.now.h.now c.requires.laid.layout) c.args.d e c.args.m c.in-Some.member.now c.requires.known (sym c.in-Some.ensures) is
