use Rattle.abi_memptr.proofs.Knowing.{data_row}
use Rattle.abi_memptr.proofs.pointer_bytes.data_place.Goals as goal

pub member_place-requires : goal.member_place-requires
member_place-requires g c = data_row c.args.h.now (g.L.SoundLayout.rows c.args.layout.now) c.args.d c.args.c c.args.m c.args.s.now (g.met.L.SoundLayout.sound c.args.layout.now c.args.h.now c.requires.layout) c.requires.value
