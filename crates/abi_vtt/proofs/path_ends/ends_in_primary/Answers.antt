use Rattle.std.proofs.Common.{ap, sym}
use Rattle.abi_sound.specs.Places.{places_of, primary_in}
use Rattle.abi_vtt.proofs.PathEnds.{short_path, long_path}
use Rattle.abi_vtt.proofs.path_ends.ends_in_primary.Goals as goal

pub returns-then-len-lt2 : goal.returns-then-len-lt2
returns-then-len-lt2 g c = short_path (places_of c.args.h.now (g.L.SoundLayout.rows c.args.layout.now)) c.args.path.now c.if-len-lt2.true

pub returns : goal.returns
returns g c = long_path (places_of c.args.h.now (g.L.SoundLayout.rows c.args.layout.now)) c.args.path.now c.layout.result.now.primary _ _ c.is_direct.result c.if-len-lt2.false c.is_direct.ensures (sym (ap primary_in c.layout.ensures))
