use Rattle.std.proofs.Common.{sym, ◌∙◌}
use Rattle.abi_sound.specs.Places.{places_of}
use Rattle.abi_tables.proofs.NumberLemmas.{sub_none, sub_some}
use Rattle.abi_tables.proofs.vtt_lengths.sub_word_count.Goals as goal

pub returns-then-not-has_virtual : goal.returns-then-not-has_virtual
returns-then-not-has_virtual g c = λ are. sub_none c.args.h.now (places_of c.args.h.now (g.L.SoundLayout.rows c.args.layout.now)) c.args.c (sym c.has_virtual.ensures ∙ c.if-not-has_virtual.true)

pub returns : goal.returns
returns g c = λ are. sub_some c.args.h.now (places_of c.args.h.now (g.L.SoundLayout.rows c.args.layout.now)) c.args.c c.number_of.result c.capped.result (sym c.has_virtual.ensures ∙ c.if-not-has_virtual.false) (c.number_of.ensures ∙ are.each c.args.c c.requires.known) c.capped.ensures
