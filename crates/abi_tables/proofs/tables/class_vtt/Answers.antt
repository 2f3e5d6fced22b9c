use Rattle.std.proofs.Common.{refl, sym, ◌∙◌}
use Rattle.abi_sound.specs.Places.{places_of}
use Rattle.abi_vtable.proofs.Kept.{views_same}
use Rattle.abi_vtt.proofs.MarkLemmas.{some_has}
use Rattle.abi_tables.proofs.tables.class_vtt.Goals as goal

pub vtt_with_views-requires-clause-has_base : goal.vtt_with_views-requires-clause-has_base
vtt_with_views-requires-clause-has_base g c = some_has c.args.h.now c.keeps.ensures c.args.c (sym c.has_virtual.ensures ∙ c.if-has_virtual.true)

pub returns-clause-views : goal.returns-clause-views
returns-clause-views g c = views_same c.args.h.now (places_of c.args.h.now (g.L.SoundLayout.rows c.args.layout.now)) c.args.views.now c.args.views.now refl
