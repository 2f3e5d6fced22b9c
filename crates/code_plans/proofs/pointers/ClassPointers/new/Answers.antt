use Rattle.std.proofs.Common.{Bool, false, List, ap, get_or, ◌∙◌}
use Rattle.abi_sound.specs.Places.{places_of}
use Rattle.code_plans.proofs.LoneClasses.{lone_at}
use Rattle.code_plans.proofs.pointers.ClassPointers.new.Goals as goal

pub of_whole-requires-clause-lone : goal.of_whole-requires-clause-lone
of_whole-requires-clause-lone g c =
    let tables = c.args.site.now.tables.now in
    let read = c.flag_of.ensures ∙ ap (λ (flags : List Bool). get_or flags c.args.c.0 false) c.as_slice.ensures in
    lone_at c.args.site.now.h.now (places_of c.args.site.now.h.now (g.L.SoundLayout.rows c.args.site.now.layout.now)) tables.lone c.args.c c.flag_of.result c.requires.site.site.are_tables.lone read c.if-flag_of.true
