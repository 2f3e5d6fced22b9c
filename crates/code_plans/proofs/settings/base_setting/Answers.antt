use Rattle.cxx_subobject.proofs.DecidingLemmas.{base_of_shared}
use Rattle.code_ops.proofs.Bases.{path_whole}
use Rattle.code_plans.proofs.Known.{virtual_known}
use Rattle.code_plans.proofs.settings.base_setting.Goals as goal

pub place_behind-requires-clause-known : goal.place_behind-requires-clause-known
place_behind-requires-clause-known g c = virtual_known c.args.site.now.h.now c.requires.site.site.keeps c.args.c c.in-Shared.v c.requires.known (base_of_shared c.args.site.now.h.now c.args.c c.in-Shared.v c.args.s.now c.requires.valid c.in-Shared.is)

pub place_behind-requires-clause-valid : goal.place_behind-requires-clause-valid
place_behind-requires-clause-valid g c = path_whole c.args.site.now.h.now c.args.c c.in-Shared.v c.args.s.now c.requires.valid c.in-Shared.is

pub vbase_word-requires-clause-base : goal.vbase_word-requires-clause-base
vbase_word-requires-clause-base g c = base_of_shared c.args.site.now.h.now c.args.c c.in-Shared.v c.args.s.now c.requires.valid c.in-Shared.is
