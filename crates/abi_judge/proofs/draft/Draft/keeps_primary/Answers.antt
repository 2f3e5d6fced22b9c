use Rattle.std.proofs.Common.{◌∙◌, ap}
use Rattle.foundation.proofs.Truth.{always}
use Rattle.abi_sound.specs.Places.{places_of, primary_in}
use Rattle.abi_judge.proofs.Judged.{no_primary, base_told, virtual_base_told}
use Rattle.abi_judge.proofs.draft.Draft.keeps_primary.Goals as goal

pub returns-in-None : goal.returns-in-None
returns-in-None c = always (no_primary c.args.self.now.h.now (places_of c.args.self.now.h.now c.args.self.now.rows.now) c.args.c c.requires.held (ap primary_in c.row.ensures ∙ c.in-None.is))

pub returns-in-Direct : goal.returns-in-Direct
returns-in-Direct c =
    base_told c.args.self.now.h.now (places_of c.args.self.now.h.now c.args.self.now.rows.now) c.args.c c.in-Direct.b c.has_dynamic_base.result c.requires.held (ap primary_in c.row.ensures ∙ c.in-Direct.is) c.has_dynamic_base.ensures

pub returns-in-Virtual : goal.returns-in-Virtual
returns-in-Virtual c =
    virtual_base_told c.args.self.now.h.now (places_of c.args.self.now.h.now c.args.self.now.rows.now) c.args.c c.in-Virtual.v c.has_dynamic_virtual_base.result c.requires.held (ap primary_in c.row.ensures ∙ c.in-Virtual.is) c.has_dynamic_virtual_base.ensures
