use Rattle.std.proofs.Common.{◌∙◌, ap}
use Rattle.abi_sound.specs.Places.{places_of, size_in_row}
use Rattle.abi_judge.proofs.Judged.{all_told, none_placed, positive_from}
use Rattle.abi_judge.proofs.draft.Draft.keeps_place.Goals as goal

pub returns-then-row-eq0 : goal.returns-then-row-eq0
returns-then-row-eq0 c = none_placed c.args.self.now.h.now (places_of c.args.self.now.h.now c.args.self.now.rows.now) c.args.c (ap size_in_row c.row.ensures ∙ c.if-row-eq0.true)

pub returns-else-row-eq0 : goal.returns-else-row-eq0
returns-else-row-eq0 c =
    all_told c.args.self.now.h.now c.requires.draft.keeps (places_of c.args.self.now.h.now c.args.self.now.rows.now) c.args.c c.args.list.now c.all_lie.result c.requires.list
    (positive_from c.row.result.now.size _ (ap size_in_row c.row.ensures) c.if-row-eq0.false) c.all_lie.ensures
