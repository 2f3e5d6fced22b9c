use Rattle.std.proofs.Common.{ap, ◌∙◌}
use Rattle.abi_sound.specs.Places.{places_of}
use Rattle.abi_print.specs.TableTexts.{group_title}
use Rattle.abi_print.proofs.TextLemmas.{same_group}
use Rattle.abi_print.proofs.table_lines.next_group.Goals as goal

pub returns-then-is_same_name : goal.returns-then-is_same_name
returns-then-is_same_name g c =
    let same = c.is_same_name.ensures c.if-is_same_name.true in
    record {
      number = c.requires.number ∙ same_group c.args.groups.now c.args.before.now c.args.word.now same;
      name = c.requires.name ∙ ap (group_title c.args.w.now.h.now (places_of c.args.w.now.h.now (g.L.SoundLayout.rows c.args.w.now.layout.now)).place) same;
    }
