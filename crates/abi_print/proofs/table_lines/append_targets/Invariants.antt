use Rattle.std.proofs.Common.{◌≡◌, ◌++◌, drop}
use Rattle.std.specs.List.{slice_get}
use Rattle.abi_sound.specs.Places.{places_of}
use Rattle.abi_print.specs.TableTexts.{group_title, group_of, targets_text}
use Rattle.abi_print.proofs.table_lines.append_targets.Given as goal

-- the lines so far and those that are left make the whole; and the group of the word before is known
abbrev pub invariant-loop-word : goal.invariant-loop-word
invariant-loop-word g l =
    let place = (places_of l.w.h.now (g.L.SoundLayout.rows l.w.layout.now)).place in
    record {
      lines : l.text.items ++ targets_text l.w.h.now place l.groups l.number (drop l.word-index l.words) ≡ l.fn.text.items ++ targets_text l.w.h.now place l.groups 0 l.words;
      counted : l.number ≡ l.word-index;
      known : slice_get l.groups l.group.number ≡ group_of l.groups l.before;
      named : l.group.name.items ≡ group_title l.w.h.now place l.before.group;
    }
