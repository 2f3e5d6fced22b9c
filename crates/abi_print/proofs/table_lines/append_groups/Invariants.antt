use Rattle.std.proofs.Common.{◌≡◌, ◌++◌, take}
use Rattle.std.specs.List.{flat_map}
use Rattle.abi_sound.specs.Places.{places_of}
use Rattle.abi_print.specs.TableTexts.{group_text}
use Rattle.abi_print.proofs.table_lines.append_groups.Given as goal

-- the lines so far stand behind the text
abbrev pub invariant-loop-group : goal.invariant-loop-group
invariant-loop-group g l = l.text.items ≡ l.fn.text.items ++ flat_map (group_text l.w.h.now (places_of l.w.h.now (g.L.SoundLayout.rows l.w.layout.now)).place) (take l.group-index l.groups)
