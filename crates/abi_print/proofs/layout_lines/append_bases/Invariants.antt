use Rattle.std.proofs.Common.{◌≡◌, ◌++◌, take}
use Rattle.std.specs.List.{flat_map}
use Rattle.abi_sound.specs.Places.{places_of}
use Rattle.abi_print.specs.LayoutTexts.{base_text}
use Rattle.abi_print.proofs.layout_lines.append_bases.Given as goal

-- the lines so far stand behind the text
abbrev pub invariant-loop-s : goal.invariant-loop-s
invariant-loop-s g l = l.text.items ≡ l.fn.text.items ++ flat_map (base_text l.w.h.now (places_of l.w.h.now (g.L.SoundLayout.rows l.w.layout.now)).place l.fn.c) (take l.s-index l.list)
