use Rattle.std.proofs.Common.{◌≡◌, ◌++◌, take}
use Rattle.abi_sound.specs.Places.{places_of}
use Rattle.text_told.specs.OutTexts.{text_of}
use Rattle.path_run.proofs.lines.append_told.Given as goal

-- the lines so far stand behind the text
abbrev pub invariant-loop-out : goal.invariant-loop-out
invariant-loop-out g l = l.text.items ≡ l.fn.text.items ++ text_of l.h (places_of l.h (g.L.SoundLayout.rows l.layout)) (take l.out-index l.outs)
