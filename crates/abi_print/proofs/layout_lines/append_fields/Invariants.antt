use Rattle.std.proofs.Common.{◌≡◌, ◌++◌}
use Rattle.abi_print.specs.LayoutTexts.{fields_text}
use Rattle.abi_print.proofs.layout_lines.append_fields.Given as goal

-- the lines so far stand behind the text
abbrev pub invariant-loop-number : goal.invariant-loop-number
invariant-loop-number g l = l.text.items ≡ l.fn.text.items ++ fields_text l.w.h.now (g.L.SoundLayout.rows l.w.layout.now) l.fn.c l.number
