use Rattle.std.proofs.Common.{◌≡◌, take}
use Rattle.abi_sound.specs.Places.{places_of}
use Rattle.byte_machine.specs.MachineState.{machine_image, state_of}
use Rattle.text_bytes.specs.RawTexts.{raw_texts, raw_outs_to_show}
use Rattle.abi_refine.proofs.run.lines_of.Given as goal

-- the lines so far
abbrev pub invariant-loop-out : goal.invariant-loop-out
invariant-loop-out g l = l.text.items ≡ raw_texts l.h (places_of l.h (g.L.SoundLayout.rows l.layout)) l.called (machine_image l.machine) (state_of l.machine).memory (state_of l.machine).objects (raw_outs_to_show l.trace (take l.out-index l.outs))
