use Rattle.std.proofs.Common.{◌≡◌, ◌++◌, map, take}
use Rattle.byte_machine.specs.MachineState.{machine_image, state_of}
use Rattle.text_bytes.specs.RawDumps.{led_item}
use Rattle.text_bytes.proofs.led.push_led.Given as goal

abbrev pub invariant-loop-pointer : goal.invariant-loop-pointer
invariant-loop-pointer g l = l.items.items ≡ l.fn.items.items ++ map (led_item l.h (machine_image l.machine) (state_of l.machine).memory l.start) (take l.pointer-index l.pointers)
