-- The frames that a machine keeps, as frames.
use Rattle.std.specs.Prelude.{List, map, reverse}
use Rattle.byte_machine.specs.declared.frames.Kept.{Kept as GivenKept}
use Rattle.byte_machine.specs.declared.frames.Frame.{Frame as GivenFrame}
use Rattle.byte_machine.specs.Frames.{Kept, MachineFrame}

abbrev pub kept_of : GivenKept → Kept
kept_of k = record { to = k.to; class = k.class; vbase = k.vbase; add = k.add; finish = k.finish }

abbrev pub frame_of : GivenFrame → MachineFrame
frame_of f = record { registers = f.registers.items; handed = f.handed; block = f.block; start = f.start; again = f.again; stride = f.stride; is_call = f.is_call; kept = kept_of f.kept }

-- the last one of a list is the innermost
abbrev pub frames_of : List GivenFrame → List MachineFrame
frames_of frames = map frame_of (reverse frames)
