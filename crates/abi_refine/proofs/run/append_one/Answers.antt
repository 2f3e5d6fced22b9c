use Rattle.std.proofs.Common.{◌∙◌, sym}
use Rattle.abi_sound.specs.Places.{places_of}
use Rattle.byte_machine.specs.MachineState.{machine_image, state_of}
use Rattle.abi_refine.proofs.RawLines.{line_hidden, line_shown}
use Rattle.abi_refine.proofs.run.append_one.Goals as goal

pub returns-then-is_hidden : goal.returns-then-is_hidden
returns-then-is_hidden g c =
    line_hidden c.args.h.now (places_of c.args.h.now (g.L.SoundLayout.rows c.args.layout.now)) c.args.called.now (machine_image c.args.machine.now) (state_of c.args.machine.now).memory (state_of c.args.machine.now).objects c.args.trace c.args.raw c.args.text.now.items (sym c.is_hidden.ensures ∙ c.if-is_hidden.true)

pub returns : goal.returns
returns g c =
    line_shown c.args.h.now (places_of c.args.h.now (g.L.SoundLayout.rows c.args.layout.now)) c.args.called.now (machine_image c.args.machine.now) (state_of c.args.machine.now).memory (state_of c.args.machine.now).objects c.args.trace c.args.raw c.args.text.now.items c.append_raw.new.text.items
    (sym c.is_hidden.ensures ∙ c.if-is_hidden.false) c.in_ok-append_raw.ensures.ok
