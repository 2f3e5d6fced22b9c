use Rattle.std.proofs.Common.{get_or, pos, sym}
use Rattle.foundation.proofs.Places.{any_default}
use Rattle.abi_sound.specs.Places.{places_of}
use Rattle.byte_machine.specs.declared.turn.RawOut.TheVariants.{Number}
use Rattle.byte_machine.specs.MachineState.{machine_image, state_of}
use Rattle.abi_refine.proofs.RawLines.{lines_all, lines_more, lines_none}
use Rattle.abi_refine.proofs.run.lines_of.Goals as goal

pub loop-out-init : goal.loop-out-init
loop-out-init g c =
    lines_none c.args.h.now (places_of c.args.h.now (g.L.SoundLayout.rows c.args.layout.now)) c.args.called.now (machine_image c.args.machine.now) (state_of c.args.machine.now).memory (state_of c.args.machine.now).objects c.args.trace c.new-text.result.items c.new-text.ensures.items

pub append_one-requires-clause-has_text : goal.append_one-requires-clause-has_text
append_one-requires-clause-has_text g c =
    let raw = get_or c.args.outs.now c.loop-out.out-index (Number (pos 0)) in
    c.requires.has_text raw (c.loop-out.out-index, c.loop-out-test.true, any_default c.args.outs.now c.loop-out.out-index raw (Number (pos 0)) c.loop-out-test.true)

pub loop-out-preserved : goal.loop-out-preserved
loop-out-preserved g c =
    let raw = get_or c.args.outs.now c.loop-out.out-index (Number (pos 0)) in
    lines_more c.args.h.now (places_of c.args.h.now (g.L.SoundLayout.rows c.args.layout.now)) c.args.called.now (machine_image c.args.machine.now) (state_of c.args.machine.now).memory (state_of c.args.machine.now).objects c.args.trace c.loop-out.text.items c.append_one.new.text.items c.args.outs.now c.loop-out.out-index raw
    c.loop-out-test.true (sym (any_default c.args.outs.now c.loop-out.out-index raw (Number (pos 0)) c.loop-out-test.true)) c.loop-out.invariant c.in_ok-append_one.ensures

pub returns : goal.returns
returns g c =
    lines_all c.args.h.now (places_of c.args.h.now (g.L.SoundLayout.rows c.args.layout.now)) c.args.called.now (machine_image c.args.machine.now) (state_of c.args.machine.now).memory (state_of c.args.machine.now).objects c.args.trace c.loop-out.text.items c.args.outs.now c.loop-out.out-index c.loop-out-test.false
    c.loop-out.invariant
