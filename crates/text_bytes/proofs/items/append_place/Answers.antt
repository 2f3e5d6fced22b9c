use Rattle.std.proofs.Common.{sym}
use Rattle.byte_machine.specs.MachineState.{state_of}
use Rattle.text_bytes.proofs.Found.{found_within}
use Rattle.text_bytes.proofs.items.append_place.Goals as goal

pub offset_in-requires-clause-low : goal.offset_in-requires-clause-low
offset_in-requires-clause-low g c = (found_within (state_of c.args.machine.now).objects c.args.at c.in-Some.object (sym c.in-Some.ensures)).0

pub offset_in-requires-clause-high : goal.offset_in-requires-clause-high
offset_in-requires-clause-high g c = (found_within (state_of c.args.machine.now).objects c.args.at c.in-Some.object (sym c.in-Some.ensures)).1
